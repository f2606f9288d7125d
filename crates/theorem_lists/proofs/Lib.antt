-- The proof of the theorem on every list, bottom to top.
pub mod Lists
pub mod Geometry
pub mod Progress
pub mod Invariant
pub mod World
pub mod Renewing
pub mod Beginning
pub mod Carrying
pub mod Serving
pub mod Telling
pub mod Theorem
pub mod Example
pub mod Applied
pub mod Loaded
