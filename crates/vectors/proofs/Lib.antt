-- What the proofs of the crate's functions share.
pub mod Pass
pub mod Building
pub mod Gluing
pub mod Editing
pub mod Walking
pub mod Splitting
pub mod Moving
pub mod Testing
