-- What the contracts of vectors cite, and the laws on it.
pub mod Vectors
pub mod Words
pub mod Joining
pub mod Positions
pub mod Places
pub mod Runs
pub mod SegmentLaws
pub mod AlignmentLaws
pub mod SplitLaws
pub mod SeamLaws
pub mod RunLaws
pub mod EditLaws
pub mod OverlapLaws
pub mod ByteLaws
pub mod WordLaws
