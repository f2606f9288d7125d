-- What crosses the boundary.
pub mod Replies
