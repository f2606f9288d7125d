-- What the proofs of several functions cite.
pub mod Told
pub mod Begun
mod Sought
