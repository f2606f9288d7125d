-- What the proofs of several functions cite.
pub mod SlotsOf
pub mod Merging
pub mod Steps
pub mod Shares
