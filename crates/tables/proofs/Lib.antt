-- What the proofs of loading cite.
pub mod Loading
