-- What the proofs of several functions cite.
mod Mapped
mod Slots
