-- What the contracts of blockers cite, the invariant that enter and leave keep, and the laws on both.
pub mod Blockers
pub mod Reached
pub mod Laws
