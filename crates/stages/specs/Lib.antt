-- What the contracts of stages cite, and the laws on it.
pub mod Stages
pub mod Transfers
pub mod Laws
