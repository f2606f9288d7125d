-- What the contracts of dock cite, in document 01's order; the same for one slot; then the numbers of its answers, laws, and what computes.
pub mod Dock
pub mod Begin
pub mod Next
pub mod Tell
pub mod Slots
pub mod Numbers
pub mod RefusalLaws
pub mod SlotLaws
pub mod Computing
