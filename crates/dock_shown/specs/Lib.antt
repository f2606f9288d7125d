-- What the combined calls answer, and what they rely on.
pub mod Shown
pub mod ShownLaws
