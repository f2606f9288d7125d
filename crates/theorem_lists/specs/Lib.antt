-- What holds of a dock after any list of calls from an opened one, and the theorem on every list of events: the statement is at the end of
-- Histories.
pub mod Courses
pub mod Held
pub mod Keeping
pub mod Calls
pub mod MadeLaws
pub mod Store
pub mod PlainStore
pub mod Histories
pub mod Acts
pub mod Example
pub mod StarredLists
pub mod Loaded
