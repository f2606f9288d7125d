-- What the contracts of arithmetic cite, in the order of document 01, and the laws on it.
pub mod Refusals
pub mod Loops
pub mod Rows
pub mod Rounding
pub mod Offsets
pub mod Powers
pub mod PowerLaws
pub mod Settings
pub mod SettingsLaws
pub mod Padding
pub mod PaddingLaws
pub mod Content
pub mod Zeroes
pub mod ZeroesLaws
pub mod Planner
pub mod PlannerLaws
pub mod RoundingLaws
