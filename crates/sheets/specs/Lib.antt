-- What the contracts of sheets cite, the statements on the plain byte store, and the laws on both.
pub mod Sheets
pub mod Stretches
pub mod OneTrip
pub mod Examples
pub mod RangeLaws
pub mod SheetLaws
pub mod TripLaws
