-- What the contracts of records cite, and the laws on it.
pub mod Records
pub mod RecordsLaws
