-- What the contracts of tables cite, and the laws on it.
pub mod Tables
pub mod TablesLaws
pub mod Writing
pub mod Examples
pub mod Words
pub mod WordsLaws
