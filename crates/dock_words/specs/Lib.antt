-- What lent words mean, and that what is put is what is got.
pub mod View
pub mod TagLaws
pub mod Laws
pub mod CallWords
pub mod CallWordsLaws
