-- Why the code of sheets meets its contracts, bottom to top.
pub mod Words
pub mod Testing
pub mod Looking
pub mod Clipped
pub mod Sweep
pub mod Answering
