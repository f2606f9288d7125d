-- Document 01, "Traced jobs": those marked * as one theorem.
pub mod Traces
