-- How much a read gives, and what is done where a call of the system fails.
pub mod Counts
pub mod Failure
