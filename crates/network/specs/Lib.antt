-- The network end.
pub mod Steps
pub mod Network
pub mod Calls
