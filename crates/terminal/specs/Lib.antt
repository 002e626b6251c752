-- A terminal.
pub mod Steps
pub mod Terminal
pub mod Calls
