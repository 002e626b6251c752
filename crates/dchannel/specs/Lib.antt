-- One terminal's access to the D channel (document 01, "D access (6.1)").
pub mod Access
pub mod AtRest
pub mod Handing
pub mod Calls
pub mod Ranges
