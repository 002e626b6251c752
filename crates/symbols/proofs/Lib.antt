-- What is shown of symbols and lines, and the loops over them.
pub mod Fill
pub mod Scan
pub mod Comparing
pub mod Lines
pub mod Levels
pub mod Written
