-- Symbols, lines and refusal 2.
pub mod Symbols
pub mod Calls
