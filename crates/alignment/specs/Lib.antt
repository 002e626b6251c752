-- Alignment of one end.
pub mod Alignment
