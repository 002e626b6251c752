-- Cells of tables 6-2 and 6-3 of JT-I430, and the notes and events of document 01, with the numbers
-- that they carry.
pub mod Events
pub mod NumberOfOctets
pub mod Notes
pub mod Names
pub mod Cells
pub mod CellParts
