-- Laws of pieces and of tests of every octet; parts of a text; where fields lie; tables of the code: texts laid one behind the other (Joined), and
-- what stands beside a number (Lookup).
pub mod Pieces
pub mod Parts
pub mod Fields
pub mod Joined
pub mod Lookup
