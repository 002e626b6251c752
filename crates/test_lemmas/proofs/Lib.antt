-- Lemmas about tests, for every crate: case analysis (ByCases), and the code's operators on bools (Operators).
pub mod ByCases
pub mod Operators
