-- What a driver keeps, and what its turn does.
pub mod Turn
