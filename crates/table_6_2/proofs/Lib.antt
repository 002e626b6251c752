-- What table 6-2 comes to.
pub mod Laws
