-- What table 6-3 comes to.
pub mod Laws
