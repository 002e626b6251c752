-- A book lent as octets: its layout (Octets, Laws) and the calls on it (Going).
pub mod Octets
pub mod Laws
pub mod Going
