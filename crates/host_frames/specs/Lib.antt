-- The fields of a frame as octets, and the two calls of a host that passes only numbers and octets.
pub mod Octets
pub mod Calls
pub mod Laws
