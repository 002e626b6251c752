-- What is shown of the fields' octets and of the two calls, and what the proofs of several functions share.
pub mod Octets
pub mod Calls
pub mod Laws
