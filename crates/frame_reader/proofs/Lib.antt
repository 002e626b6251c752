-- What is shown of the frame reader, and what the proofs of several functions share.
pub mod Octets
pub mod Fields
pub mod Reader
pub mod Laws
