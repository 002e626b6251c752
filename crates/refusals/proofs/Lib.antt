-- Proofs of the laws.
pub mod Laws
