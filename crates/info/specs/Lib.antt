-- The INFO signals.
pub mod Info
pub mod Laws
