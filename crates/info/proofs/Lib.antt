-- What is shown of the INFO signals.
pub mod Laws
pub mod Pulses
pub mod Lines
