-- What is shown of framed periods and pulses.
pub mod FirstPulse
pub mod Laws
pub mod Passing
