-- Framed periods and pulses.
pub mod Framed
pub mod Laws
