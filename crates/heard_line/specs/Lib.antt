-- A heard period: what a heard line is, what a lent line shows.
pub mod Heard
pub mod Sensing
pub mod Calls
