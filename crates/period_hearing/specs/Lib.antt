-- A period's hearing by the terminals, and the timers due at the next one's start.
pub mod Hears
pub mod Shown
