-- Counts of periods and D opportunities, timers, and how long a timer is not due.
pub mod Counts
pub mod Calls
pub mod Timers
pub mod Clear
