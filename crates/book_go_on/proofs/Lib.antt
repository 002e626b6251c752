-- Periods run up to a line's (Running), an event (Giving), each step (Moving), a line (Lines), the loop over the lines (Going,
-- ReadOn) and the call (Going).
pub mod Running
pub mod Giving
pub mod Moving
pub mod Lines
pub mod Going
pub mod ReadOn
