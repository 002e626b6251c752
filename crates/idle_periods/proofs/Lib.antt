-- A reach of 0 (NoReach); what a reach says (Stays); a period of a still bus (StillPeriod); the law of leaps (Leaping); a leap, and a run
-- of periods alone, as turns of a run's loop (Turning, AloneTurns).
pub mod NoReach
pub mod Stays
pub mod StillPeriod
pub mod Leaping
pub mod Turning
pub mod AloneTurns
pub mod Gathered
