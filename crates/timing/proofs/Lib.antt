-- Counts and timers stay in their ranges (RangesKept); until when a timer is not due (TimerLaws).
pub mod RangesKept
pub mod TimerLaws
