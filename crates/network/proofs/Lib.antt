-- Every call leaves the record in its range (RangesKept); the calls against the steps that they check, notes, states and order of
-- events (Laws); lemmas (TwoEvents, Barred).
pub mod TwoEvents
pub mod RangesKept
pub mod Barred
pub mod Laws
pub mod Answered
