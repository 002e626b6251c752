-- Every call leaves the record in its range (RangesKept); the calls against the steps that they check, notes and states (Laws); lemmas (Barred); what
-- the code's answers say (Answered).
pub mod RangesKept
pub mod Barred
pub mod Laws
pub mod Answered
