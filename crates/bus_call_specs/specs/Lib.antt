-- The calls on a bus. What a call finds (Kept) and the bus that it shows (Shown); a period as
-- document 01 has it (Period) and as the code takes it (Step); refusals 1, 2 and 9 (Ready); runs
-- (Run); events (Event); lists of calls (Lists) and demand 3 of them (Demand3); calls that are
-- turned down (Refused).
pub mod Kept
pub mod Shown
pub mod Period
pub mod Step
pub mod Ready
pub mod Run
pub mod Event
pub mod Lists
pub mod Demand3
pub mod Refused
