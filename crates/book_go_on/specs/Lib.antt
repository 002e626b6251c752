-- How far a book has come (Progress), what running to a period and giving an event do (RunTo), one
-- step (Steps), the call (GoOn).
pub mod Progress
pub mod RunTo
pub mod Steps
pub mod GoOn
