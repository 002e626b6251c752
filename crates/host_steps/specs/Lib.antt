-- Stepping a bus that is lent as octets (Stepping); refused calls, the notes' room, lists of calls
-- (Laws); demand 3 on such lists (Demand3).
pub mod Stepping
pub mod Laws
pub mod Demand3
