-- A terminal that rests (Rests); what the terminals' hearing is on the bus (Shown).
pub mod Rests
pub mod Shown
