-- What the INFO lines show (Shown).
pub mod Shown
