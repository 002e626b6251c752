-- Periods in which one terminal alone sends on the D channel: the sender in a few values, and the
-- terminals as the run has them (Lone); a run of such periods (Alone); whether one terminal sends
-- alone, and which (Search); a period of such a run is the period over all terminals (Period);
-- scenes, computed (Scenes).
pub mod Lone
pub mod Alone
pub mod Search
pub mod Period
pub mod Scenes
