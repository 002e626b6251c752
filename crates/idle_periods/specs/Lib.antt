-- Still buses, and how many periods are one step from there (Still); the law of leaps (Leap); a
-- turn of the loop of a run (Turn); scenes, computed (Scenes).
pub mod Still
pub mod Leap
pub mod Turn
pub mod Scenes
