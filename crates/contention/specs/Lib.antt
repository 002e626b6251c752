-- Terminals on one D channel, for demand 3: one of them changed, what the channel does, what a
-- stretch is, what holds always, what is claimed, the class 2 wait, and some scenes.
-- proofs/Demand3.antt has the proof of the claims.
pub mod Change
pub mod Channel
pub mod Stretch
pub mod Invariant
pub mod Claims
pub mod ClassTwo
pub mod Scenes
