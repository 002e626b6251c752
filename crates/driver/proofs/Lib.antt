-- A part read behind what is in hand (Filling), a turn and what holds after it (Turning), the turns so far (SoFar), what all turns write out
-- (AllTurns), and how many there are at most (Ending).
pub mod Filling
pub mod Turning
pub mod SoFar
pub mod AllTurns
pub mod Ending
