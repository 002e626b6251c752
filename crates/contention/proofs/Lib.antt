-- Demand 3 for the D channel: one terminal's opportunity (Terminal), the invariant (InvariantKept), from one opportunity to the next
-- (Trace, Waiting), no rival twice (Level), the wait (Wait, ClassTwo), what is heard (Heard.., OpeningFlag), all together (Demand3). For a
-- bus over the channel: a stretch as a part of a list (WholeList), what its steps are to the channel (Crossing).
pub mod Change
pub mod Terminal
pub mod InvariantKept
pub mod Trace
pub mod Waiting
pub mod Level
pub mod Wait
pub mod ClassTwo
pub mod HeardNext
pub mod HeardSteps
pub mod HeardPhase
pub mod HeardInOrder
pub mod OpeningFlag
pub mod WholeList
pub mod Crossing
pub mod Demand3
