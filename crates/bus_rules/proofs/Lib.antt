-- What is on the line without building it (Quick), and that nothing later changes what was taken
-- (Later); the bus without a cycle (Off), and with one (CycleOnBus); the terminals of a bus through
-- each call (Stations, Simulation: a list of actions on the D channel); what every list of calls
-- leaves (Sound); demand 3 (Mapping, Stretches, Demand3) and that it is not empty (Exists); the
-- notes of every call (Telling); refusals (Refusals, Barred); the frames that a terminal completes
-- in a period (OneDone); every field in its range (Ranges); INFO 1 never beside INFO 3 (Apart).
pub mod Quick
pub mod Off
pub mod CycleOnBus
pub mod Stations
pub mod Mapping
pub mod Simulation
pub mod Stretches
pub mod Telling
pub mod TerminalDoes
pub mod Refusals
pub mod OneDone
pub mod Later
pub mod Ranges
pub mod Sound
pub mod Barred
pub mod Demand3
pub mod Exists
pub mod Apart
