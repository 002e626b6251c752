-- The network end's reader of D in counters (Counters, ReaderRange), which reading of raw bits it
-- stands for (StandsFor), and calls one after the other (Calls).
pub mod Counters
pub mod ReaderRange
pub mod StandsFor
pub mod Calls
