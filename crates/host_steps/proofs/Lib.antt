-- What an event and a run leave (Stepped) and tell (Told); event numbers above an octet (Numbered); how a call ends
-- (Answers, Ends); that the octets of its notes determine them (Determined).
pub mod Stepped
pub mod Told
pub mod Numbered
pub mod Answers
pub mod Ends
pub mod Determined
pub mod Laws
pub mod Demand3
