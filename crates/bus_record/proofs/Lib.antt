-- The record stays in its range (RecordKept); D opportunities counted over one period (Counted); any number of bits read one by one are the
-- reader's calls over a list (Through). What the functions' proofs lean on: the line under a hit (EchoLaws), the reader's answers
-- (SpokenLaws), and a network end that hears nothing new (NetworkRests).
pub mod RecordKept
pub mod Counted
pub mod Through
pub mod EchoLaws
pub mod SpokenLaws
pub mod NetworkRests
