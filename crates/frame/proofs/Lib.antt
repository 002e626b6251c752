-- What is shown of the frames, and what the proofs of several functions share.
pub mod Bits
pub mod Words
pub mod Emit
pub mod Groups
pub mod Frames
pub mod Laws
