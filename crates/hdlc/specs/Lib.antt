-- Frames on the D channel as lists of bits (document 01, "D access (6.1)"): the image of a body,
-- and the network end's reader over raw bits.
pub mod Bits
pub mod Ones
pub mod Image
pub mod Reading
