-- The two frames (document 01, "The line"): one file for each notion.
pub mod Four
pub mod Bits
pub mod Polarity
pub mod Down
pub mod Up
pub mod Groups
pub mod Word
pub mod Laws
