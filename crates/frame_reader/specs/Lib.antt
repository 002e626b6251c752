-- The frame reader and what is taken from a line at symbol level.
pub mod Read
pub mod Laws
