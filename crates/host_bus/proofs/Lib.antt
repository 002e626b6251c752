-- A fresh bus (Making); one terminal of the eight (Seen).
pub mod Making
pub mod Seen
