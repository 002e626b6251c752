-- Whether all terminals are in order (Gathered); the number of the reason for which a run is turned down (Replies).
pub mod Gathered
pub mod Replies
