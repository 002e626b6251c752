-- What a loop over a slice has made of the list after some turns, and after all (Over).
pub mod Over
