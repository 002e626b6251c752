-- The reasons for which a call is turned down, and their numbers.
pub mod Numbers
pub mod Laws
