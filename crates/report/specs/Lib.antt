-- The report of a book, by document 01 and as the program comes to it.
pub mod Report
pub mod Laws
pub mod Told
pub mod Ahead
