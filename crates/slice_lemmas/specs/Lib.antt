-- Lists taken element by element, with an index.
pub mod Over
