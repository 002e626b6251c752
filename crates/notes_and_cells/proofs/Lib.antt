-- Tests over every cell of a table (Everywhere), one law for every row in code (Rows), notes in
-- order and none cut off (NotesKept), and the states that cells lead to (NextState).
pub mod Everywhere
pub mod Rows
pub mod NotesKept
pub mod NextState
