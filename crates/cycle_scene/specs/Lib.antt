-- A cycle of Q and S bits on a bus, computed by lines. It stands apart from the rules of the bus, whose
-- must-fail edits would each compute it again.
pub mod Scene
