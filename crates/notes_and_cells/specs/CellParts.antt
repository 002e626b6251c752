-- Calls: a cell taken apart, as the calls' contracts and the tables' laws speak of it: the state
-- that it leads to, its notes, and whether there is anything in it.
-- Interface: `state_after`, `is_void`. Assumes nothing.
use Rattle.std.specs.Prelude.{Bool, true, false, [], ℕ}
use Rattle.notes_and_cells.specs.Notes.{packed_notes}
use Rattle.notes_and_cells.specs.declared.cell.Cell.{Cell}
use Rattle.notes_and_cells.specs.declared.cell.Cell.TheVariants.{To, Stay, Impossible, Absent}
use Rattle.notes_and_cells.specs.declared.notes.Notes.{Notes}

-- The state that a cell leads to from a state.
abbrev pub state_after : Cell → ℕ → ℕ
state_after (To next action notes) state = next
state_after (Stay notes) state = state
state_after Impossible state = state
state_after Absent state = state

-- The notes of a cell.
abbrev pub cell_notes : Cell → Notes
cell_notes (To next action notes) = notes
cell_notes (Stay notes) = notes
cell_notes Impossible = packed_notes []
cell_notes Absent = packed_notes []

-- Whether a cell is impossible or empty: an event changes nothing there.
abbrev pub is_void : Cell → Bool
is_void (To next action notes) = false
is_void (Stay notes) = false
is_void Impossible = true
is_void Absent = true
