-- Rules: the cells of tables 6-2 and 6-3, in the tables' signs.
-- Interface: `START`, `STOP`, `start_t2`, `to`, `starts_to`, `stops_to`, `starts_t2_to`, `stay`,
-- `stay_with`, `impossible`, `absent`, `cell_in`, `cell_of`, `info_in`. Assumes nothing.
use Rattle.std.specs.Prelude.{List, [], ◌∷◌, ℕ, get_or}
use Rattle.notes_and_cells.specs.Notes.{packed_notes}
use Rattle.notes_and_cells.specs.declared.cell.Cell.{Cell}
use Rattle.notes_and_cells.specs.declared.cell.Cell.TheVariants.{To, Stay, Impossible, Absent}

-- What a cell does to a timer: START and STOP are for T3 in table 6-2 and for T1 in table 6-3. No
-- cell stops T2.
abbrev pub KEEP : ℕ
KEEP = 0

abbrev pub START : ℕ
START = 1

abbrev pub STOP : ℕ
STOP = 2

abbrev pub start_t2 : ℕ
start_t2 = 3

-- "a, b; Fn": give the notes a and b, go to state n. No timer is touched.
abbrev pub to : ℕ → List ℕ → Cell
to n notes = To n KEEP (packed_notes notes)

-- The same, with T3 (table 6-2) or T1 (table 6-3) started, or stopped.
abbrev pub starts_to : ℕ → List ℕ → Cell
starts_to n notes = To n START (packed_notes notes)

abbrev pub stops_to : ℕ → List ℕ → Cell
stops_to n notes = To n STOP (packed_notes notes)

-- The same, with T2 started (table 6-3).
abbrev pub starts_t2_to : ℕ → List ℕ → Cell
starts_t2_to n notes = To n start_t2 (packed_notes notes)

-- "–": no change of state; with notes in one cell of table 6-2.
abbrev pub stay : Cell
stay = Stay (packed_notes [])

abbrev pub stay_with : List ℕ → Cell
stay_with notes = Stay (packed_notes notes)

-- "/": does not exist.
abbrev pub impossible : Cell
impossible = Impossible

-- An empty cell: not defined by the layer 1 service.
abbrev pub absent : Cell
absent = Absent

-- The cell of a row at a state, counted from 1. At a number that is no state it is impossible.
unfoldable pub cell_in : List Cell → ℕ → Cell
cell_in row state = get_or (impossible ∷ row) state impossible

-- The row of a table at an event, counted from 1 in the printed order. A number that is no event
-- has no cells.
abbrev pub row_of : List (List Cell) → ℕ → List Cell
row_of table event = get_or ([] ∷ table) event []

abbrev pub cell_of : List (List Cell) → ℕ → ℕ → Cell
cell_of table event state = cell_in (row_of table event) state

-- The INFO that is sent in a state, by the list of a table's first line. At a number that is no
-- state it is INFO 0.
unfoldable pub info_in : List ℕ → ℕ → ℕ
info_in sent state = get_or (0 ∷ sent) state 0
