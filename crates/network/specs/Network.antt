-- Rules: the network end (document 01, "Activation" and "Order inside a period"). An event finds
-- its cell in table 6-3, and the cell says what becomes of the record.
-- Interface: `fresh`, `unchanged`, `moved`, `acts`, `happens`, `and_then`, `aligned`, `bars`,
-- `requests`, `t1_due`, `t2_due`, `timers`, `heard_as`, `hears`. Assumes nothing.
use Rattle.std.specs.Prelude.{Bool, true, false, cond, ◌||◌, [], ◌++◌, ℕ, eqb}
use Rattle.notes_and_cells.specs.Notes.{packed_notes, noted}
use Rattle.notes_and_cells.specs.Cells.{start_t2, cell_of}
use Rattle.notes_and_cells.specs.declared.cell.Cell.{Cell}
use Rattle.notes_and_cells.specs.declared.cell.Cell.TheVariants.{To, Stay, Impossible, Absent}
use Rattle.table_6_3.specs.Table63.{table63, G1, G2, G3, G4, ar_row, dr_row, t1_row, t2_row}
use Rattle.timing.specs.Timers.{T1, T2, due, started_by, timer_after}
use Rattle.alignment.specs.Alignment.{framed_to_gain, unframed_to_lose, followed}
use Rattle.alignment.specs.Alignment as alignment
use Rattle.heard_line.specs.Heard.{upward_event, loss_up}
use Rattle.alignment.specs.declared.Alignment.{Alignment}
use Rattle.alignment.specs.declared.Followed.{Followed}
use Rattle.heard_line.specs.declared.heard.Upward.{Upward}
use Rattle.network.specs.declared.Network.{Network}
use Rattle.network.specs.Steps.{NetworkStep}

-- "A fresh bus is in G1, unaligned, with no timer running."
abbrev pub fresh : Network
fresh = record { t1 = 0; t2 = 0; state = G1; alignment = alignment.fresh }

-- Nothing happens, and the reply is k.
abbrev pub unchanged : ℕ → Network → NetworkStep
unchanged k n = record { network = n; notes = packed_notes []; reply = k }

-- The next state, with a cell's timer action.
unfoldable pub moved : ℕ → ℕ → ℕ → Network → Network
moved next action now n =
    record {
      t1 = timer_after T1 action now n.t1;
      t2 = started_by start_t2 T2 action now n.t2;
      state = next;
      alignment = n.alignment;
    }

-- What a cell does in period now. "A cell that is impossible there changes nothing, save for
-- requests (refusal 5)": `bars` says which requests those are. An empty cell changes nothing
-- either.
unfoldable pub acts : Cell → ℕ → Network → NetworkStep
acts (To next action notes) now n = record { network = moved next action now n; notes = notes; reply = 0 }
acts (Stay notes) now n = record { network = n; notes = notes; reply = 0 }
acts Impossible now n = unchanged 0 n
acts Absent now n = unchanged 0 n

-- An event of table 6-3, by its number there. A number that is no event does nothing.
unfoldable pub happens : ℕ → ℕ → Network → NetworkStep
happens event now n = acts (cell_of table63 event n.state) now n

-- One event after the other: the notes of both, in order.
unfoldable pub and_then : NetworkStep → (Network → NetworkStep) → NetworkStep
and_then s f =
    record {
      network = (f s.network).network;
      notes = packed_notes (noted s.notes ++ noted (f s.network).notes);
      reply = 0;
    }

-- The record with another alignment.
unfoldable pub aligned : Alignment → Network → Network
aligned a n = record { t1 = n.t1; t2 = n.t2; state = n.state; alignment = a }

-- Reason 5 for the network end, by an event's number in table 6-3 and the state: "`ar` in .. G2 or
-- G3, `dr` in G1 or G4".
unfoldable pub bars : ℕ → ℕ → Bool
bars event state =
    cond (eqb event ar_row) (eqb state G2 || eqb state G3)
    (cond (eqb event dr_row) (eqb state G1 || eqb state G4) false)

-- `ar` and `dr`; refusal 4 for what is no request, 5 where the state bars it.
abbrev pub is_request : ℕ → Bool
is_request event = cond (eqb event ar_row) true (eqb event dr_row)

unfoldable pub requests : ℕ → ℕ → Network → NetworkStep
requests event now n =
    cond (is_request event) (cond (bars event n.state) (unchanged 5 n) (happens event now n)) (unchanged 4 n)

-- The start of a period: "T1 comes before T2". A due timer is spent whatever the cell
-- (docs/DECISIONS.md, reading 12).
unfoldable pub t1_due : ℕ → Network → NetworkStep
t1_due now n =
    cond (due n.t1 now)
    (happens t1_row now (record { t1 = 0; t2 = n.t2; state = n.state; alignment = n.alignment }))
    (unchanged 0 n)

unfoldable pub t2_due : ℕ → Network → NetworkStep
t2_due now n =
    cond (due n.t2 now)
    (happens t2_row now (record { t1 = n.t1; t2 = 0; state = n.state; alignment = n.alignment }))
    (unchanged 0 n)

unfoldable pub timers : ℕ → Network → NetworkStep
timers now n = and_then (t1_due now n) (t2_due now)

-- A period is heard: alignment follows it; then come the event of loss, if any, and what the line
-- is.
unfoldable pub heard_as : Upward → Followed → ℕ → Network → NetworkStep
heard_as line f now n = and_then (happens (loss_up f) now (aligned f.alignment n)) (happens (upward_event line f) now)

unfoldable pub hears : Upward → ℕ → Network → NetworkStep
hears line now n = heard_as line (followed framed_to_gain unframed_to_lose line.pulse line.framed n.alignment) now n
