-- Rules: a terminal (document 01, "Activation", "Order inside a period" and "D access (6.1)"). An
-- event finds its cell in table 6-2, and the cell says what becomes of the record.
-- Interface: `fresh`, `with_fields`, `with_access`, `unchanged`, `access_after`, `dropped_note`,
-- `moved`, `acts`, `happens`, `aligned`, `no_timer`, `bars`, `switches_on`, `switches_off`,
-- `requests`, `timer`, `heard_as`, `hears`. Assumes nothing.
use Rattle.std.specs.Prelude.{Bool, false, cond, not, ◌||◌, List, [], ◌∷◌, ◌++◌, ℕ, eqb}
use Rattle.dchannel.specs.Access.{entered}
use Rattle.dchannel.specs.Access as dchannel
use Rattle.dchannel.specs.Handing.{left}
use Rattle.dchannel.specs.declared.access.Access.{Access}
use Rattle.dchannel.specs.declared.access.Left.{Left}
use Rattle.notes_and_cells.specs.Notes.{DROPPED1, DROPPED2, packed_notes, noted}
use Rattle.notes_and_cells.specs.Cells.{cell_of}
use Rattle.notes_and_cells.specs.declared.cell.Cell.{Cell}
use Rattle.notes_and_cells.specs.declared.cell.Cell.TheVariants.{To, Stay, Impossible, Absent}
use Rattle.table_6_2.specs.Table62.{table62, F1, F2, F4, F5, F7, on_row, off_row, ar_row, t3_row}
use Rattle.timing.specs.Timers.{T3, due, timer_after}
use Rattle.alignment.specs.Alignment.{framed_to_gain, unframed_to_lose, followed}
use Rattle.alignment.specs.Alignment as alignment
use Rattle.heard_line.specs.Heard.{downward_event}
use Rattle.alignment.specs.declared.Alignment.{Alignment}
use Rattle.alignment.specs.declared.Followed.{Followed}
use Rattle.heard_line.specs.declared.heard.Downward.{Downward}
use Rattle.terminal.specs.declared.Terminal.{Terminal}
use Rattle.terminal.specs.Steps.{TerminalStep}

-- "A fresh bus is in F1, unaligned, with no timer running and all levels normal."
abbrev pub fresh : Terminal
fresh = record { t3 = 0; access = dchannel.fresh; state = F1; alignment = alignment.fresh }

-- The record with these fields, and what else it has as it was. Every change of a terminal is one
-- of these: no definition but this one, `fresh` and what octets stand for (bus_octets) names all
-- fields.
abbrev pub with_fields : ℕ → Access → ℕ → Alignment → Terminal → Terminal
with_fields t3 access state alignment t = record { t3 = t3; access = access; state = state; alignment = alignment }

abbrev pub with_access : Access → Terminal → Terminal
with_access a t = with_fields t.t3 a t.state t.alignment t

-- Nothing happens, and the reply is k.
abbrev pub unchanged : ℕ → Terminal → TerminalStep
unchanged k t = record { terminal = t; notes = packed_notes []; reply = k }

-- The D access on the way from a state to the next, and the class of the frame that is dropped
-- there, 0 for none: "C: 0 on entering F7", "Leaving F7 drops a held frame and sets both levels to
-- normal".
abbrev keeping : Access → Left
keeping a = record { access = a; dropped = 0 }

unfoldable pub access_after : ℕ → ℕ → Access → Left
access_after from next a =
    cond (eqb from F7) (cond (eqb next F7) (keeping a) (left a)) (cond (eqb next F7) (keeping (entered a)) (keeping a))

-- The note of a dropped frame, by its class.
unfoldable pub dropped_note : ℕ → List ℕ
dropped_note class = cond (eqb class 1) (DROPPED1 ∷ []) (cond (eqb class 2) (DROPPED2 ∷ []) [])

-- The next state, with a cell's timer action.
unfoldable pub moved : ℕ → ℕ → ℕ → Terminal → Terminal
moved next action now t =
    with_fields (timer_after T3 action now t.t3) (access_after t.state next t.access).access next t.alignment t

-- What a cell does in period now: "D notes, dropped1 and dropped2 among them, come before the
-- table's". "A cell that is impossible there changes nothing, save for requests (refusal 5)":
-- `bars` says which requests those are. An empty cell changes nothing either.
unfoldable pub acts : Cell → ℕ → Terminal → TerminalStep
acts (To next action notes) now t =
    record {
      terminal = moved next action now t;
      notes = packed_notes (dropped_note (access_after t.state next t.access).dropped ++ noted notes);
      reply = 0;
    }
acts (Stay notes) now t = record { terminal = t; notes = notes; reply = 0 }
acts Impossible now t = unchanged 0 t
acts Absent now t = unchanged 0 t

-- An event of table 6-2, by its number there. A number that is no event does nothing.
unfoldable pub happens : ℕ → ℕ → Terminal → TerminalStep
happens event now t = acts (cell_of table62 event t.state) now t

-- The record with another alignment; and with T3 not running.
unfoldable pub aligned : Alignment → Terminal → Terminal
aligned a t = with_fields t.t3 t.access t.state a t

unfoldable pub no_timer : Terminal → Terminal
no_timer t = with_fields 0 t.access t.state t.alignment t

-- Reason 5 for a terminal, by an event's number in table 6-2 and the state: "`on` outside F1, `off`
-- in F1, `ar` in F1, F2, F4, F5, F7".
unfoldable pub bars : ℕ → ℕ → Bool
bars event state =
    cond (eqb event on_row) (not (eqb state F1))
    (cond (eqb event off_row) (eqb state F1)
    (cond (eqb event ar_row) (eqb state F1 || eqb state F2 || eqb state F4 || eqb state F5 || eqb state F7) false))

-- `on`: it "finds it unaligned with no run".
unfoldable pub switches_on : ℕ → Terminal → TerminalStep
switches_on now t = cond (bars on_row t.state) (unchanged 5 t) (happens on_row now (aligned alignment.fresh t))

-- `off`: "Power off stops T3."
unfoldable pub switches_off : ℕ → Terminal → TerminalStep
switches_off now t = cond (bars off_row t.state) (unchanged 5 t) (happens off_row now (no_timer t))

-- `ar`, the request for activation.
unfoldable pub requests : ℕ → Terminal → TerminalStep
requests now t = cond (bars ar_row t.state) (unchanged 5 t) (happens ar_row now t)

-- The start of a period: T3, spent whatever the cell (docs/DECISIONS.md, reading 12), where it is
-- due.
unfoldable pub timer : ℕ → Terminal → TerminalStep
timer now t = cond (due t.t3 now) (happens t3_row now (no_timer t)) (unchanged 0 t)

-- A period is heard: alignment follows it, and then comes what the line is. "One in F1 hears
-- nothing."
unfoldable pub heard_as : Downward → Followed → ℕ → Terminal → TerminalStep
heard_as line f now t = happens (downward_event line f) now (aligned f.alignment t)

unfoldable pub hears : Downward → ℕ → Terminal → TerminalStep
hears line now t =
    cond (eqb t.state F1)
    (unchanged 0 t)
    (heard_as line (followed framed_to_gain unframed_to_lose line.pulse line.framed t.alignment) now t)
