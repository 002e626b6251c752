-- How the code goes: what running periods up to a line's, and giving a line's event, do to the
-- record, to what is lent with it and to the room.
-- Interface: `RunsTo`, `Gives`. Assumes nothing.
use Rattle.std.specs.Prelude.{List, ◌≡◌, ℕ, ◌+◌, ◌-◌, ◌≤◌, length, replicate}
use Rattle.bus_rules.specs.Calls.{Call}
use Rattle.bus_rules.specs.Calls.Call.{event, period}
use Rattle.bus_call_specs.specs.Kept.{Kept}
use Rattle.book_line.specs.Value.{value_octets}
use Rattle.note_text.specs.Room.{Put}
use Rattle.note_text.specs.NoteText.{notes_text}
use Rattle.report.specs.Told.{done, done_all, book_told, all_book_told}

-- the periods run from what k has run to what k' has
abbrev pub periods_to : Kept → Kept → List Call
periods_to k k' = replicate (k'.bus.periods.0 - k.bus.periods.0) period

-- Some or all of the periods before period `to` are run, and all their notes stand in the room.
pub record RunsTo (k : Kept) (to : ℕ) (room : List ℕ) (wrote : ℕ) (k' : Kept) (wrote' : ℕ) (room' : List ℕ) : Type 0 where
  pub from : k.bus.periods.0 ≤ k'.bus.periods.0
  pub up_to : k'.bus.periods.0 ≤ to
  pub left : k' ≡ done_all k (periods_to k k')
  pub put : Put room wrote (notes_text (all_book_told k (periods_to k k'))) wrote' room'
  pub fits : wrote + length (notes_text (all_book_told k (periods_to k k'))) ≤ length room

-- the call of a line's event, whose value stands in the book as `value`
abbrev pub given : ℕ → ℕ → List ℕ → Call
given unit number value = event unit number (value_octets number value)

pub record Gives (k : Kept) (unit number : ℕ) (value room : List ℕ) (wrote : ℕ) (k' : Kept) (wrote' : ℕ) (room' : List ℕ) : Type 0 where
  pub left : k' ≡ done k (given unit number value)
  pub put : Put room wrote (notes_text (book_told k (given unit number value))) wrote' room'
  pub fits : wrote + length (notes_text (book_told k (given unit number value))) ≤ length room
