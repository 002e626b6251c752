-- Calls: an event on the record and what is lent with it (document 01, "Bench book and report" and
-- "Reasons a call is turned down").
-- Interface: `event_told`, `terminals_after`, `images_after`, `letters_after`. Assumes nothing.
use Rattle.std.specs.Prelude.{cond, List, [], ℕ, ◌-◌, eqb, length, get_or, set}
use Rattle.notes_and_cells.specs.Notes.{packed_notes}
use Rattle.terminal.specs.Terminal.{fresh}
use Rattle.terminal.specs.declared.Terminal.{Terminal}
use Rattle.terminal.specs.Steps.{TerminalStep}
use Rattle.bus_event.specs.Event.{told, first_reason, network_told, terminal_told, event_settled}
use Rattle.bus_event.specs.Event as parts
use Rattle.bus_record.specs.declared.record.BusRecord.{BusRecord}
use Rattle.bus_event.specs.declared.event.Told.{Told}
use Rattle.bus_call_specs.specs.Ready.{eight_in_range}

-- An event of unit `unit`, with a value, on a record, terminals, images and letters.
module _ (unit event : ℕ) (value : List ℕ) (bus : BusRecord) (ts : List Terminal) (images letters : List ℕ) where
  -- the first reason that is known before a unit is asked, or 0
  abbrev pub reason : ℕ
  reason = first_reason (eight_in_range ts) bus (length images) letters unit event value

  -- the terminal of the unit, and what the event gives there
  abbrev pub terminal_of : Terminal
  terminal_of = get_or ts (unit - 1) fresh

  abbrev pub at_terminal : TerminalStep
  at_terminal = terminal_told event images (unit - 1) value bus.periods terminal_of

  unfoldable pub event_told : Told
  event_told =
      cond (eqb reason 0)
      (cond (eqb unit 0) (network_told event bus) (event_settled bus unit event value at_terminal))
      (told bus (packed_notes []) reason)

  unfoldable pub terminals_after : List Terminal
  terminals_after = cond (eqb reason 0) (cond (eqb unit 0) ts (set ts (unit - 1) at_terminal.terminal)) ts

  unfoldable pub images_after : List ℕ
  images_after = cond (eqb reason 0) (cond (eqb unit 0) images (parts.images_after event terminal_of (unit - 1) value images)) images

  unfoldable pub letters_after : List ℕ
  letters_after = cond (eqb reason 0) (cond (eqb unit 0) (parts.letters_after event value letters) letters) letters
