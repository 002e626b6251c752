-- Calls: stepping a bus that is lent as octets: each call is the call of crate `bus_calls` on what
-- the octets stand for, and its notes come back as octets.
-- Interface: `notes_octets`, `notes_room`, `told_number`, `host_reply`, `host_bus`, `host_notes`, `event_number`,
-- `most_to`, `host_run_reply`, `host_run_bus`, `host_run_notes`. Assumes nothing.
use Rattle.std.specs.Prelude.{Result, Ok, Err, cond, List, [], ◌∷◌, ◌++◌, ℕ, ◌+◌, ◌-◌, eqb, ltb, length}
use Rattle.refusals.specs.declared.Refusal.{Refusal}
use Rattle.refusals.specs.Numbers.{number}
use Rattle.bus_rules.specs.Bus.{Note}
use Rattle.bus_rules.specs.Calls.{Call}
use Rattle.bus_call_specs.specs.Kept.{Kept}
use Rattle.bus_call_specs.specs.Run.{run_answer, kept_after}
use Rattle.bus_call_specs.specs.Lists.{called, replied, notes_told, run_told}
use Rattle.note_text.specs.Room.{laid}
use Rattle.note_text.specs.NoteText.{notes_in}
use Rattle.note_text.specs.declared.form.Form.TheVariants.{Octets}
use Rattle.period_text.specs.PeriodText.{period_octets_room}
use Rattle.bus_octets.specs.Layout.{bus_octets, shown}
use Rattle.host_bus.specs.Lent.{lent_reason}

-- ---- Notes as octets (crate `note_text`, specs/NoteOctets.antt), one behind the other; 0 in the
-- place of a code ends them.
unfoldable pub notes_octets : List Note → List ℕ
notes_octets notes = notes_in Octets notes ++ (0 ∷ [])

-- the room that is asked for: it holds the notes of any call
abbrev pub notes_room : ℕ
notes_room = period_octets_room + 1

-- ---- A call on octets s that stand for a bus, with `room` for its notes: where 1 and 2 do not
-- hold, the reply, what it leaves and its notes are those of the call on that bus; a refused call
-- changes nothing.
module _ (s room : List ℕ) where
  abbrev pub reason : ℕ
  reason = lent_reason s (length room) notes_room

  unfoldable pub reply_with : ℕ → ℕ
  reply_with reply = cond (eqb reason 0) reply reason

  unfoldable pub bus_with : Kept → List ℕ
  bus_with left = cond (eqb reason 0) (bus_octets left) s

  unfoldable pub notes_with : ℕ → List Note → List ℕ
  notes_with reply notes = cond (eqb (reply_with reply) 0) (laid room 0 (notes_octets notes)) room

-- what a host is told: the reply of the bus, or the number of the reason for which what is lent was turned down
abbrev pub told_number : Result ℕ Refusal → ℕ
told_number (Ok reply) = reply
told_number (Err r) = number r

-- ---- An event or a period.
unfoldable pub host_reply : List ℕ → List ℕ → Call → ℕ
host_reply s room c = reply_with s room (replied (shown s) c)

unfoldable pub host_bus : List ℕ → List ℕ → Call → List ℕ
host_bus s room c = bus_with s room (called (shown s) c)

unfoldable pub host_notes : List ℕ → List ℕ → Call → List ℕ
host_notes s room c = notes_with s room (replied (shown s) c) (notes_told (shown s) c)

-- the code passes the number of an event on as an octet: what is above one is no event, as 0 is
-- none
abbrev pub event_number : ℕ → ℕ
event_number number = cond (ltb number 256) number 0

-- ---- A run, until `until` periods have been run since the bus was fresh or one hands back notes.
abbrev pub most_to : ℕ → List ℕ → ℕ
most_to until s = until - (shown s).bus.periods.0

unfoldable pub host_run_reply : List ℕ → List ℕ → ℕ → ℕ
host_run_reply s room most = reply_with s room (run_answer most (shown s)).reply

unfoldable pub host_run_bus : List ℕ → List ℕ → ℕ → List ℕ
host_run_bus s room most = bus_with s room (kept_after most (shown s))

unfoldable pub host_run_notes : List ℕ → List ℕ → ℕ → List ℕ
host_run_notes s room most = notes_with s room (run_answer most (shown s)).reply (run_told most (shown s))
