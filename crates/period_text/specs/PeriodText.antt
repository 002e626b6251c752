-- Calls: the notes of a call on the bus as text (document 01, "Bench book and report"), and the
-- most octets that they take, as text and as octets.
-- Interface: `event_noted`, `period_room`, `period_octets_room`. Assumes nothing.
use Rattle.std.specs.Prelude.{cond, List, [], ◌∷◌, ◌≡◌, ℕ, ◌+◌, ◌*◌, ◌≤◌, ◌<◌, eqb, length}
use Rattle.notes_and_cells.specs.Notes.{REFUSED, noted}
use Rattle.notes_and_cells.specs.declared.notes.Notes.{Notes}
use Rattle.hdlc.specs.Image.{longest_body}
use Rattle.bus_rules.specs.Bus.{Note, terminals, notes_of}
use Rattle.period_hearing.specs.declared.hears.UnitNotes.{UnitNotes}
use Rattle.bus_record.specs.declared.side.RunAnswer.{RunAnswer}
use Rattle.bus_call_specs.specs.Lists.{period_told}
use Rattle.note_text.specs.NoteText.{note, notes_in, notes_text}
use Rattle.note_text.specs.Lengths.{numbers, line_room, heard_room, octets_room}
use Rattle.note_text.specs.declared.form.Form.TheVariants.{Octets}

-- The notes of an event: those that the call hands back; "In a book, 3 to 8 become the note
-- `refused` with the line's unit."
unfoldable pub event_noted : ℕ → ℕ → Notes → ℕ → List Note
event_noted period unit notes reply =
    cond (eqb reply 0) (notes_of period unit (noted notes))
    (note period unit REFUSED (reply ∷ []) ∷ [])

-- The most notes of what is heard in a period, beside the reader's: four of unit 0's hearing and
-- six of each terminal's, two of them of its frames.
abbrev pub most_heard : ℕ
most_heard = 4 + terminals * 6

-- Those of the timers: four of unit 0's and four of each terminal's.
abbrev pub most_timed : ℕ
most_timed = 4 + terminals * 4

abbrev pub most_notes : ℕ
most_notes = most_heard + most_timed

-- The most octets that the notes of a period take, the reader's with a body among them.
abbrev pub period_room : ℕ
period_room = heard_room + most_notes * line_room

-- The text of a period's notes fits, whatever they are.
abbrev pub PeriodFits : Type 0
PeriodFits =
    (now : ℕ) (r : RunAnswer) (ns : List UnitNotes) (octets : List ℕ)
    → now + 1 < numbers → length ns ≡ terminals → length octets ≤ longest_body
    → length (notes_text (period_told now r ns octets)) ≤ period_room

-- And that of an event's.
abbrev pub EventFits : Type 0
EventFits =
    (period unit : ℕ) (notes : Notes) (reply : ℕ)
    → period < numbers → unit < numbers → reply < numbers → length (notes_text (event_noted period unit notes reply)) ≤ period_room

-- ---- The same as octets, where a refusal is the call's reply and no note.
abbrev pub period_octets_room : ℕ
period_octets_room = (octets_room + longest_body) + most_notes * octets_room

abbrev pub PeriodOctetsFit : Type 0
PeriodOctetsFit =
    (now : ℕ) (r : RunAnswer) (ns : List UnitNotes) (octets : List ℕ)
    → length ns ≡ terminals → length octets ≤ longest_body → length (notes_in Octets (period_told now r ns octets)) ≤ period_octets_room

abbrev pub EventOctetsFit : Type 0
EventOctetsFit = (period unit : ℕ) (notes : Notes) → length (notes_in Octets (notes_of period unit (noted notes))) ≤ 4 * octets_room
