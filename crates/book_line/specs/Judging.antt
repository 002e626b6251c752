-- Calls: what the judging of a number and of a line answers.
-- Interface: every name. Assumes nothing.
use Rattle.std.specs.Prelude.{cond, not, ◌&&◌, List, ℕ, eqb, Result, Ok, Err}
use Rattle.refusals.specs.declared.Refusal.{Refusal}
use Rattle.refusals.specs.declared.Refusal.TheVariants.{WrongLine}
use Rattle.text.specs.Text.{number}
use Rattle.text.specs.Fields.{ends_of}
use Rattle.text.specs.declared.field.Ends.{Ends}
use Rattle.book_line.specs.EventNames.{event_named}
use Rattle.book_line.specs.Line.{is_number, value_fits, period_of, unit_of, event_of, formed}
use Rattle.book_line.specs.declared.line.Entry.{Entry}

-- A number, or that its form is wrong: 12.
unfoldable pub number_of : List ℕ → Result ℕ Refusal
number_of f = cond (is_number f) (Ok (number f)) (Err WrongLine)

-- What a line says and where its fields end.
abbrev pub entry : (period unit event : ℕ) → Ends → Entry
entry period unit event ends = record { period = period; unit = unit; event = event; ends = ends }

-- What a line says, or that its form is wrong: 12.
unfoldable pub judged : List ℕ → Result Entry Refusal
judged line = cond (formed line) (Ok (entry (period_of line) (unit_of line) (event_of line) (ends_of line))) (Err WrongLine)

-- What four fields with these ends say. This is how the code goes: it is `judged` where they are
-- the fields of a line of right length (proofs/Judging.antt `four_judged`).
unfoldable pub judged_fields : List ℕ → List ℕ → List ℕ → List ℕ → Ends → Result Entry Refusal
judged_fields period unit name value ends =
    cond (is_number period && is_number unit && (not (eqb (event_named name) 0) && value_fits (event_named name) value))
    (Ok (entry (number period) (number unit) (event_named name) ends))
    (Err WrongLine)
