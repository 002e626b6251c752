-- Rules: when a line of a book is of right form, and what it then says (document 01, "Bench book
-- and report" and "Reasons a call is turned down", 12 to 14). A line stands here with its LF left
-- off.
-- Interface: `is_end`, `is_number`, `is_absent`, `is_body_text`, `is_hit_text`, `value_fits`, `period_of`,
-- `unit_of`, `event_of`, `value_of`, `longest_line`, `formed`, `in_order`. Assumes nothing.
use Rattle.std.specs.Prelude.{Bool, false, not, ◌&&◌, ◌||◌, List, ◌≡◌, refl, ℕ, ◌%◌, eqb, ltb, leb, length}
use Rattle.symbols.specs.Symbols.{line_length, same_symbols}
use Rattle.notes_and_cells.specs.Events.{END}
use Rattle.notes_and_cells.specs.Names.{ascii}
use Rattle.timing.specs.Counts.{most_periods}
use Rattle.text.specs.Text.{split, onto, fields, field, same, all, is_digit, is_hex, is_letter, number}
use Rattle.book_line.specs.EventNames.{event_names, event_named}
use Rattle.book_line.specs.ValueForms.{form_of}
use Rattle.book_line.specs.declared.form.ValueForm.{ValueForm}
use Rattle.book_line.specs.declared.form.ValueForm.TheVariants.{Absent, Body, Letters}

-- ---- Events.

-- An `end` line is accepted exactly at unit 0 ("`end` (unit 0 ..)"): no state bars it.
unfoldable pub is_end : ℕ → ℕ → Bool
is_end unit event = eqb event END && eqb unit 0

-- ---- Forms of fields.

-- "decimal, at most seven digits"
abbrev pub most_digits : ℕ
most_digits = 7

unfoldable pub is_number : List ℕ → Bool
is_number f = leb 1 (length f) && leb (length f) most_digits && all is_digit f

-- "an absent value is `-`"
unfoldable pub is_absent : List ℕ → Bool
is_absent v = same v (ascii "-")

-- "value the body in lower-case hexadecimal, `-` an empty one"; "an odd number of hexadecimal
-- digits" is of the wrong form.
unfoldable pub is_body_text : List ℕ → Bool
is_body_text v = is_absent v || (leb 1 (length v) && eqb (length v % 2) 0 && all is_hex v)

-- "48 letters .. for this period's downward line": one for each symbol.
unfoldable pub is_hit_text : List ℕ → Bool
is_hit_text v = eqb (length v) line_length && all is_letter v

-- Whether a value is of a form: "a value where none belongs" is not of the form `Absent`.
abbrev pub fits_form : ValueForm → List ℕ → Bool
fits_form Absent v = is_absent v
fits_form Body v = is_body_text v
fits_form Letters v = is_hit_text v

-- Whether it is of the form that the event wants.
unfoldable pub value_fits : ℕ → List ℕ → Bool
value_fits event v = fits_form (form_of event) v

-- ---- Lines.

-- The four fields, "period unit event value".
abbrev pub period_of : List ℕ → ℕ
period_of line = number (field 0 line)

abbrev pub unit_of : List ℕ → ℕ
unit_of line = number (field 1 line)

abbrev pub event_of : List ℕ → ℕ
event_of line = event_named (field 2 line)

abbrev pub value_of : List ℕ → List ℕ
value_of line = field 3 line

-- "a line has at most 600 characters, its LF included"
abbrev pub longest_line : ℕ
longest_line = 600

-- 12: "A line is too long, .. has not four fields, or has a field of the wrong form"; its LF is the
-- reader's matter.
unfoldable pub formed : List ℕ → Bool
formed line =
    ltb (length line) longest_line
    && eqb (length (fields line)) 4
    && is_number (field 0 line)
    && is_number (field 1 line)
    && (not (eqb (event_of line) 0) && value_fits (event_of line) (value_of line))

-- 13: "A line's period is before the last one's, or above 4,000,000."
unfoldable pub in_order : ℕ → ℕ → Bool
in_order last period = leb last period && leb period most_periods

-- ---- Computed: a line whose event field is empty has four fields, and names no event.
pub empty_event : (length (fields (ascii "0 0  -")) ≡ 4) × (formed (ascii "0 0  -") ≡ false)
unfolding split onto all same_symbols event_names event_named is_number formed
empty_event = (refl, refl)
