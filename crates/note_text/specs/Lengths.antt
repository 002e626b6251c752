-- Laws: how long notes are, as lines and as octets, so that room can be lent that is large enough.
-- Interface: `numbers`, `line_room`, `heard_room`, `octets_room`. Assumes nothing.
use Rattle.std.specs.Prelude.{List, [], ◌≡◌, ℕ, ◌+◌, ◌*◌, ◌^◌, ◌≤◌, ◌<◌, length}
use Rattle.notes_and_cells.specs.Names.{printed_as}
use Rattle.notes_and_cells.specs.Names.Value.{number}
use Rattle.notes_and_cells.specs.Notes.{HEARD}
use Rattle.hdlc.specs.Image.{longest_body}
use Rattle.bus_rules.specs.Bus.{Note}
use Rattle.note_text.specs.NoteOctets.{note_octets}
use Rattle.note_text.specs.NoteText.{decimal, note_number, note, note_line}

-- Numbers are below this, and have at most so many digits.
abbrev pub numbers : ℕ
numbers = 2 ^ 32

abbrev pub most_digits : ℕ
most_digits = 10

abbrev pub DecimalFits : Type 0
DecimalFits = (n : ℕ) → n < numbers → length (decimal n) ≤ most_digits

-- The longest line without a body: two numbers, `MPH-II disconnected`, a space behind each number,
-- and LF.
abbrev pub line_room : ℕ
line_room = 2 * (most_digits + 1) + 19 + 1

abbrev pub LineFits : Type 0
LineFits =
    (period unit code : ℕ) → period < numbers → unit < numbers
    → length (note_line (note period unit code [])) ≤ line_room

-- The line of a note whose value is a number fits, too: that of any octets is below 2 ^ 24
-- (proofs/NumberLaws.antt `number_small`).
abbrev pub NumberFits : Type 0
NumberFits =
    (period unit code : ℕ) (value : List ℕ)
    → period < numbers → unit < numbers → (printed_as code).value ≡ number → note_number value < numbers
    → length (note_line (note period unit code value)) ≤ line_room

-- The line of the longest body, of a unit of one digit: the period, the unit and `heard`, a space
-- behind each, two digits for each octet, and LF.
abbrev pub heard_room : ℕ
heard_room = (most_digits + 1) + (1 + 1) + (5 + 1) + 2 * longest_body + 1

abbrev pub HeardFits : Type 0
HeardFits =
    (period unit : ℕ) (body : List ℕ) → period < numbers → unit < 10 → length body ≤ longest_body
    → length (note_line (note period unit HEARD body)) ≤ heard_room

-- A note as octets takes these 8, and the octets of its value.
abbrev pub octets_room : ℕ
octets_room = 8

abbrev pub OctetsLength : Type 0
OctetsLength = (n : Note) → length (note_octets n) ≡ octets_room + length n.value
