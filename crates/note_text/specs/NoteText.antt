-- Rules: the text of notes (document 01, "Bench book and report"), in ASCII codes, and notes in
-- either form.
-- Interface: `decimal_in`, `decimal`, `hex_code`, `hex_of`, `note_number`, `note`, `note_line`,
-- `heading`, `stopped_line`, `note_in`, `notes_in`, `notes_text`. Assumes nothing.
use Rattle.std.specs.Prelude.{cond, List, [], ◌∷◌, ◌++◌, map, ◌≡◌, refl, ℕ, zero, suc, ◌+◌, ◌/◌, ◌%◌, ltb, take}
use Rattle.notes_and_cells.specs.Names.{Value, ascii, printed, printed_as}
use Rattle.notes_and_cells.specs.Names.Value.{no_value, body, number, word}
use Rattle.notes_and_cells.specs.NumberOfOctets.{low_first}
use Rattle.notes_and_cells.specs.Notes.{ph_act, mph_act, mph_ei2, mph_ii_connected, HEARD, DONE1, REFUSED}
use Rattle.text.specs.Text.{LF, space}
use Rattle.bus_rules.specs.Bus.{Note}
use Rattle.note_text.specs.NoteOctets.{note_octets}
use Rattle.note_text.specs.declared.form.Form.{Form}
use Rattle.note_text.specs.declared.form.Form.TheVariants.{Line, Octets}

-- ---- Numbers and octets.

-- "Numbers are printed without leading zeros." A digit is its ASCII code.
abbrev pub digit : ℕ → ℕ
digit d = 48 + d

-- The decimal digits of n, which has at most as many as the first argument says. What stands in the
-- `let` is computed only where it is asked for, so that a first argument that is far too large
-- costs nothing.
unfoldable pub decimal_in : ℕ → ℕ → List ℕ
decimal_in zero n = []
decimal_in (suc more) n = let longer = decimal_in more (n / 10) ++ (digit (n % 10) ∷ []) in cond (ltb n 10) (digit n ∷ []) longer

-- n has at most n + 1 digits.
unfoldable pub decimal : ℕ → List ℕ
decimal n = decimal_in (suc n) n

-- "the body in lower-case hexadecimal": 10 is `a`.
unfoldable pub hex_code : ℕ → ℕ
hex_code d = cond (ltb d 10) (digit d) (87 + d)

-- Two digits for an octet, the high one first.
unfoldable pub hex_of : List ℕ → List ℕ
hex_of [] = []
hex_of (o ∷ octets) = hex_code (o / 16) ∷ hex_code (o % 16) ∷ hex_of octets

-- ---- Lines.

-- "single spaces, LF"
abbrev pub line : List (List ℕ) → List ℕ
line [] = LF ∷ []
line (field ∷ []) = field ++ (LF ∷ [])
line (field ∷ next ∷ fields) = field ++ (space ∷ line (next ∷ fields))

-- A note's number has up to three octets; what follows them is not looked at.
abbrev pub number_octets : ℕ
number_octets = 3

abbrev pub note_number : List ℕ → ℕ
note_number value = low_first (take number_octets value)

-- "an absent value is `-`"
abbrev pub value_text : Value → List ℕ → List ℕ
value_text no_value value = ascii "-"
value_text body value = hex_of value
value_text number value = decimal (note_number value)
value_text (word w) value = w

abbrev pub note : ℕ → ℕ → ℕ → List ℕ → Note
note period unit code value = record { period = period; unit = unit; code = code; value = value }

-- "The fields are the period, the unit, the note and its value."
unfoldable pub note_line : Note → List ℕ
note_line n =
    let p = printed_as n.code in
    line (decimal n.period ∷ decimal n.unit ∷ p.name ∷ value_text p.value n.value ∷ [])

-- "The report's first line is printed for every book."
unfoldable pub heading : List ℕ
heading = line (ascii "period unit note value" ∷ [])

-- "the last line is `- - stopped` and the number"
unfoldable pub stopped_line : ℕ → List ℕ
stopped_line n = line (ascii "- - stopped" ∷ decimal n ∷ [])

-- ---- Notes in either form.
abbrev pub note_in : Form → Note → List ℕ
note_in Line n = note_line n
note_in Octets n = note_octets n

unfoldable pub notes_in : Form → List Note → List ℕ
notes_in form [] = []
notes_in form (n ∷ notes) = note_in form n ++ notes_in form notes

-- The lines of notes.
abbrev pub notes_text : List Note → List ℕ
notes_text notes = notes_in Line notes

-- ---- Computed: document 01's example report, line by line, and some numbers.
pub example_report :
    map note_line
    (note 0 1 mph_ii_connected []
    ∷ note 7 0 ph_act []
    ∷ note 7 0 mph_act []
    ∷ note 8 1 ph_act []
    ∷ note 8 1 mph_act []
    ∷ note 8 1 mph_ei2 []
    ∷ note 16 0 HEARD (0 ∷ [])
    ∷ note 16 1 DONE1 []
    ∷ [])
    ≡ map (λ text. line (text ∷ []))
    (ascii "0 1 MPH-II connected"
    ∷ ascii "7 0 PH-ACT -"
    ∷ ascii "7 0 MPH-ACT -"
    ∷ ascii "8 1 PH-ACT -"
    ∷ ascii "8 1 MPH-ACT -"
    ∷ ascii "8 1 MPH-EI2 -"
    ∷ ascii "16 0 heard 00"
    ∷ ascii "16 1 done1 -"
    ∷ [])
unfolding note_line decimal decimal_in hex_of hex_code printed_as printed
example_report = refl

pub example_numbers : map decimal (0 ∷ 9 ∷ 10 ∷ 4000000 ∷ []) ≡ map ascii ("0" ∷ "9" ∷ "10" ∷ "4000000" ∷ [])
unfolding decimal decimal_in
example_numbers = refl

pub example_octets : hex_of (0 ∷ 9 ∷ 10 ∷ 171 ∷ 255 ∷ []) ≡ ascii "00090aabff"
unfolding hex_of hex_code
example_octets = refl

pub example_refused : note_line (note 3 12 REFUSED (3 ∷ [])) ≡ line (ascii "3 12 refused 3" ∷ [])
unfolding low_first note_line decimal decimal_in printed_as printed
example_refused = refl

-- A number of one octet, of three, of none; of four octets the fourth is not looked at.
pub example_values :
    map (value_text number) ((22 ∷ []) ∷ (1 ∷ 2 ∷ 3 ∷ []) ∷ (255 ∷ 255 ∷ 255 ∷ []) ∷ [] ∷ (1 ∷ 2 ∷ 3 ∷ 4 ∷ []) ∷ [])
    ≡ map ascii ("22" ∷ "197121" ∷ "16777215" ∷ "0" ∷ "197121" ∷ [])
unfolding low_first decimal decimal_in
example_values = refl
