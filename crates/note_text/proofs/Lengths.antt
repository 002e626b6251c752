-- Notes are as long as specs/Lengths.antt says.
use mathlib.Core.Bool.{Bool, true}
use mathlib.Core.List.{[], ◌∷◌}
use mathlib.Core.Path.{◌≡◌, refl, sym, ap, ◌∙◌}
use Prim.Native.Nat.{ℕ, ◌+◌, ◌≤◌}
use native.Mathlib.Omega.{arith}
use borrow.Author.Tests.{ltb-true, ltb-false, leb-true}
use lib.Dec.{ltb, leb}
use lib.ListN.{length, length-append}
use Rattle.test_lemmas.proofs.ByCases.{by_test, at_each_below}
use Rattle.notes_and_cells.specs.Names.{Value, printed, printed_as}
use Rattle.notes_and_cells.specs.Names.Value.{no_value, body, number, word}
use Rattle.notes_and_cells.specs.NumberOfOctets.{low_first}
use Rattle.notes_and_cells.specs.Notes.{HEARD}
use Rattle.bus_rules.specs.Bus.{Note}
use Rattle.text.specs.Text.{LF}
use Rattle.note_text.specs.NoteText.{decimal_in, decimal, hex_of, note_number, note, note_line}
use Rattle.note_text.specs.LineParts.{named, open_as, open_value}
use Rattle.note_text.specs.NoteOctets.{note_octets}
use Rattle.note_text.specs.Lengths.{DecimalFits, LineFits, NumberFits, HeardFits, OctetsLength}
use Rattle.note_text.proofs.DecimalLaws.{decimal_length}
use Rattle.note_text.proofs.HexLaws.{length_hex}
use Rattle.note_text.proofs.NoteTable.{no_code, no_code_lem}
use Rattle.note_text.proofs.NoteLaws.{line_parts}

pub decimal_fits : DecimalFits
decimal_fits n h = decimal_length 9 n (omega arith)

-- the part of a line behind its numbers
abbrev behind : Note → ℕ
behind n = length (named n.code) + length (open_value (open_as n.code) n.value)

line_length_lem : (n : Note) → length (note_line n) ≡ length (decimal n.period) + length (decimal n.unit) + 2 + behind n
line_length_lem n =
    ap length (sym (line_parts n))
    ∙ rw (
      length-append (decimal n.period),
      length-append (decimal n.unit),
      length-append (named n.code),
      length-append (open_value (open_as n.code) n.value) (LF ∷ []),
    )
    (omega arith)

abbrev short : ℕ → Bool
short code = leb (length (named code) + length (open_value (open_as code) [])) 20

behind_short : (code : ℕ) → length (named code) + length (open_value (open_as code) []) ≤ 20
unfolding named open_as printed_as printed low_first decimal decimal_in hex_of
behind_short code =
    by_test (ltb code no_code) (λ t. leb-true _ 20 (at_each_below short no_code code refl (ltb-true code no_code t)))
    (λ t. rw (no_code_lem code (ltb-false code no_code t)) (omega arith))

pub line_fits : LineFits
line_fits period unit code h k =
    rw (line_length_lem (note period unit code []))
    (omega (arith, decimal_fits period h, decimal_fits unit k, behind_short code))

-- behind a name, a number of at most ten digits
abbrev numbered : Value → ℕ → Bool
numbered no_value long = true
numbered body long = true
numbered number long = leb (long + 10) 20
numbered (word w) long = true

all_numbered : (code : ℕ) → numbered (printed_as code).value (length (named code)) ≡ true
unfolding named printed_as printed
all_numbered code =
    by_test (ltb code no_code)
    (λ t. at_each_below (λ c. numbered (printed_as c).value (length (named c))) no_code code refl (ltb-true code no_code t))
    (λ t. rw (no_code_lem code (ltb-false code no_code t)))

pub number_fits : NumberFits
unfolding open_as
number_fits period unit code value h k e small =
    let digits = decimal_fits (note_number value) small in
    let name : length (named code) + 10 ≤ 20 = leb-true _ 20 (rw e at (all_numbered code)) in
    rw (line_length_lem (note period unit code value), e)
    (omega (arith, decimal_fits period h, decimal_fits unit k))

pub heard_fits : HeardFits
unfolding named open_as printed_as printed
heard_fits period unit octets h k l =
    rw (line_length_lem (note period unit HEARD octets), length_hex octets)
    (omega (arith, decimal_fits period h, decimal_length 0 unit (omega arith)))

pub octets_length : OctetsLength
unfolding note_octets
octets_length n = omega arith
