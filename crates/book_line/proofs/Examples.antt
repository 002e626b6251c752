-- Lines and what they say, computed: lines of right form, and each class of wrong form of reason 12.
use mathlib.Core.Path.{◌≡◌, refl}
use mathlib.Core.List.{List, [], ◌∷◌, ◌++◌, map}
use Prim.Native.Nat.{ℕ}
use Prim.Native.String.{String}
use lib.ListN.{replicate}
use Rattle.std.specs.Prelude.{Result, Ok, Err}
use Rattle.refusals.specs.declared.Refusal.{Refusal}
use Rattle.refusals.specs.declared.Refusal.TheVariants.{WrongLine}
use Rattle.symbols.specs.Symbols.{same_symbols}
use Rattle.notes_and_cells.specs.Names.{ascii}
use Rattle.text.specs.Text.{split, onto, upto, all, onward}
use Rattle.text.specs.Fields.{field_start}
use Rattle.text.specs.declared.field.Ends.{Ends}
use Rattle.book_line.specs.EventNames.{event_names, event_named}
use Rattle.book_line.specs.ValueForms.{form_of}
use Rattle.book_line.specs.Line.{is_number, is_absent, is_body_text, is_hit_text, value_fits, formed}
use Rattle.notes_and_cells.specs.Events.{ON, AR, DR, D1, D2, HIT, END}
use Rattle.book_line.specs.Judging.{entry, judged}
use Rattle.book_line.specs.Value.{hex_digit, pairs, body_of, letter_code, value_octets}
use Rattle.book_line.specs.declared.line.Entry.{Entry}

-- where four fields end
abbrev ends : ℕ → ℕ → ℕ → ℕ → Ends
ends first second third fourth = record { first = first; second = second; third = third; fourth = fourth }

-- a line, and what it says
pub record Example : Type 0 where
  pub line : List ℕ
  pub says : Result Entry Refusal

abbrev says : String → Result Entry Refusal → Example
says line judged = record { line = ascii line; says = judged }

-- a line that begins so, with that many digits 0 behind it
abbrev says_long : String → ℕ → Result Entry Refusal → Example
says_long line zeros judged = record { line = ascii line ++ replicate zeros 48; says = judged }

abbrev examples : List Example
examples =
    -- document 01's example
    says "0 1 on -" (Ok (entry 0 1 ON (ends 1 3 6 8)))
    ∷ says "1 1 ar -" (Ok (entry 1 1 AR (ends 1 3 6 8)))
    ∷ says "9 1 d1 00" (Ok (entry 9 1 D1 (ends 1 3 6 9)))
    ∷ says "20 0 end -" (Ok (entry 20 0 END (ends 2 4 8 10)))
    -- seven digits, leading zeros, an empty body, a unit that is none, an event that is not one for the unit
    ∷ says "9999999 0000008 d2 -" (Ok (entry 9999999 8 D2 (ends 7 15 18 20)))
    ∷ says "3 9 dr -" (Ok (entry 3 9 DR (ends 1 3 6 8)))
    ∷ says "5 0 hit kpmnkpmnkpmnkpmnkpmnkpmnkpmnkpmnkpmnkpmnkpmnkpmn" (Ok (entry 5 0 HIT (ends 1 3 7 56)))
    -- 600 characters with the LF; one more is too long
    ∷ says_long "0 1 d1 " 592 (Ok (entry 0 1 D1 (ends 1 3 6 599)))
    ∷ says_long "00 1 d1 " 592 (Err WrongLine)
    -- not four fields
    ∷ says "" (Err WrongLine)
    ∷ says "0 1 on" (Err WrongLine)
    ∷ says "0 1 on - " (Err WrongLine)
    ∷ says "0 1  on -" (Err WrongLine)
    -- a period or a unit of the wrong form
    ∷ says "00000001 1 on -" (Err WrongLine)
    ∷ says "+1 1 on -" (Err WrongLine)
    ∷ says " 1 on -" (Err WrongLine)
    ∷ says "0 1a on -" (Err WrongLine)
    -- an event name that is none
    ∷ says "0 1 onn -" (Err WrongLine)
    ∷ says "0 1 ON -" (Err WrongLine)
    ∷ says "0 0  -" (Err WrongLine)
    -- hexadecimal digits: an odd number of them, upper case, none
    ∷ says "0 1 d1 000" (Err WrongLine)
    ∷ says "0 1 d1 0A" (Err WrongLine)
    ∷ says "0 1 d1 " (Err WrongLine)
    -- letters of a hit: 47 of them, another letter, none
    ∷ says "5 0 hit kpmnkpmnkpmnkpmnkpmnkpmnkpmnkpmnkpmnkpmnkpmnkpm" (Err WrongLine)
    ∷ says "5 0 hit kpmnkpmnkpmnkpmnkpmnkpmnkpmnkpmnkpmnkpmnkpmnkpmx" (Err WrongLine)
    ∷ says "5 0 hit -" (Err WrongLine)
    -- a value where none belongs
    ∷ says "0 1 on 00" (Err WrongLine)
    ∷ says "0 1 on --" (Err WrongLine)
    ∷ []

pub judgements : map (λ (x : Example). judged x.line) examples ≡ map (λ (x : Example). x.says) examples
unfolding same_symbols split onto upto all onward field_start event_names event_named is_number is_absent is_body_text is_hit_text form_of value_fits formed judged
judgements = refl

-- The sixteen digits.
pub hex_digits : map hex_digit (ascii "0123456789abcdef") ≡ 0 ∷ 1 ∷ 2 ∷ 3 ∷ 4 ∷ 5 ∷ 6 ∷ 7 ∷ 8 ∷ 9 ∷ 10 ∷ 11 ∷ 12 ∷ 13 ∷ 14 ∷ 15 ∷ []
unfolding hex_digit
hex_digits = refl

-- A body, the empty one, letters, and a value of an event that has none.
pub octets_of_values :
    (value_octets D1 (ascii "00ff7e") ∷ value_octets D2 (ascii "-") ∷ value_octets HIT (ascii "kpmn") ∷ value_octets ON (ascii "-") ∷ [])
    ≡ ((0 ∷ 255 ∷ 126 ∷ []) ∷ [] ∷ (0 ∷ 1 ∷ 2 ∷ 3 ∷ []) ∷ [] ∷ [])
unfolding same_symbols is_absent hex_digit pairs body_of letter_code form_of value_octets
octets_of_values = refl
