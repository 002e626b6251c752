-- Rules: how each note is printed (document 01, "Bench book and report"): its name and what its
-- value is.
-- Interface: `ascii`, `Value`, `printed`, `printed_as`. Assumes nothing.
use Rattle.std.specs.Prelude.{◌≡◌, refl, List, [] as []ᴸ, ◌∷◌ as ◌∷ᴸ◌, map, ℕ, get_or}
use Prim.Native.Char.{code}
use Prim.Native.String.{String, [], ◌∷◌}
use Rattle.notes_and_cells.specs.Notes.{ph_act, ph_deact, mph_act, mph_deact, mph_ei, mph_ei1, mph_ei2, mph_ii_connected}
use Rattle.notes_and_cells.specs.Notes.{mph_ii_disconnected, HEARD, TORN, DONE1, DONE2, DROPPED1, DROPPED2, REFUSED}

-- The ASCII codes of a text.
abbrev pub ascii : String → List ℕ
ascii [] = []ᴸ
ascii (c ∷ s) = code c ∷ᴸ ascii s

-- What stands in a note's value: `-`; the body in hexadecimal; a decimal number; a word.
pub data Value : Type 0 where
  no_value body number : Value
  word : List ℕ → Value

pub record Printed : Type 0 where
  pub name : List ℕ
  pub value : Value

abbrev pub plain : String → Printed
plain name = record { name = ascii name; value = no_value }

-- The notes in the order of their codes, from 1; a number that is no code has none.
unfoldable pub printed : List Printed
printed =
    plain "PH-ACT"
    ∷ᴸ plain "PH-DEACT"
    ∷ᴸ plain "MPH-ACT"
    ∷ᴸ plain "MPH-DEACT"
    ∷ᴸ plain "MPH-EI"
    ∷ᴸ plain "MPH-EI1"
    ∷ᴸ plain "MPH-EI2"
    ∷ᴸ record { name = ascii "MPH-II"; value = word (ascii "connected") }
    ∷ᴸ record { name = ascii "MPH-II"; value = word (ascii "disconnected") }
    ∷ᴸ record { name = ascii "heard"; value = body }
    ∷ᴸ plain "torn"
    ∷ᴸ plain "done1"
    ∷ᴸ plain "done2"
    ∷ᴸ plain "dropped1"
    ∷ᴸ plain "dropped2"
    ∷ᴸ record { name = ascii "refused"; value = number }
    ∷ᴸ []ᴸ

unfoldable pub printed_as : ℕ → Printed
printed_as note = get_or (plain "" ∷ᴸ printed) note (plain "")

-- Each code of Notes.antt is printed by its name.
pub names_of_codes :
    map (λ note. (printed_as note).name)
    (ph_act
    ∷ᴸ ph_deact
    ∷ᴸ mph_act
    ∷ᴸ mph_deact
    ∷ᴸ mph_ei
    ∷ᴸ mph_ei1
    ∷ᴸ mph_ei2
    ∷ᴸ mph_ii_connected
    ∷ᴸ mph_ii_disconnected
    ∷ᴸ HEARD
    ∷ᴸ TORN
    ∷ᴸ DONE1
    ∷ᴸ DONE2
    ∷ᴸ DROPPED1
    ∷ᴸ DROPPED2
    ∷ᴸ REFUSED
    ∷ᴸ []ᴸ)
    ≡ map ascii
    ("PH-ACT"
    ∷ᴸ "PH-DEACT"
    ∷ᴸ "MPH-ACT"
    ∷ᴸ "MPH-DEACT"
    ∷ᴸ "MPH-EI"
    ∷ᴸ "MPH-EI1"
    ∷ᴸ "MPH-EI2"
    ∷ᴸ "MPH-II"
    ∷ᴸ "MPH-II"
    ∷ᴸ "heard"
    ∷ᴸ "torn"
    ∷ᴸ "done1"
    ∷ᴸ "done2"
    ∷ᴸ "dropped1"
    ∷ᴸ "dropped2"
    ∷ᴸ "refused"
    ∷ᴸ []ᴸ)
unfolding printed_as printed
names_of_codes = refl
