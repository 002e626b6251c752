-- Rules: what the value of a line says in octets (document 01, "Bench book and report": "value the
-- body in lower-case hexadecimal, `-` an empty one", "48 letters, k keep, p plus, m minus, n
-- none").
-- Interface: `hex_digit`, `pairs`, `letter_code`, `value_octets`. Assumes nothing.
use Rattle.std.specs.Prelude.{cond, List, [], ◌∷◌, map, ℕ, ◌+◌, ◌*◌, ◌%◌, eqb, leb}
use Prim.Native.Char.{code}
use Rattle.book_line.specs.ValueForms.{form_of}
use Rattle.book_line.specs.Line.{is_absent}
use Rattle.book_line.specs.declared.form.ValueForm.{ValueForm}
use Rattle.book_line.specs.declared.form.ValueForm.TheVariants.{Absent, Body, Letters}

-- The number that a hexadecimal digit stands for, by its code's low four bits: 0 to 9 have the
-- codes 48 to 57, a to f the codes 97 to 102. Some number below 16 for any other octet.
unfoldable pub hex_digit : ℕ → ℕ
hex_digit c = cond (leb c (code "9")) (c % 16) ((c % 16 + 9) % 16)

-- Two digits an octet, the high one first; a digit that is left over says nothing.
unfoldable pub pairs : List ℕ → List ℕ
pairs [] = []
pairs (a ∷ []) = []
pairs (a ∷ b ∷ more) = (hex_digit a * 16 + hex_digit b) ∷ pairs more

-- The octets of a body.
unfoldable pub body_of : List ℕ → List ℕ
body_of v = cond (is_absent v) [] (pairs v)

-- The code of a hit letter, by which the bus knows it: keep, plus, minus, none.
unfoldable pub letter_code : ℕ → ℕ
letter_code c = cond (eqb c (code "k")) 0 (cond (eqb c (code "p")) 1 (cond (eqb c (code "m")) 2 3))

-- The octets of a value of a form: none, a body's, the codes of a hit's letters.
abbrev pub octets_in : ValueForm → List ℕ → List ℕ
octets_in Absent v = []
octets_in Body v = body_of v
octets_in Letters v = map letter_code v

-- The octets of an event's value.
unfoldable pub value_octets : ℕ → List ℕ → List ℕ
value_octets event v = octets_in (form_of event) v
