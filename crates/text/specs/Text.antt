-- Rules: text as octets: pieces between separators, fields, digits and letters (document 01, "Bench
-- book and report": "ASCII, single spaces, LF").
-- Interface: `LF`, `space`, `onto`, `split`, `upto`, `fields`, `field`, `same`, `all`, `is_other`,
-- `is_digit`, `is_hex`, `is_letter`, `number`. Assumes nothing.
use Rattle.std.specs.Prelude.{Bool, true, cond, not, ◌&&◌, ◌||◌, List, [] as []ᴸ, ◌∷◌ as ◌∷ᴸ◌, ℕ, suc, ◌+◌, ◌-◌, ◌*◌, eqb, leb, get_or}
use Prim.Native.Char.{code}
use Rattle.symbols.specs.Symbols.{same_symbols}

abbrev pub LF : ℕ
LF = code "\n"

abbrev pub space : ℕ
space = code " "

-- ---- Pieces.

-- An octet put before the first of some pieces.
unfoldable pub onto : ℕ → List (List ℕ) → List (List ℕ)
onto c []ᴸ = (c ∷ᴸ []ᴸ) ∷ᴸ []ᴸ
onto c (p ∷ᴸ ps) = (c ∷ᴸ p) ∷ᴸ ps

-- The pieces of a text that stand between its separators: always one more than there are
-- separators.
unfoldable pub split : ℕ → List ℕ → List (List ℕ)
split sep []ᴸ = []ᴸ ∷ᴸ []ᴸ
split sep (c ∷ᴸ text) = cond (eqb c sep) ([]ᴸ ∷ᴸ split sep text) (onto c (split sep text))

-- How many octets stand before the first separator; all, where there is none.
unfoldable pub upto : ℕ → List ℕ → ℕ
upto sep []ᴸ = 0
upto sep (c ∷ᴸ text) = cond (eqb c sep) 0 (suc (upto sep text))

-- The fields of a line, its LF left off: "single spaces" stand between them.
abbrev pub fields : List ℕ → List (List ℕ)
fields line = split space line

-- Field k of a line, from 0; nothing where the line has no such field.
abbrev pub field : ℕ → List ℕ → List ℕ
field k line = get_or (fields line) k []ᴸ

-- ---- Octets.

-- Whether two texts are the same, octet for octet.
abbrev pub same : List ℕ → List ℕ → Bool
same a b = same_symbols a b

-- Whether p holds of every octet.
unfoldable pub all : (ℕ → Bool) → List ℕ → Bool
all p []ᴸ = true
all p (c ∷ᴸ cs) = p c && all p cs

-- from `lo` to `hi`, both included
abbrev pub between : ℕ → ℕ → ℕ → Bool
between lo hi c = leb lo c && leb c hi

-- any octet but the separator
abbrev pub is_other : ℕ → ℕ → Bool
is_other sep c = not (eqb c sep)

-- "decimal"
abbrev pub is_digit : ℕ → Bool
is_digit c = between (code "0") (code "9") c

-- "lower-case hexadecimal"
abbrev pub is_hex : ℕ → Bool
is_hex c = between (code "0") (code "9") c || between (code "a") (code "f") c

-- "letters, k keep, p plus, m minus, n none"
abbrev pub is_letter : ℕ → Bool
is_letter c = eqb c (code "k") || eqb c (code "p") || eqb c (code "m") || eqb c (code "n")

-- The number that decimal digits write behind those that wrote n.
unfoldable pub onward : ℕ → List ℕ → ℕ
onward n []ᴸ = n
onward n (c ∷ᴸ cs) = onward (n * 10 + (c - code "0")) cs

abbrev pub number : List ℕ → ℕ
number digits = onward 0 digits
