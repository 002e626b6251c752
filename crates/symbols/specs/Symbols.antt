-- Rules: symbols, lines and refusal 2 (document 01, "The line", first paragraph; "Reasons a call is
-- turned down", 2).
-- Interface: every name. Assumes nothing.
use Rattle.std.specs.Prelude.{Bool, true, false, cond, List, [], ◌∷◌, map, ℕ, zero, suc, eqb, leb, length}

-- A symbol is plus, minus or none.
abbrev pub none : ℕ
none = 0

abbrev pub plus : ℕ
plus = 1

abbrev pub minus : ℕ
minus = 2

-- The number of symbols of a period.
abbrev pub line_length : ℕ
line_length = 48

-- Binary 1 is none, 0 is a pulse: the bits that a line has at symbol level.
abbrev pub level : ℕ → Bool
level s = eqb s none

abbrev pub levels : List ℕ → List Bool
levels line = map level line

-- Whether every code of a list is at most top.
unfoldable pub within : ℕ → List ℕ → Bool
within top [] = true
within top (s ∷ ss) = cond (leb s top) (within top ss) false

-- Whether a list is n codes, each at most top.
unfoldable pub fits : ℕ → ℕ → List ℕ → Bool
fits n top l = cond (eqb (length l) n) (within top l) false

-- Whether a list is a line: 48 symbols.
abbrev pub is_line : List ℕ → Bool
is_line l = fits line_length minus l

-- f of each index below n.
unfoldable pub tabulate : ℕ → (ℕ → ℕ) → List ℕ
tabulate zero f = []
tabulate (suc n) f = f 0 ∷ tabulate n (λ i. f (suc i))

-- The line whose symbol at each index i is f i.
abbrev pub line_by : (ℕ → ℕ) → List ℕ
line_by f = tabulate line_length f

-- Whether two lists are the same, number for number.
unfoldable pub same_symbols : List ℕ → List ℕ → Bool
same_symbols [] [] = true
same_symbols [] (y ∷ ys) = false
same_symbols (x ∷ xs) [] = false
same_symbols (x ∷ xs) (y ∷ ys) = cond (eqb x y) (same_symbols xs ys) false
