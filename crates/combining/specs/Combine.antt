-- Rules: several terminals on one line (document 01, "The line": together, several terminals give
-- plus where only plus is sent, minus where only minus, none otherwise).
-- Interface: `is_sent`, `column`, `combined`. Assumes nothing.
use Rattle.std.specs.Prelude.{Bool, true, false, ◌||◌, List, [], ◌∷◌, map, ℕ, eqb, get_or}
use Rattle.symbols.specs.Symbols.{line_length, none, plus, minus, tabulate}

-- Whether s is among the symbols sent.
unfoldable pub is_sent : ℕ → List ℕ → Bool
is_sent s [] = false
is_sent s (x ∷ xs) = eqb x s || is_sent s xs

-- Plus where only plus is sent, minus where only minus, none otherwise.
abbrev pub only : Bool → Bool → ℕ
only true true = none
only true false = plus
only false true = minus
only false false = none

-- What the symbols sent at one position give.
abbrev pub combined_symbol : List ℕ → ℕ
combined_symbol xs = only (is_sent plus xs) (is_sent minus xs)

-- What is sent at index i by each of the lines.
abbrev pub column : ℕ → List (List ℕ) → List ℕ
column i ls = map (λ (l : List ℕ). get_or l i none) ls

-- What lists of n symbols give together, and the line that any list of lines gives.
abbrev pub combined_over : ℕ → List (List ℕ) → List ℕ
combined_over n ls = tabulate n (λ i. combined_symbol (column i ls))

unfoldable pub combined : List (List ℕ) → List ℕ
combined ls = combined_over line_length ls
