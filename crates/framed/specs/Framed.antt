-- Rules: framed periods and pulses (document 01, "The line": a period is framed when symbol 1 is
-- plus, 2 is minus, and the first pulse in 3-15, upward 3-14, is minus).
-- Interface: every name. Assumes nothing.
use Rattle.std.specs.Prelude.{Bool, false, not, cond, List, [], ◌∷◌, ℕ, eqb, get_or, take, drop}
use Rattle.symbols.specs.Symbols.{none, plus, minus}

-- The first pulse of some symbols, or none where they have no pulse.
unfoldable pub first_pulse : List ℕ → ℕ
first_pulse [] = none
first_pulse (s ∷ ss) = cond (eqb s none) (first_pulse ss) s

-- Whether symbol 1 is plus, 2 is minus, and the first pulse in the n symbols from 3 on is minus.
unfoldable pub framed_in : ℕ → List ℕ → Bool
framed_in n l =
    cond (eqb (get_or l 0 none) plus)
    (cond (eqb (get_or l 1 none) minus) (eqb (first_pulse (take n (drop 2 l))) minus) false)
    false

-- Downward 3 to 15, upward 3 to 14.
abbrev pub framed_down : List ℕ → Bool
framed_down l = framed_in 13 l

abbrev pub framed_up : List ℕ → Bool
framed_up l = framed_in 12 l

-- Whether a line has a pulse. A line that has none is INFO 0.
unfoldable pub has_pulse : List ℕ → Bool
has_pulse l = not (eqb (first_pulse l) none)
