-- Rules: the line code (document 01, "The line"): F is plus, position 2 minus; the first 0 after it
-- is minus, then pulses alternate. It is the same in both directions.
-- Interface: `opposite`, `alternate`, `symbols`. Assumes nothing.
use Rattle.std.specs.Prelude.{Bool, cond, List, [], ◌∷◌, ℕ, ◌-◌, drop}
use Rattle.symbols.specs.Symbols.{none, plus, minus}

-- The polarity after a pulse: plus after minus, minus after plus.
abbrev pub opposite : ℕ → ℕ
opposite s = 3 - s

-- Bits as symbols, where the next pulse is s: a 1 is none and leaves the polarity, a 0 is a pulse
-- and turns it.
unfoldable pub alternate : ℕ → List Bool → List ℕ
alternate s [] = []
alternate s (b ∷ bs) = cond b none s ∷ alternate (cond b s (opposite s)) bs

-- The polarity of the next pulse after some bits, before which it is s.
unfoldable pub next_pulse : ℕ → List Bool → ℕ
next_pulse s [] = s
next_pulse s (b ∷ bs) = next_pulse (cond b s (opposite s)) bs

-- The line of a frame's 48 bits.
unfoldable pub symbols : List Bool → List ℕ
symbols bits = plus ∷ minus ∷ alternate minus (drop 2 bits)
