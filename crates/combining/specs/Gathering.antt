-- How the code goes: what is sent at a position is gathered bit by bit, and plus and minus together
-- are 3.
-- Interface: `gathered`, `gathered_symbol`. Assumes nothing.
use Rattle.std.specs.Prelude.{cond, List, [], ◌∷◌, ℕ, eqb}
use Rattle.std.specs.Int.Bits.{bit_or}
use Rattle.symbols.specs.Symbols.{none}

-- What a plus and a minus at one position are gathered to.
abbrev pub plus_and_minus : ℕ
plus_and_minus = 3

-- What is gathered where m is gathered already and these symbols follow.
unfoldable pub gathered : ℕ → List ℕ → ℕ
gathered m [] = m
gathered m (x ∷ xs) = gathered (bit_or m x) xs

-- The symbol of what is gathered: none where plus and minus are.
abbrev pub gathered_symbol : ℕ → ℕ
gathered_symbol m = cond (eqb m plus_and_minus) none m
