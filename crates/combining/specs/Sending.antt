-- Calls: the lines of terminals that send, and how many the call that combines lines takes
-- (document 02, 2.4: take only the terminals that send; the lines taken are always the number of
-- terminals that send other than INFO 0).
-- Interface: `is_sending`, `sending`, `lines_taken`. Assumes nothing.
use Rattle.std.specs.Prelude.{Bool, not, cond, List, [], ◌∷◌, ℕ, length}
use Rattle.symbols.specs.Symbols.{same_symbols}
use Rattle.info.specs.Info.{info0}
use Rattle.combining.specs.Calls.{terminals, rows}

-- Whether a terminal with this line sends other than INFO 0.
unfoldable pub is_sending : List ℕ → Bool
is_sending l = not (same_symbols l info0)

-- The lines of those that do.
unfoldable pub sending : List (List ℕ) → List (List ℕ)
sending [] = []
sending (l ∷ ls) = cond (is_sending l) (l ∷ sending ls) (sending ls)

-- How many of the eight lines lent are taken.
abbrev pub lines_taken : List ℕ → ℕ
lines_taken lines = length (sending (rows terminals lines))
