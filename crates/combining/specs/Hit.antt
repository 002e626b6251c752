-- Rules: hits (document 01, "Bench book and report": `hit`, 48 letters, k keep, p plus, m minus, n
-- none).
-- Interface: `keep_letter`, `plus_letter`, `minus_letter`, `none_letter`, `struck`, `hit`. Assumes
-- nothing.
use Rattle.std.specs.Prelude.{cond, List, ℕ, eqb, get_or}
use Rattle.symbols.specs.Symbols.{none, plus, minus, line_by}

-- The codes of the letters.
abbrev pub keep_letter : ℕ
keep_letter = 0

abbrev pub plus_letter : ℕ
plus_letter = 1

abbrev pub minus_letter : ℕ
minus_letter = 2

abbrev pub none_letter : ℕ
none_letter = 3

-- A letter applied to a symbol.
abbrev pub struck : ℕ → ℕ → ℕ
struck letter s = cond (eqb letter keep_letter) s (cond (eqb letter plus_letter) plus (cond (eqb letter minus_letter) minus none))

-- Letters applied to a line, position by position.
unfoldable pub hit : List ℕ → List ℕ → List ℕ
hit letters l = line_by (λ i. struck (get_or letters i keep_letter) (get_or l i none))
