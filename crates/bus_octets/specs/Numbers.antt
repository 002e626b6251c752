-- Calls: numbers among octets, the low-order octet first.
-- Interface: every name. Assumes nothing.
use Rattle.std.specs.Prelude.{ℕ, ◌+◌, ◌*◌, List, get_or}

-- of two octets
abbrev pub half_at : List ℕ → ℕ → ℕ
half_at s at = get_or s at 0 + 256 * get_or s (at + 1) 0

-- of four
abbrev pub word_at : List ℕ → ℕ → ℕ
word_at s at = half_at s at + 65536 * (get_or s (at + 2) 0 + 256 * get_or s (at + 3) 0)
