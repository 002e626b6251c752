-- Rules: the number that octets stand for, the low-order octet first.
-- Interface: every name. Assumes nothing.
use Rattle.std.specs.Prelude.{List, [], ◌∷◌, map, ◌≡◌, refl, ℕ, ◌+◌, ◌*◌}

-- Of any number of octets; none stand for 0.
unfoldable pub low_first : List ℕ → ℕ
low_first [] = 0
low_first (octet ∷ octets) = octet + 256 * low_first octets

-- ---- Computed: none, one, three, and a fourth that is 0.
pub example_numbers :
    map low_first ([] ∷ (255 ∷ []) ∷ (1 ∷ 2 ∷ 3 ∷ []) ∷ (255 ∷ 255 ∷ 255 ∷ []) ∷ (1 ∷ 2 ∷ 3 ∷ 0 ∷ []) ∷ [])
    ≡ 0 ∷ 255 ∷ 197121 ∷ 16777215 ∷ 197121 ∷ []
unfolding low_first
example_numbers = refl
