-- Laws: runs of 1s in a list of bits.
-- Interface: `ending_ones`, `leading`. Assumes nothing.
use Rattle.std.specs.Prelude.{Bool, true, false, List, [], ◌∷◌, ℕ, suc}

-- how many 1s stand directly before what follows the list, k of them standing before it
unfoldable pub ones_after : ℕ → List Bool → ℕ
ones_after k [] = k
ones_after k (true ∷ bs) = ones_after (suc k) bs
ones_after k (false ∷ bs) = ones_after 0 bs

-- the number of 1s that end a list
unfoldable pub ending_ones : List Bool → ℕ
ending_ones bs = ones_after 0 bs

-- the number of 1s that a list begins with
unfoldable pub leading : List Bool → ℕ
leading [] = 0
leading (true ∷ bs) = suc (leading bs)
leading (false ∷ bs) = 0
