-- The bits of a line at symbol level, index by index.
use mathlib.Core.Path.{◌≡◌, refl}
use mathlib.Core.Bool.{true}
use mathlib.Core.List.{List, [], ◌∷◌}
use Prim.Native.Nat.{ℕ, zero, suc}
use lib.ListN.{take, drop, get_or, get_or-map}
use Rattle.symbols.specs.Symbols.{none, level, levels}

pub level_at : (l : List ℕ) (i : ℕ) → get_or (levels l) i true ≡ level (get_or l i none)
level_at l i = get_or-map level l i none

pub levels_take : (n : ℕ) (l : List ℕ) → levels (take n l) ≡ take n (levels l)
levels_take zero l = refl
levels_take (suc n) [] = refl
levels_take (suc n) (x ∷ l) = rw (levels_take n l)

pub levels_drop : (n : ℕ) (l : List ℕ) → levels (drop n l) ≡ drop n (levels l)
levels_drop zero l = refl
levels_drop (suc n) [] = refl
levels_drop (suc n) (x ∷ l) = levels_drop n l
