-- Laws of a list with the one at an index changed.
use mathlib.Core.Path.{◌≡◌, refl, ap}
use mathlib.Core.List.{List, [], ◌∷◌, ◌++◌, map}
use Prim.Native.Nat.{ℕ, zero, suc, ◌<◌}
use native.Mathlib.Omega.{arith}
use lib.ListN.{length, get_or}
use Rattle.contention.specs.Change.{change}

module _ {A : Type 0} (f : A → A) where
  pub length_change : (i : ℕ) (xs : List A) → length (change f i xs) ≡ length xs
  unfolding change
  length_change i [] = refl
  length_change zero (x ∷ xs) = refl
  length_change (suc i) (x ∷ xs) = ap suc (length_change i xs)

  -- each is as it was, or changed
  pub change_each : (d : A) (P : A → A → Type 0) → ((x : A) → P x x) → ((x : A) → P x (f x))
      → (i : ℕ) (xs : List A) (j : ℕ) → P (get_or xs j d) (get_or (change f i xs) j d)
  unfolding change
  change_each d P same changed i [] j = same d
  change_each d P same changed zero (x ∷ xs) zero = changed x
  change_each d P same changed zero (x ∷ xs) (suc j) = same (get_or xs j d)
  change_each d P same changed (suc i) (x ∷ xs) zero = same x
  change_each d P same changed (suc i) (x ∷ xs) (suc j) = change_each d P same changed i xs j

  -- the one at the index is changed
  pub change_there : (d : A) (i : ℕ) (xs : List A) → i < length xs → get_or (change f i xs) i d ≡ f (get_or xs i d)
  unfolding change
  change_there d i [] h = absurd (omega arith)
  change_there d zero (x ∷ xs) h = refl
  change_there d (suc i) (x ∷ xs) h = change_there d i xs (omega arith)

  -- the one after a first part
  pub change_at : (pre : List A) (x : A) (rest : List A) → change f (length pre) (pre ++ (x ∷ rest)) ≡ pre ++ (f x ∷ rest)
  unfolding change
  change_at [] x rest = refl
  change_at (p ∷ pre) x rest = rw (change_at pre x rest)

  -- where the map of a change is a change of the map at the one that is changed, it is so of the lists
  pub change_map : {B : Type 0} (h : A → B) (g : B → B) (d : A) (i : ℕ) (xs : List A) → h (f (get_or xs i d)) ≡ g (h (get_or xs i d))
      → map h (change f i xs) ≡ change g i (map h xs)
  unfolding change
  change_map h g d i [] e = refl
  change_map h g d zero (x ∷ xs) e = rw e
  change_map h g d (suc i) (x ∷ xs) e = rw (change_map h g d i xs e)

-- nothing changed
pub change_same : {A : Type 0} (i : ℕ) (xs : List A) → change (λ x. x) i xs ≡ xs
unfolding change
change_same i [] = refl
change_same zero (x ∷ xs) = refl
change_same (suc i) (x ∷ xs) = rw (change_same i xs)
