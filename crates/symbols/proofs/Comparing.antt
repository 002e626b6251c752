-- Two lists compared element by element: to their end, as the loop of `same_symbols` does it, and as `==` of slices does it.
use mathlib.Core.Path.{◌≡◌, refl, sym, ap, ◌∙◌}
use mathlib.Core.Bool.{Bool, true, false, cond, ◌&&◌, and-true, and_assoc}
use mathlib.Core.List.{List, [], ◌∷◌}
use Prim.Native.Nat.{ℕ, suc, ◌+◌, ◌≤◌, ◌<◌}
use native.Mathlib.Numerals.{add-one}
use native.Mathlib.Omega.{arith}
use lib.Dec.{eqb}
use lib.ListN.{length, get_or, drop, drop_of_length-le}
use lib.Seq.{drop-cons}
use Rattle.std.proofs.Common.{nat_eq}
use Rattle.std.specs.Cmp.Lexicographic.{pointwise}
use Rattle.symbols.specs.Symbols.{same_symbols}

cond_and : (a b : Bool) → (a && b) ≡ cond a b false
cond_and true b = refl
cond_and false b = refl

-- Where the loop stands: `ok` is what the first i elements say.
pub record Comparing (xs ys : List ℕ) (ok : Bool) (i : ℕ) : Type 0 where
  pub long : length xs ≡ length ys
  pub within : i ≤ length xs
  pub rest : same_symbols xs ys ≡ (ok && same_symbols (drop i xs) (drop i ys))

module _ {xs ys : List ℕ} {ok : Bool} {i : ℕ} (c : Comparing xs ys ok i) where
  here : i < length xs
      → same_symbols (drop i xs) (drop i ys) ≡ (eqb (get_or xs i 0) (get_or ys i 0) && same_symbols (drop (suc i) xs) (drop (suc i) ys))
  unfolding same_symbols
  here h = rw (drop-cons xs i 0 h, drop-cons ys i 0 (omega (arith, c.long))) (sym (cond_and (eqb (get_or xs i 0) (get_or ys i 0)) _))

  pub comparing_next : i < length xs → Comparing xs ys (ok && eqb (get_or xs i 0) (get_or ys i 0)) (i + 1)
  comparing_next h =
      record { long = c.long; within = omega arith; rest = rw (add-one, and_assoc) (c.rest ∙ ap (λ (x : Bool). ok && x) (here h)) }

  pub comparing_ends : length xs ≤ i → ok ≡ same_symbols xs ys
  unfolding same_symbols
  comparing_ends h =
      let k : length ys ≤ i = omega (arith, c.long) in
      rw (c.rest, drop_of_length-le xs h, drop_of_length-le ys k, and-true ok)

-- Slices compared by `==` are compared symbol by symbol.
pub pointwise_same : (xs ys : List ℕ) → pointwise nat_eq xs ys ≡ same_symbols xs ys
unfolding same_symbols
pointwise_same [] [] = refl
pointwise_same [] (y ∷ ys) = refl
pointwise_same (x ∷ xs) [] = refl
pointwise_same (x ∷ xs) (y ∷ ys) = rw (pointwise_same xs ys) (cond_and (nat_eq x y) (same_symbols xs ys))
