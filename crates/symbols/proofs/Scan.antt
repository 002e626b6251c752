-- A loop that goes through a slice: what a function says of the whole list it says of the rest from i on.
use mathlib.Core.Path.{◌≡◌, refl, ap, ◌∙◌}
use mathlib.Core.Bool.{Bool, true, false, ◌&&◌, and-true, and_assoc}
use mathlib.Core.List.{List, [], ◌∷◌}
use Prim.Native.Nat.{ℕ, suc, ◌+◌, ◌<◌, ◌≤◌}
use native.Mathlib.Numerals.{add-one}
use native.Mathlib.Omega.{arith}
use lib.Dec.{eqb}
use lib.ListN.{length, drop, get_or, drop_of_length-le}
use lib.Seq.{drop-cons}
use Rattle.symbols.specs.Symbols.{same_symbols}
use Rattle.test_lemmas.proofs.ByCases.{by_test}

pub record Rest {X : Type 0} (F : List ℕ → X) (s : List ℕ) (i : ℕ) : Type 0 where
  pub low : i ≤ length s
  pub rest : F s ≡ F (drop i s)

pub rest_start : {X : Type 0} {F : List ℕ → X} {s : List ℕ} → Rest F s 0
rest_start = record { low = omega arith; rest = refl }

module _ {X : Type 0} {F : List ℕ → X} {s : List ℕ} {i : ℕ} (r : Rest F s i) where
  -- the element at i is the next
  pub rest_here : i < length s → F s ≡ F (get_or s i 0 ∷ drop (suc i) s)
  rest_here h = rw (r.rest, drop-cons s i 0 h)

  pub rest_next : i < length s → F (get_or s i 0 ∷ drop (suc i) s) ≡ F (drop (suc i) s) → Rest F s (i + 1)
  rest_next h e = record { low = omega arith; rest = rw add-one (rest_here h ∙ e) }

  pub rest_done : length s ≤ i → F s ≡ F []
  rest_done h = rw (r.rest, drop_of_length-le s h)

-- The same for a test of every element, where ok is what the elements before i say.
pub record Tested (F : List ℕ → Bool) (s : List ℕ) (i : ℕ) (ok : Bool) : Type 0 where
  pub low : i ≤ length s
  pub rest : F s ≡ (ok && F (drop i s))

module _ {F : List ℕ → Bool} {s : List ℕ} {i : ℕ} {ok : Bool} (r : Tested F s i ok) where
  pub tested_next : (b : Bool) → i < length s → F (get_or s i 0 ∷ drop (suc i) s) ≡ (b && F (drop (suc i) s)) → Tested F s (i + 1) (ok && b)
  tested_next b h e =
      record { low = omega arith; rest = rw (add-one, and_assoc) (r.rest ∙ ap (λ (x : Bool). ok && x) (rw (drop-cons s i 0 h) e)) }

  pub tested_done : F [] ≡ true → length s ≤ i → F s ≡ ok
  tested_done e h = rw (r.rest, drop_of_length-le s h, e) (and-true ok)

-- Lists of other lengths are not the same.
pub same_symbols_short : (xs ys : List ℕ) → (length xs ≡ length ys → ⊥) → same_symbols xs ys ≡ false
unfolding same_symbols
same_symbols_short [] [] h = absurd (h refl)
same_symbols_short [] (y ∷ ys) h = refl
same_symbols_short (x ∷ xs) [] h = refl
same_symbols_short (x ∷ xs) (y ∷ ys) h =
    by_test (eqb x y) (λ t. rw (t, same_symbols_short xs ys (λ e. h (ap suc e)))) (λ t. rw t)
