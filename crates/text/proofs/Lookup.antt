-- What stands beside a number in a list of pairs, as a loop through two tables of the code finds it: the numbers, and what belongs to each.
use mathlib.Core.Path.{◌≡◌, refl, sym, ◌∙◌}
use mathlib.Core.Bool.{cond}
use mathlib.Core.List.{List, [], ◌∷◌, map}
use Prim.Native.Nat.{ℕ, suc, ◌+◌, ◌≤◌, ◌<◌}
use native.Mathlib.Numerals.{add-one}
use native.Mathlib.Omega.{arith}
use borrow.Author.Tests.{eq-eqb, ne_eqb}
use lib.Dec.{eqb}
use lib.ListN.{length, get_or, drop, drop_of_length-le, get_or-map}
use lib.Seq.{drop-cons}

abbrev pub beside : {A : Type 0} → A → ℕ → List (ℕ × A) → A
beside other n [] = other
beside other n (p ∷ ps) = cond (eqb n p.0) p.1 (beside other n ps)

-- none of the first k numbers is the one looked for
pub record Looking {A : Type 0} (other : A) (n : ℕ) (ps : List (ℕ × A)) (k : ℕ) : Type 0 where
  pub within : k ≤ length ps
  pub rest : beside other n ps ≡ beside other n (drop k ps)

pub looking_start : {A : Type 0} {other : A} {n : ℕ} {ps : List (ℕ × A)} → Looking other n ps 0
looking_start = record { within = omega arith; rest = refl }

module _ {A : Type 0} {other : A} {n : ℕ} {ps : List (ℕ × A)} {k : ℕ} (l : Looking other n ps k) where
  -- the next is looked at
  here : (d : A) → k < length ps
      → beside other n ps ≡ cond (eqb n (get_or (map (λ p. p.0) ps) k 0)) (get_or (map (λ p. p.1) ps) k d) (beside other n (drop (suc k) ps))
  here d h =
      l.rest
      ∙ rw (drop-cons ps k (0, d) h, get_or-map (λ (p : ℕ × A). p.0) ps k (0, d), get_or-map (λ (p : ℕ × A). p.1) ps k (0, d))

  pub looking_next : k < length ps → (get_or (map (λ p. p.0) ps) k 0 ≡ n → ⊥) → Looking other n ps (k + 1)
  looking_next h e = record { within = omega arith; rest = rw add-one (here other h ∙ rw (ne_eqb n _ (λ z. e (sym z)))) }

  pub looking_found : (d : A) → k < length ps → get_or (map (λ p. p.0) ps) k 0 ≡ n → get_or (map (λ p. p.1) ps) k d ≡ beside other n ps
  looking_found d h e = sym (here d h ∙ rw (eq-eqb n _ (sym e)))

  pub looking_end : length ps ≤ k → other ≡ beside other n ps
  looking_end h = sym (l.rest ∙ rw (drop_of_length-le ps h))
