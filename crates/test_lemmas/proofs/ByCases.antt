-- Case analysis on a test, and tests that antt computes over all cases.
use mathlib.Core.Bool.{Bool, true, false, cond, ◌&&◌}
use mathlib.Core.Path.{◌≡◌, refl}
use Prim.Native.Nat.{ℕ, zero, suc, ◌≤◌, ◌<◌}
use native.Mathlib.Omega.{arith}
use lib.Dec.{eqb, ltb}
use borrow.Author.Tests.{eqb-true, eqb-false, eq-eqb, ltb-true, ltb-false}

pub by_test {ℓ} : {X : Type ℓ} (b : Bool) → (b ≡ true → X) → (b ≡ false → X) → X
by_test true f g = f refl
by_test false f g = g refl

-- a chain of tests that all have to hold: what follows from its being true
pub both : (a b : Bool) → cond a b false ≡ true → (a ≡ true) × (b ≡ true)
both true b h = (refl, h)
both false b h = (let z : ◌≡◌ {A = Bool} false true = h in cc, cc)

-- the same of a chain that a test that holds breaks off
pub neither : (a b : Bool) → cond a false b ≡ true → (a ≡ false) × (b ≡ true)
neither false b h = (refl, h)
neither true b h = (cc, cc)

-- no test is both
pub clash {ℓ} : {X : Type ℓ} (b : Bool) → b ≡ true → b ≡ false → X
clash b p q = absurd (let z : ◌≡◌ {A = ℕ} 0 1 = cc in omega arith)

-- at most m and not m
pub below : (n m : ℕ) → n ≤ m → eqb n m ≡ false → n < m
below n m l e = by_test (ltb n m) (ltb-true n m) (λ t. clash (eqb n m) (eq-eqb n m (omega (arith, ltb-false n m t))) e)

-- a number that is there only behind a test
pub behind : (t : Bool) (n j : ℕ) → 0 < j → j ≤ cond t n 0 → (t ≡ true) × (j ≤ n)
behind true n j some h = (refl, h)
behind false n j some h = absurd (omega arith)

-- two tests that both have to hold
pub and_left : (a b : Bool) → (a && b) ≡ true → a ≡ true
and_left true b e = refl
and_left false b e = e

pub and_right : (a b : Bool) → (a && b) ≡ true → b ≡ true
and_right true b e = e
and_right false b e = cc

pub and_both_true : (a b : Bool) → a ≡ true → b ≡ true → (a && b) ≡ true
and_both_true a b e f = rw (e, f)

pub and_left_false : (a b : Bool) → a ≡ false → (a && b) ≡ false
and_left_false a b e = rw e

pub and_right_false : (a b : Bool) → b ≡ false → (a && b) ≡ false
and_right_false true b e = e
and_right_false false b e = refl

-- a test that antt computes at every number below n, and what it says of one of them
abbrev pub each_below : (ℕ → Bool) → ℕ → Bool
each_below f zero = true
each_below f (suc n) = f n && each_below f n

pub at_each_below : (f : ℕ → Bool) (n k : ℕ) → each_below f n ≡ true → k < n → f k ≡ true
at_each_below f zero k e h = absurd (omega arith)
at_each_below f (suc n) k e h =
    by_test (eqb k n) (λ t. rw (eqb-true k n t) (and_left (f n) (each_below f n) e))
    (λ t. at_each_below f n k (and_right (f n) (each_below f n) e) (omega (arith, eqb-false k n t)))
