-- Who was there at all exchanges of a cycle: the network end in G3, and each terminal in F7, by its
-- bit of the mask.
use mathlib.Core.Path.{◌≡◌, refl, sym, ◌∙◌}
use mathlib.Core.Bool.{Bool, true, false, ◌&&◌}
use mathlib.Core.List.{List, [], ◌∷◌}
use Prim.Native.Nat.{ℕ, zero, suc, ◌/◌, ◌%◌, ◌^◌, ◌<◌}
use native.Mathlib.Nat.{zero-div}
use native.Mathlib.Omega.{arith}
use borrow.Author.Tests.{eqb-true}
use lib.Bits.{bit_and, and_shr, and_mod, and_comm, and_mask}
use lib.Dec.{eqb}
use Rattle.test_lemmas.proofs.ByCases.{by_test, at_each_below, clash}
use Rattle.cycle.specs.Cycle.{terminals, has_bit, moved_on}
use Rattle.cycle.specs.Periods.{Heard, throughout, in_g3, in_f7}
use Rattle.cycle.specs.declared.record.Cycle.{Cycle}
use Rattle.cycle.proofs.Stretch.{moved, moves}

and_assoc : (a b c : Bool) → ((a && b) && c) ≡ (a && (b && c))
and_assoc true b c = refl
and_assoc false b c = refl

pub and_true : (a : Bool) → (a && true) ≡ a
and_true true = refl
and_true false = refl

-- ---- G3.
pub g3_all : (hs : List Heard) (c : Cycle) → (moves hs c).g3 ≡ (c.g3 && throughout in_g3 hs)
unfolding moves moved_on throughout
g3_all [] c = sym (and_true c.g3)
g3_all (h ∷ hs) c = g3_all hs (moved h c) ∙ and_assoc c.g3 h.g3 (throughout in_g3 hs)

-- ---- F7. A bit of two masks together.
one_bit : (x y : ℕ) → x < 2 → y < 2 → eqb (bit_and x y) 1 ≡ (eqb x 1 && eqb y 1)
one_bit zero y p q = refl
one_bit (suc zero) zero p q = refl
one_bit (suc zero) (suc zero) p q = refl
one_bit (suc zero) (suc (suc y)) p q = absurd (omega arith)
one_bit (suc (suc x)) y p q = absurd (omega arith)

pub bit_and_lem : (a b i : ℕ) → has_bit (bit_and a b) i ≡ (has_bit a i && has_bit b i)
bit_and_lem a b i =
    let x = a / 2 ^ i in
    let y = b / 2 ^ i in
    rw (and_shr a b i, and_mod x y 1) (one_bit (x % 2) (y % 2) (omega arith) (omega arith))

pub f7_bits : (i : ℕ) (hs : List Heard) (c : Cycle) → has_bit (moves hs c).f7 i ≡ (has_bit c.f7 i && throughout (in_f7 i) hs)
unfolding moves moved_on throughout
f7_bits i [] c = sym (and_true (has_bit c.f7 i))
f7_bits i (h ∷ hs) c =
    f7_bits i hs (moved h c)
    ∙ (rw (bit_and_lem c.f7 h.f7 i) (and_assoc (has_bit c.f7 i) (has_bit h.f7 i) (throughout (in_f7 i) hs)))

-- a mask that has a bit is not 0
none_zero : (i : ℕ) → has_bit 0 i ≡ false
none_zero i = rw (zero-div (2 ^ i))

pub not_nobody : (m i : ℕ) → has_bit m i ≡ true → eqb m 0 ≡ false
not_nobody m i h =
    by_test (eqb m 0) (λ t. clash (has_bit m i) h (rw (eqb-true m 0 t) (none_zero i))) (λ t. t)

-- all eight bits
pub all_there : (i : ℕ) → i < terminals → has_bit 255 i ≡ true
all_there i h = at_each_below (λ k. has_bit 255 k) terminals i refl h

-- a mask that all eight do not change
pub all_and : (m : ℕ) → m < 256 → bit_and 255 m ≡ m
all_and m h = and_comm 255 m ∙ (and_mask m 8 ∙ omega arith)
