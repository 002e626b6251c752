-- Every period leaves alignment in its range; a framed period and one without a pulse give no event of loss.
use mathlib.Core.Path.{◌≡◌, refl}
use mathlib.Core.Bool.{Bool, true, false}
use Prim.Native.Nat.{ℕ, ◌+◌, ◌≤◌}
use native.Mathlib.Omega.{arith}
use lib.Dec.{ltb}
use borrow.Author.Tests.{ltb-true, lt-ltb}
use Rattle.test_lemmas.proofs.ByCases.{by_test}
use Rattle.alignment.specs.Alignment.{framed_to_gain, framed_period, unframed_period, followed, alignment_in_range}
use Rattle.alignment.specs.declared.Alignment.{Alignment}
use Rattle.alignment.specs.declared.Followed.{Followed}

abbrev Kept : Followed → Type 0
Kept f = alignment_in_range f.alignment ≡ true

-- whatever the record was, for every number of periods that loses alignment up to the number that gives it
module _ (lose : ℕ) (l : lose ≤ framed_to_gain) (a : Alignment) where
  framed_in_range : Kept (framed_period framed_to_gain a)
  unfolding framed_period
  framed_in_range = by_test a.aligned (λ t. rw t) (λ t. rw t (by_test (ltb (a.run + 1) framed_to_gain) (λ u. rw u u) (λ u. rw u)))

  unframed_in_range : Kept (unframed_period lose a)
  unfolding unframed_period
  unframed_in_range =
      by_test a.aligned
      (λ t. rw t (by_test (ltb (a.run + 1) lose) (λ u. rw u (lt-ltb (a.run + 1) framed_to_gain (omega (arith, ltb-true (a.run + 1) lose u)))) (λ u. rw u)))
      (λ t. rw t)

  pub followed_in_range : (pulse framed : Bool) → Kept (followed framed_to_gain lose pulse framed a)
  unfolding followed
  followed_in_range true true = framed_in_range
  followed_in_range true false = unframed_in_range
  followed_in_range false framed = refl

pub framed_kept : (gain lose : ℕ) (a : Alignment) → (followed gain lose true true a).lost ≡ false
unfolding followed framed_period
framed_kept gain lose a = by_test a.aligned (λ t. rw t) (λ t. rw t (by_test (ltb (a.run + 1) gain) (λ u. rw u) (λ u. rw u)))

pub pulseless_kept : (gain lose : ℕ) (framed : Bool) (a : Alignment) → (followed gain lose false framed a).lost ≡ false
unfolding followed
pulseless_kept gain lose framed a = refl
