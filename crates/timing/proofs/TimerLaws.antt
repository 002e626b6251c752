-- How many period starts come before a timer is due.
use mathlib.Core.Path.{◌≡◌}
use mathlib.Core.Bool.{false}
use mathlib.Core.Logic.{inl, inr, ⊎_elim}
use Prim.Native.Nat.{ℕ, suc, ◌+◌, ◌-◌, ◌≤◌, ◌<◌}
use native.Mathlib.Omega.{arith}
use lib.Dec.{eqb, ltb, leb}
use borrow.Author.Tests.{ltb-true, ltb-false, leb-true, leb-false, lt-leb, ne_eqb}
use Rattle.test_lemmas.proofs.ByCases.{by_test}
use Rattle.timing.specs.Counts.{most_periods}
use Rattle.timing.specs.Calls.{at_period, next_period}
use Rattle.timing.specs.declared.counts.Periods.{Periods}
use Rattle.timing.specs.Timers.{due}
use Rattle.timing.specs.Clear.{Clear, clear}

pub clear_most : (now most timer : ℕ) → clear now most timer ≤ most
unfolding clear
clear_most now most timer =
    by_test (ltb now timer)
    (λ t. rw t (by_test (leb (timer - now) most) (λ u. rw u (omega (arith, leb-true (timer - now) most u))) (λ u. rw u (omega arith))))
    (λ t. rw t (omega arith))

pub clear_is : (now most timer j : ℕ) → j ≤ clear now most timer → Clear now j timer
unfolding clear
clear_is now most timer j h =
    by_test (ltb now timer)
    (λ t. let l = ltb-true now timer t in let h1 = rw t at h in
    by_test (leb (timer - now) most)
    (λ u. let h2 = rw u at h1 in inr (omega (arith, leb-true (timer - now) most u)))
    (λ u. let h2 = rw u at h1 in inr (omega (arith, leb-false (timer - now) most u))))
    (λ t. inl (ltb-false now timer t))

pub clear_none : (now timer : ℕ) → clear now 0 timer ≡ 0
clear_none now timer = omega (arith, clear_most now 0 timer)

-- one period more is run, but for the last
pub next_is : (p : Periods) → p.0 < most_periods → next_period p ≡ at_period (p.0 + 1)
unfolding next_period
next_is p l = rw (lt-leb most_periods p.0 l)

-- it is not due at the next start
one_due : (now j timer : ℕ) → Clear now (suc j) timer → due timer (now + 1) ≡ false
unfolding due
one_due now j timer c =
    by_test (eqb timer 0) (λ t. rw t) (λ t. rw t (ne_eqb timer (now + 1) (λ z. ⊎_elim (λ p. omega arith) (λ p. omega arith) c)))

pub clear_due : (p : Periods) (j timer : ℕ) → p.0 < most_periods → Clear p.0 (suc j) timer → due timer (next_period p).0 ≡ false
clear_due p j timer l c = rw (next_is p l) (one_due p.0 j timer c)

-- k periods later
pub clear_later : (now n k j timer : ℕ) → k + j ≤ n → Clear now n timer → Clear (now + k) j timer
clear_later now n k j timer l (inl p) = inl (omega arith)
clear_later now n k j timer l (inr p) = inr (omega arith)
