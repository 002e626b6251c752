-- Counts and timers stay in their ranges, and a timer is due once.
use mathlib.Core.Path.{◌≡◌}
use mathlib.Core.Bool.{true, false}
use Prim.Native.Nat.{ℕ, ◌+◌, ◌*◌, ◌≤◌, ◌<◌}
use native.Mathlib.Omega.{arith}
use lib.Dec.{eqb}
use borrow.Author.Tests.{leb-true, leb-false, le-leb, ne_eqb}
use Rattle.test_lemmas.proofs.ByCases.{by_test}
use Rattle.notes_and_cells.specs.Cells.{START, STOP}
use Rattle.timing.specs.Counts.{most_periods}
use Rattle.timing.specs.Calls.{periods_in_range, opportunities_in_range, all_run, next_period, four_more}
use Rattle.timing.specs.Timers.{due, started_by, timer_after}
use Rattle.timing.specs.declared.counts.Periods.{Periods}
use Rattle.timing.specs.declared.counts.Opportunities.{Opportunities}

pub next_in_range : (p : Periods) → periods_in_range p ≡ true → periods_in_range (next_period p) ≡ true
unfolding next_period
next_in_range p h =
    by_test (all_run p) (λ t. rw t h) (λ t. rw t (le-leb (p.0 + 1) most_periods (omega (arith, leb-false most_periods p.0 t))))

-- Where a period more is run, the four opportunities more, or none more, are in range.
module _ (p : Periods) (o : Opportunities) (r : all_run p ≡ false) (h : opportunities_in_range p o ≡ true) where
  opportunities_fit : o.0 ≤ 4 * p.0
  opportunities_fit = leb-true o.0 (4 * p.0) h

  periods_left : p.0 < most_periods
  periods_left = leb-false most_periods p.0 r

  pub four_more_in_range : opportunities_in_range (next_period p) (four_more o) ≡ true
  unfolding next_period four_more
  four_more_in_range =
      let l : o.0 ≤ 4 * most_periods = omega (arith, opportunities_fit, periods_left) in
      rw (r, le-leb o.0 (4 * most_periods) l) (le-leb (o.0 + 4) (4 * (p.0 + 1)) (omega (arith, opportunities_fit)))

  pub none_more_in_range : opportunities_in_range (next_period p) o ≡ true
  unfolding next_period
  none_more_in_range = rw r (le-leb o.0 (4 * (p.0 + 1)) (omega (arith, opportunities_fit)))

-- A timer, after a cell's action.
pub started_at_most : (most start v action now timer : ℕ) → now + v ≤ most → timer ≤ most → started_by start v action now timer ≤ most
unfolding started_by
started_at_most most start v action now timer f h = by_test (eqb action start) (λ t. rw t f) (λ t. rw t h)

pub timer_at_most : (most v action now timer : ℕ) → now + v ≤ most → timer ≤ most → timer_after v action now timer ≤ most
unfolding timer_after
timer_at_most most v action now timer f h =
    by_test (eqb action STOP) (λ t. rw t (omega arith)) (λ t. rw t (started_at_most most START v action now timer f h))

-- A timer that was started in period t with length v is due at the start of t + v, and of no other period.
pub due_once : (t v now : ℕ) → 1 ≤ v → due (t + v) now ≡ eqb (t + v) now
unfolding due
due_once t v now h = simp (ne_eqb (t + v) 0 (omega arith))
