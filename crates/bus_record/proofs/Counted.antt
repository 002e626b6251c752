-- The D opportunities of a period are those counted over one period.
use mathlib.Core.Path.{◌≡◌}
use Prim.Native.Nat.{ℕ, ◌*◌}
use lib.Dec.{eqb, leb}
use Rattle.test_lemmas.proofs.ByCases.{by_test}
use Rattle.table_6_3.specs.Table63.{G3}
use Rattle.timing.specs.Counts.{most_periods}
use Rattle.timing.specs.Calls.{four_more}
use Rattle.timing.specs.declared.counts.Opportunities.{Opportunities}
use Rattle.bus_record.specs.NetworkSide.{counted_after, counted_over}

pub counted_one : (state : ℕ) (o : Opportunities) → counted_over state 1 o ≡ counted_after state o
unfolding counted_after counted_over four_more
counted_one state o =
    by_test (eqb state G3) (λ t. by_test (leb o.0 (4 * most_periods)) (λ u. rw (t, u)) (λ u. rw (t, u))) (λ t. rw t)
