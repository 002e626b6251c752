-- A reach of 0.
use mathlib.Core.Path.{◌≡◌}
use mathlib.Core.Bool.{true, ◌&&◌}
use mathlib.Core.List.{List, [], ◌∷◌}
use Prim.Native.Nat.{ℕ, suc}
use Rattle.test_lemmas.proofs.ByCases.{by_test}
use Rattle.slice_lemmas.specs.Over.{fold_from}
use Rattle.timing.proofs.TimerLaws.{clear_none}
use Rattle.terminal.specs.declared.Terminal.{Terminal}
use Rattle.exchange.specs.Rest.{part_rests}
use Rattle.period_hearing.specs.Hears.{rests}
use Rattle.bus_rules.specs.Quick.{shown_from}
use Rattle.bus_record.specs.NetworkSide.{network_rests}
use Rattle.bus_record.specs.declared.record.BusRecord.{BusRecord}
use Rattle.idle_periods.specs.Still.{first_ahead, over_with, also_ahead, reached, reach}
use Rattle.idle_periods.specs.declared.ahead.Ahead.{Ahead}

-- from 0 there is no way on
none_over : (i : ℕ) (a : Ahead) (ts : List Terminal) → a.over ≡ 0 → (fold_from also_ahead i a ts).over ≡ 0
unfolding fold_from also_ahead over_with
none_over i a [] h = h
none_over i a (t ∷ ts) h =
    none_over (suc i) (also_ahead i a t) ts
    (by_test (rests a.line t && part_rests true t) (λ u. rw (u, h) (clear_none a.now.0 t.t3)) (λ u. rw u))

pub reach_none : (b : BusRecord) (ts : List Terminal) (left : ℕ) → (first_ahead b left).over ≡ 0 → reach b ts left ≡ 0
unfolding reach reached
reach_none b ts left h =
    let z = none_over 0 (first_ahead b left) ts h in
    let a = fold_from also_ahead 0 (first_ahead b left) ts in
    by_test (network_rests (shown_from a.info1 a.info3) b.network) (λ u. rw (u, z)) (λ u. rw u)
