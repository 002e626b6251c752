-- What a reach that is not 0 says: every unit stays as it is for so many periods.
use mathlib.Core.Path.{◌≡◌, ◌∙◌}
use mathlib.Core.Bool.{true, ◌||◌, or-false, or_assoc}
use mathlib.Core.Logic.{⊎_elim}
use mathlib.Core.List.{List, [], ◌∷◌}
use Prim.Native.Nat.{ℕ, suc, ◌+◌, ◌-◌, ◌≤◌, ◌<◌}
use native.Mathlib.Omega.{arith}
use lib.Dec.{leb}
use borrow.Author.Tests.{le-leb}
use Rattle.test_lemmas.proofs.ByCases.{behind}
use Rattle.test_lemmas.proofs.Operators.{and_both}
use Rattle.slice_lemmas.specs.Over.{fold_from}
use Rattle.timing.specs.Counts.{most_periods}
use Rattle.timing.specs.Clear.{Clear, clear}
use Rattle.timing.proofs.TimerLaws.{clear_most, clear_is, clear_later}
use Rattle.heard_line.specs.declared.heard.Downward.{Downward}
use Rattle.terminal.specs.declared.Terminal.{Terminal}
use Rattle.bus_rules.specs.Quick.{shown_by, shown_from}
use Rattle.bus_rules.specs.Exchange.{any_sends}
use Rattle.exchange.specs.Rest.{part_rests, states_of}
use Rattle.period_hearing.specs.Hears.{rests}
use Rattle.bus_record.specs.NetworkSide.{network_rests}
use Rattle.bus_record.specs.declared.record.BusRecord.{BusRecord}
use Rattle.idle_periods.specs.Still.{quiet, farthest, first_ahead, over_with, also_ahead, reached, reach, leapt}
use Rattle.idle_periods.specs.declared.ahead.Ahead.{Ahead}

-- ---- The terminals.
pub record Stays (line : Downward) (now j : ℕ) (t : Terminal) : Type 0 where
  pub hears_alike : rests line t ≡ true
  pub takes_no_part : part_rests true t ≡ true
  pub t3_clear : Clear now j t.t3

abbrev pub AllStay : Downward → ℕ → ℕ → List Terminal → Type 0
AllStay line now j [] = Unit
AllStay line now j (t ∷ ts) = Stays line now j t × AllStay line now j ts

module _ (j : ℕ) (some : 0 < j) where
  with_one : (a : Ahead) (t : Terminal) → j ≤ over_with a t → (rests a.line t ≡ true) × (part_rests true t ≡ true) × (j ≤ clear a.now.0 a.over t.t3)
  unfolding over_with
  with_one a t h =
      let b = behind _ _ j some h in
      let p = and_both (rests a.line t) (part_rests true t) b.0 in
      (p.0, p.1, b.1)

  pub gathered_stay : (i : ℕ) (a : Ahead) (ts : List Terminal) → j ≤ (fold_from also_ahead i a ts).over → AllStay a.line a.now.0 j ts × (j ≤ a.over)
  unfolding fold_from also_ahead
  gathered_stay i a [] h = (tt, h)
  gathered_stay i a (t ∷ ts) h =
      let rest = gathered_stay (suc i) (also_ahead i a t) ts h in
      let w = with_one a t rest.1 in
      ((record { hears_alike = w.0; takes_no_part = w.1; t3_clear = clear_is a.now.0 a.over t.t3 j w.2 }, rest.0), omega (arith, clear_most a.now.0 a.over t.t3, w.2))

pub gathered_sent : (i : ℕ) (a : Ahead) (ts : List Terminal)
    → ((fold_from also_ahead i a ts).info1 ≡ (a.info1 || any_sends 1 (states_of ts))) × ((fold_from also_ahead i a ts).info3 ≡ (a.info3 || any_sends 3 (states_of ts)))
unfolding fold_from also_ahead any_sends
gathered_sent i a [] = (rw or-false, rw or-false)
gathered_sent i a (t ∷ ts) = let g = gathered_sent (suc i) (also_ahead i a t) ts in (g.0 ∙ rw or_assoc, g.1 ∙ rw or_assoc)

-- ---- All units.
pub record Still (j : ℕ) (b : BusRecord) (ts : List Terminal) : Type 0 where
  pub quiet_is : quiet b ≡ true
  pub network_rests_lem : network_rests (shown_from (any_sends 1 (states_of ts)) (any_sends 3 (states_of ts))) b.network ≡ true
  pub terminals_stay : AllStay (shown_by b.network.state) b.periods.0 j ts
  pub t1_clear : Clear b.periods.0 j b.network.t1
  pub t2_clear : Clear b.periods.0 j b.network.t2
  pub one_left : b.periods.0 + j < most_periods

module _ (b : BusRecord) (ts : List Terminal) (left j : ℕ) (some : 0 < j) (h : j ≤ reach b ts left) where
  abbrev now : ℕ
  now = b.periods.0

  abbrev all : Ahead
  all = fold_from also_ahead 0 (first_ahead b left) ts

  rests_so : (network_rests (shown_from all.info1 all.info3) b.network ≡ true) × (j ≤ all.over)
  unfolding reach reached
  rests_so = behind _ _ j some h

  abbrev far : AllStay (first_ahead b left).line (first_ahead b left).now.0 j ts × (j ≤ (first_ahead b left).over)
  far = gathered_stay j some 0 (first_ahead b left) ts rests_so.1

  own : (quiet b ≡ true) × (j ≤ clear now (clear now (clear now (left - 1) most_periods) b.network.t1) b.network.t2)
  unfolding first_ahead farthest
  own = behind _ _ j some far.1

  second : j ≤ clear now (clear now (left - 1) most_periods) b.network.t1
  second = omega (arith, own.1, clear_most now (clear now (clear now (left - 1) most_periods) b.network.t1) b.network.t2)

  third : j ≤ clear now (left - 1) most_periods
  third = omega (arith, second, clear_most now (clear now (left - 1) most_periods) b.network.t1)

  pub reach_less : j < left
  reach_less = omega (arith, third, clear_most now (left - 1) most_periods)

  pub reach_still : b.periods.0 < most_periods → Still j b ts
  unfolding first_ahead
  reach_still run =
      record {
        quiet_is = own.0;
        network_rests_lem = let g = gathered_sent 0 (first_ahead b left) ts in rw (g.0, g.1) at rests_so.0;
        terminals_stay = far.0;
        t1_clear = clear_is now (clear now (left - 1) most_periods) b.network.t1 j second;
        t2_clear = clear_is now (clear now (clear now (left - 1) most_periods) b.network.t1) b.network.t2 j own.1;
        one_left = ⊎_elim (λ past. omega arith) (λ before. before) (clear_is now (left - 1) most_periods j third);
      }

-- ---- One period later.
all_next : (line : Downward) (now j : ℕ) (ts : List Terminal) → AllStay line now (suc j) ts → AllStay line (now + 1) j ts
all_next line now j [] all = tt
all_next line now j (t ∷ ts) all =
    (record { hears_alike = all.0.hears_alike; takes_no_part = all.0.takes_no_part; t3_clear = clear_later now (suc j) 1 j t.t3 (omega arith) all.0.t3_clear }, all_next line now j ts all.1)

pub still_next : (j : ℕ) (b : BusRecord) (ts : List Terminal) → Still (suc j) b ts → Still j (leapt 1 b) ts
unfolding leapt quiet
still_next j b ts s =
    let l : leb (b.periods.0 + 1) most_periods ≡ true = le-leb (b.periods.0 + 1) most_periods (omega (arith, s.one_left)) in
    rw l
    (record {
      quiet_is = s.quiet_is;
      network_rests_lem = s.network_rests_lem;
      terminals_stay = all_next (shown_by b.network.state) b.periods.0 j ts s.terminals_stay;
      t1_clear = clear_later b.periods.0 (suc j) 1 j b.network.t1 (omega arith) s.t1_clear;
      t2_clear = clear_later b.periods.0 (suc j) 1 j b.network.t2 (omega arith) s.t2_clear;
      one_left = omega (arith, s.one_left);
    })
