-- Leaps. A loop over `step` that leaps from a still bus runs the periods of a run (crate `bus_call_specs`, RunLoop.antt); and the law `leap`:
-- `specs/Leap.antt`.
use mathlib.Core.Path.{◌≡◌, refl, sym, ◌∙◌}
use mathlib.Core.Bool.{true, false, ◌&&◌}
use mathlib.Core.List.{List}
use Prim.Native.Nat.{ℕ, zero, suc, ◌+◌, ◌-◌, ◌*◌, ◌≤◌, ◌<◌}
use native.Mathlib.Omega.{arith}
use lib.Dec.{eqb, leb}
use lib.ListN.{length, replicate}
use borrow.Author.Tests.{eqb-true, eqb-false, le-leb, leb-false, lt-leb, lt-ltb, ltb-true}
use Rattle.test_lemmas.proofs.ByCases.{by_test}
use Rattle.table_6_3.specs.Table63.{G3}
use Rattle.timing.specs.Counts.{most_periods}
use Rattle.timing.specs.Calls.{all_run}
use Rattle.terminal.specs.declared.Terminal.{Terminal}
use Rattle.period_hearing.specs.declared.hears.UnitNotes.{UnitNotes}
use Rattle.bus_record.specs.NetworkSide.{counted_over, no_notes, refused_run}
use Rattle.bus_record.specs.declared.record.BusRecord.{BusRecord}
use Rattle.bus_record.specs.declared.side.RunAnswer.{RunAnswer}
use Rattle.bus_call_specs.specs.Kept.{Kept, kept}
use Rattle.bus_call_specs.specs.Ready.{run_reply, run_goes_on}
use Rattle.bus_call_specs.specs.Run.{run_answer, kept_after}
use Rattle.bus_call_specs.specs.Step.{step_answer, step_terminals, step_octets, step_notes}
use Rattle.bus_call_specs.proofs.InOrder.{InOrder, in_order, order_reply, one_left}
use Rattle.bus_call_specs.proofs.RunSingle.{goes_facts}
use Rattle.bus_call_specs.proofs.RunLoop.{goes_reply, Going, going_first, going_on, going_ends}
use Rattle.idle_periods.specs.Still.{reach, leapt}
use Rattle.idle_periods.specs.Leap.{Leap}
use Rattle.idle_periods.proofs.Stays.{Still, reach_less, reach_still, still_next}
use Rattle.idle_periods.proofs.StillPeriod.{still_ran, still_terminals, still_octets, still_notes}

-- ---- Two steps are one; a step over no period is none.
module _ (b : BusRecord) (most : b.opportunities.0 ≤ 4 * b.periods.0) where
  counted_more : (j : ℕ) → b.periods.0 + suc j ≤ most_periods
      → counted_over b.network.state j (counted_over b.network.state 1 b.opportunities) ≡ counted_over b.network.state (suc j) b.opportunities
  unfolding counted_over
  counted_more j l =
      let o = b.opportunities.0 in
      let first : leb o (4 * most_periods) ≡ true = le-leb o (4 * most_periods) (omega arith) in
      let second : leb (o + 4 * 1) (4 * most_periods) ≡ true = le-leb (o + 4 * 1) (4 * most_periods) (omega arith) in
      let few : leb j most_periods ≡ true = le-leb j most_periods (omega arith) in
      let more : leb (suc j) most_periods ≡ true = le-leb (suc j) most_periods (omega arith) in
      let sum : o + 4 * 1 + 4 * j ≡ o + 4 * suc j = omega arith in
      by_test (eqb b.network.state G3) (λ t. rw (t, first, second, few, more, sum)) (λ t. rw t)

  pub leapt_more : (j : ℕ) → b.periods.0 + suc j ≤ most_periods → leapt j (leapt 1 b) ≡ leapt (suc j) b
  unfolding leapt
  leapt_more j l =
      let one : leb (b.periods.0 + 1) most_periods ≡ true = le-leb (b.periods.0 + 1) most_periods (omega arith) in
      let all : leb (b.periods.0 + suc j) most_periods ≡ true = le-leb (b.periods.0 + suc j) most_periods l in
      let sum : b.periods.0 + 1 + j ≡ b.periods.0 + suc j = omega arith in
      rw (one, sum, all, counted_more j l)

  pub leapt_none : leapt 0 b ≡ b
  unfolding leapt counted_over
  leapt_none =
      let none : b.periods.0 + 0 ≡ b.periods.0 = omega arith in
      let same : b.opportunities.0 + 4 * 0 ≡ b.opportunities.0 = omega arith in
      by_test (leb (b.periods.0 + 0) most_periods)
      (λ u. rw (u, none, same) (by_test ((eqb b.network.state G3 && leb b.opportunities.0 (4 * most_periods)) && leb 0 most_periods) (λ v. rw v) (λ v. rw v)))
      (λ u. rw u)

leapt_opportunities : (b : BusRecord) → b.opportunities.0 ≤ 4 * b.periods.0 → (leapt 1 b).opportunities.0 ≤ 4 * (leapt 1 b).periods.0
unfolding leapt counted_over
leapt_opportunities b m =
    by_test (leb (b.periods.0 + 1) most_periods)
    (λ u. rw u
    (by_test ((eqb b.network.state G3 && leb b.opportunities.0 (4 * most_periods)) && leb 1 most_periods) (λ v. rw v (omega arith)) (λ v. rw v (omega arith))))
    (λ u. rw u m)

leapt_periods : (j : ℕ) (b : BusRecord) → b.periods.0 + j ≤ most_periods → (leapt j b).periods.0 ≡ b.periods.0 + j
unfolding leapt
leapt_periods j b l = rw (le-leb (b.periods.0 + j) most_periods l)

-- after a step over j periods, one can be run
goes_leapt : (j : ℕ) (b : BusRecord) (left : ℕ) → b.periods.0 + j < most_periods → 0 < left → run_goes_on (refused_run 0 (leapt j b)) left ≡ true
unfolding run_goes_on refused_run
goes_leapt j b left l some =
    let less : (leapt j b).periods.0 < most_periods = rw (leapt_periods j b (omega arith)) l in
    rw (lt-ltb 0 left some, lt-leb most_periods (leapt j b).periods.0 less)

-- ---- A run, over still periods.
module _ (images letters : List ℕ) (ended : RunAnswer) (end : Kept) (ts : List Terminal) (os : List ℕ) where
  abbrev GoesFrom : RunAnswer → ℕ → List UnitNotes → Type 0
  GoesFrom last left ns = Going images letters ended end last left ts os ns

  abbrev none_noted : List UnitNotes
  none_noted = replicate (length ts) no_notes

  -- one
  over_one : (j : ℕ) (last : RunAnswer) (left : ℕ) (ns : List UnitNotes) → GoesFrom last left ns → run_goes_on last left ≡ true → Still (suc j) last.bus ts
      → GoesFrom (refused_run 0 (leapt 1 last.bus)) (left - 1) none_noted
  over_one j last left ns i g s =
      rw (still_ran images os letters j last.bus ts s, still_terminals images os letters j last.bus ts s, still_octets images os letters j last.bus ts s, still_notes images os letters j last.bus ts s)
      at (going_on images letters ended end last left ts os ns i g)

  -- and so many
  pub over : (j : ℕ) (last : RunAnswer) (left : ℕ) (ns : List UnitNotes) → GoesFrom last left ns → run_goes_on last left ≡ true → last.bus.opportunities.0 ≤ 4 * last.bus.periods.0
      → Still (suc j) last.bus ts → suc j ≤ left → GoesFrom (refused_run 0 (leapt (suc j) last.bus)) (left - suc j) none_noted
  unfolding refused_run
  over zero last left ns i g m s l = over_one 0 last left ns i g s
  over (suc j) last left ns i g m s l =
      let b = last.bus in
      let one = over_one (suc j) last left ns i g s in
      let rest = over j (refused_run 0 (leapt 1 b)) (left - 1) none_noted one (goes_leapt 1 b (left - 1) (omega (arith, s.one_left)) (omega arith)) (leapt_opportunities b m) (still_next (suc j) b ts s) (omega arith) in
      let fewer : left - 1 - suc j ≡ left - suc (suc j) = omega arith in
      rw (leapt_more b m (suc j) (omega (arith, s.one_left)), fewer) at rest

  -- ---- A turn of the loop: a leap, and the period after it.
  module _ (last : RunAnswer) (left : ℕ) (ns : List UnitNotes) (i : GoesFrom last left ns) (g : run_goes_on last left ≡ true) where
    abbrev far : ℕ
    far = reach last.bus ts left

    run : last.bus.periods.0 < most_periods
    run = leb-false most_periods last.bus.periods.0 (goes_facts last left g).1

    in_order_here : InOrder (kept last.bus ts images os letters ns)
    in_order_here = i.order (goes_reply last left g)

    -- where the bus is not still, the period alone
    stepped : (b : BusRecord) → b ≡ last.bus → Going images letters ended end (step_answer b ts images os letters) (left - 1) (step_terminals b ts images letters) (step_octets b ts images os letters) (step_notes b ts images letters)
    stepped b e = rw e (going_on images letters ended end last left ts os ns i g)

    far_less : far < left
    far_less =
        by_test (eqb far 0) (λ t. omega (arith, eqb-true far 0 t, ltb-true 0 left (goes_facts last left g).0))
        (λ t. reach_less last.bus ts left far (omega (arith, eqb-false far 0 t)) (omega arith))

    -- the periods left after the turn
    pub turn_less : 1 + far ≤ left
    turn_less = omega (arith, far_less)

    after_leap : (j : ℕ) → far ≡ suc j → (b : BusRecord) → b ≡ leapt (suc j) last.bus
        → Going images letters ended end (step_answer b ts images os letters) (left - (1 + suc j)) (step_terminals b ts images letters) (step_octets b ts images os letters) (step_notes b ts images letters)
    unfolding refused_run
    after_leap j e b is =
        let s = reach_still last.bus ts left (suc j) (omega arith) (omega (arith, e)) run in
        let o = over j last left ns i g in_order_here.opportunities_fit s (omega (arith, e, far_less)) in
        let on = going_on images letters ended end (refused_run 0 (leapt (suc j) last.bus)) (left - suc j) ts os none_noted o (goes_leapt (suc j) last.bus (left - suc j) s.one_left (omega (arith, e, far_less))) in
        let fewer : left - suc j - 1 ≡ left - (1 + suc j) = omega arith in
        rw is (rw fewer at on)

    pub turn_on : Going images letters ended end (step_answer (leapt far last.bus) ts images os letters) (left - (1 + far))
        (step_terminals (leapt far last.bus) ts images letters) (step_octets (leapt far last.bus) ts images os letters) (step_notes (leapt far last.bus) ts images letters)
    turn_on =
        by_test (eqb far 0)
        (λ t. rw (eqb-true far 0 t) (stepped (leapt 0 last.bus) (leapt_none last.bus in_order_here.opportunities_fit)))
        (λ t. let e : far ≡ suc (far - 1) = omega (arith, eqb-false far 0 t) in rw e (after_leap (far - 1) e (leapt (suc (far - 1)) last.bus) refl))

-- ---- The law.
pub leap : Leap
unfolding refused_run run_goes_on
leap left zero k r some h = absurd (omega arith)
leap left (suc j) k r some h =
    let o = in_order left k r in
    let room : suc j < left = reach_less k.bus k.terminals left (suc j) some h in
    let more : all_run k.bus.periods ≡ false = one_left left k (omega arith) r in
    let reply : run_reply (suc j) k ≡ 0 = order_reply (suc j) k o ∙ rw (lt-ltb 0 (suc j) some, more) in
    let s = reach_still k.bus k.terminals left (suc j) some h (leb-false most_periods k.bus.periods.0 more) in
    let first = rw reply at (going_first (suc j) k.bus k.terminals k.images k.octets k.letters k.notes) in
    let last =
    over k.images k.letters (run_answer (suc j) k) (kept_after (suc j) k) k.terminals k.octets j (refused_run 0 k.bus) (suc j) k.notes first
    (rw (lt-ltb 0 (suc j) some, more)) o.opportunities_fit s (omega arith) in
    let none : suc j - suc j ≡ 0 = omega arith in
    let e = going_ends k.images k.letters (run_answer (suc j) k) (kept_after (suc j) k) (refused_run 0 (leapt (suc j) k.bus)) (suc j - suc j) k.terminals k.octets (replicate (length k.terminals) no_notes) last (rw none) in
    record { answer_is = sym e.0; kept_is = sym e.1 ∙ rw o.eight }
