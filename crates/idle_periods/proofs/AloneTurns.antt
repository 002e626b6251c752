-- A run of periods in which one terminal sends alone (crate `lone_sender`) is a turn of a run's loop: `specs/Turn.antt`.
use mathlib.Core.Path.{◌≡◌, refl, ap, ◌∙◌}
use mathlib.Core.Bool.{true, ◌&&◌}
use mathlib.Core.List.{List, [], ◌∷◌}
use Prim.Native.Nat.{ℕ, zero, suc, ◌+◌, ◌-◌, ◌≤◌, ◌<◌}
use native.Mathlib.Omega.{arith}
use lib.ListN.{length, replicate}
use borrow.Author.Tests.{lt-ltb}
use Rattle.test_lemmas.proofs.ByCases.{by_test, behind}
use Rattle.test_lemmas.proofs.Operators.{and_both}
use Rattle.slice_lemmas.specs.Over.{map_from}
use Rattle.timing.specs.Calls.{next_period}
use Rattle.terminal.specs.declared.Terminal.{Terminal}
use Rattle.period_hearing.specs.Hears.{silenced}
use Rattle.period_hearing.specs.declared.hears.UnitNotes.{UnitNotes}
use Rattle.bus_record.specs.NetworkSide.{no_notes, answer_with, answer_after, refused_run}
use Rattle.bus_record.specs.declared.record.BusRecord.{BusRecord}
use Rattle.bus_record.specs.declared.side.RunAnswer.{RunAnswer}
use Rattle.lone_sender.specs.Lone.{lone_after_e, lone_after_four, followed, lone_stations, sender_in}
use Rattle.lone_sender.specs.Alone.{goes_alone, alone_after, octets_then, alone_on, octets_on, not_yet, alone_run, alone_run_octets}
use Rattle.lone_sender.specs.Search.{all_hear_alike, AllClear, searched, alone_for}
use Rattle.lone_sender.specs.declared.alone.Alone.{Alone}
use Rattle.lone_sender.specs.declared.lone.LoneSender.{LoneSender}
use Rattle.lone_sender.specs.declared.search.Search.{Search}
use Rattle.lone_sender.proofs.FoundAlone.{found_alone}
use Rattle.lone_sender.proofs.Period.{goes_facts, period_alone, clear_on}
use Rattle.bus_call_specs.specs.Kept.{Kept, kept}
use Rattle.bus_call_specs.specs.Ready.{run_goes_on}
use Rattle.bus_call_specs.specs.Period.{period_answer, kept_run}
use Rattle.bus_call_specs.specs.Run.{answer_on, kept_on}
use Rattle.bus_call_specs.specs.Step.{step_told, step_answer, step_terminals, step_octets, step_notes}
use Rattle.bus_record.specs.Echo.{step_tally, step_exchanged, step_line}
use Rattle.bus_call_specs.proofs.InOrder.{in_order}
use Rattle.bus_call_specs.proofs.RunLoop.{Going, going_on}
use Rattle.idle_periods.specs.Turn.{Turns}
use Rattle.idle_periods.proofs.Turning.{from_first, shown_turn}

-- ---- The sender keeps its place and its image.
same_place : (images : List ℕ) (s : LoneSender) → ((lone_after_four images s).at ≡ s.at) × ((lone_after_four images s).length ≡ s.length)
unfolding lone_after_four lone_after_e
same_place images s = (refl, refl)

-- ---- What goes on alone goes on.
module _ (images : List ℕ) (a : Alone) (g : goes_alone images a ≡ true) where
  goes_so : (left : ℕ) → 0 < left → run_goes_on a.answer left ≡ true
  unfolding run_goes_on
  goes_so left some = let f = goes_facts images a g in rw (f.no_reply, f.none_told, f.more, lt-ltb 0 left some)

  next_period_lem : (os : List ℕ) → (alone_after images a os).answer.bus.periods.0 ≡ a.answer.bus.periods.0 + 1
  unfolding alone_after answer_after answer_with next_period
  next_period_lem os = rw (goes_facts images a g).more

-- a period more is run, and is not refused
over_after : (images : List ℕ) (a : Alone) (os : List ℕ) → (alone_after images a os).over ≡ a.over + 1
unfolding alone_after
over_after images a os = refl

reply_after : (images : List ℕ) (a : Alone) (os : List ℕ) → (alone_after images a os).answer.reply ≡ 0
unfolding alone_after answer_after answer_with
reply_after images a os = refl

-- ---- The run, from what was found.
module _ (images letters : List ℕ) (ended : RunAnswer) (end : Kept) (ts : List Terminal) (total : ℕ) (rest : all_hear_alike ts ≡ true) where
  abbrev none_noted : List UnitNotes
  none_noted = replicate (length ts) no_notes

  -- with so many periods run
  abbrev GoesAt : Alone → List ℕ → List UnitNotes → Type 0
  GoesAt a os ns = Going images letters ended end a.answer (total - a.over) (map_from (followed a.lone) 0 ts) os ns

  record Stands (a : Alone) : Type 0 where
    stations : lone_stations a.lone.at a.lone.length 0 ts ≡ true
    sender : sender_in a.lone.at 0 ts ≡ true

  stands_on : (a : Alone) (os : List ℕ) → Stands a → Stands (alone_after images a os)
  unfolding alone_after
  stands_on a os s = let place = same_place images a.lone in record { stations = rw (place.0, place.1) s.stations; sender = rw place.0 s.sender }

  one_period : (a : Alone) (os : List ℕ) (ns : List UnitNotes) → GoesAt a os ns → Stands a → goes_alone images a ≡ true → AllClear a.answer.bus.periods.0 1 ts → a.over < total
      → GoesAt (alone_after images a os) (octets_then images a os) none_noted
  unfolding alone_after octets_then step_answer step_terminals step_octets step_notes step_told step_tally step_exchanged step_line
  one_period a os ns i s g c l =
      let p = period_alone images letters a ts g s.stations s.sender rest c in
      let fewer : total - a.over - 1 ≡ total - (a.over + 1) = omega arith in
      let on = going_on images letters ended end a.answer (total - a.over) (map_from (followed a.lone) 0 ts) os ns i (goes_so images a g (total - a.over) (omega arith)) in
      rw (p.told_is, p.terminals_are, p.notes_are, p.tally_is, fewer) at on

  -- and so many; n0 periods from period now0 on no timer is due, and k of them have been run
  module _ (now0 n0 : ℕ) (c : AllClear now0 n0 ts) where
    -- the next n periods, after k of them
    abbrev Result : ℕ → Alone → List ℕ → Type 0
    Result n a os = GoesAt (alone_on images n a os) (octets_on images n a os) none_noted × ((alone_on images n a os).answer.reply ≡ 0) × ((alone_on images n a os).over ≤ total)

    abbrev From : ℕ → ℕ → Alone → List ℕ → Type 0
    From n k a os = GoesAt a os none_noted → Stands a → a.answer.reply ≡ 0 → a.answer.bus.periods.0 ≡ now0 + k → k + n ≤ n0 → a.over + n ≤ total → Result n a os

    none_on : (k : ℕ) (a : Alone) (os : List ℕ) → From zero k a os
    unfolding alone_on octets_on
    none_on k a os i s z p l m = (i, z, omega arith)

    one_on : (n k : ℕ) (a : Alone) (os : List ℕ) → From n (suc k) (alone_after images a os) (octets_then images a os) → From (suc n) k a os
    unfolding alone_on octets_on
    one_on n k a os more i s z p l m =
        by_test (goes_alone images a)
        (λ g.
        let clear-here : AllClear a.answer.bus.periods.0 1 ts = rw p (clear_on now0 n0 k ts (omega arith) c) in
        let j = one_period a os none_noted i s g clear-here (omega arith) in
        let q : (alone_after images a os).answer.bus.periods.0 ≡ now0 + suc k = next_period_lem images a g os ∙ rw p (omega arith) in
        let t = stands_on a os s in
        let over = over_after images a os in
        rw g (more j t (reply_after images a os) q (omega arith) (omega (arith, over))))
        (λ g. rw g (i, z, omega arith))

    on_alone : (n k : ℕ) (a : Alone) (os : List ℕ) → From n k a os
    on_alone zero k a os = none_on k a os
    on_alone (suc n) k a os = one_on n k a os (on_alone n (suc k) (alone_after images a os) (octets_then images a os))

  -- from the first, where one is run at least
  module _ (now0 n0 : ℕ) (c : AllClear now0 n0 ts) (few : n0 ≤ total) where
    first_alone : (n : ℕ) → n ≤ n0 → (a : Alone) (os : List ℕ) (ns : List UnitNotes) → GoesAt a os ns → Stands a → a.over ≡ 0 → a.answer.bus.periods.0 ≡ now0 → 0 < (alone_on images n a os).over
        → GoesAt (alone_on images n a os) (octets_on images n a os) none_noted × ((alone_on images n a os).answer.reply ≡ 0) × ((alone_on images n a os).over ≤ total)
    unfolding alone_on octets_on
    first_alone zero m a os ns i s z p some = absurd (omega (arith, z))
    first_alone (suc n) m a os ns i s z p some =
        by_test (goes_alone images a)
        (λ g.
        let here : now0 ≡ now0 + 0 = omega arith in
        let clear-here : AllClear a.answer.bus.periods.0 1 ts = rw (p, here) (clear_on now0 n0 0 ts (omega arith) c) in
        let j = one_period a os ns i s g clear-here (omega (arith, z)) in
        let q : (alone_after images a os).answer.bus.periods.0 ≡ now0 + 1 = next_period_lem images a g os ∙ rw p in
        let t = stands_on a os s in
        let over = over_after images a os in
        rw g (on_alone now0 n0 c n 1 (alone_after images a os) (octets_then images a os) j t (reply_after images a os) q (omega arith) (omega (arith, z, over))))
        (λ g. let none : 0 < a.over = rw g at some in absurd (omega (arith, z)))

-- ---- Nothing run leaves the octets as they were.
no_fewer : (images : List ℕ) (n : ℕ) (a : Alone) (os : List ℕ) → a.over ≤ (alone_on images n a os).over
unfolding alone_on alone_after
no_fewer images zero a os = omega arith
no_fewer images (suc n) a os =
    by_test (goes_alone images a)
    (λ g. rw g (let more = no_fewer images n (alone_after images a os) (octets_then images a os) in omega arith))
    (λ g. rw g (omega arith))

pub none_run : (images : List ℕ) (n : ℕ) (bus : BusRecord) (s : LoneSender) (os : List ℕ) → (alone_run images n bus s os).over ≡ 0 → alone_run_octets images n bus s os ≡ os
unfolding alone_run alone_run_octets alone_on octets_on alone_after
none_run images zero bus s os z = refl
none_run images (suc n) bus s os z =
    by_test (goes_alone images (not_yet bus s))
    (λ g. let z1 = rw g at z in absurd (omega (arith, no_fewer images n (alone_after images (not_yet bus s) os) (octets_then images (not_yet bus s) os))))
    (λ g. rw g)

-- ---- The turn.
all_silenced : (i : ℕ) (ns : List UnitNotes) → map_from silenced i ns ≡ replicate (length ns) no_notes
unfolding map_from
all_silenced i [] = refl
all_silenced i (n ∷ ns) = ap (λ (zs : List UnitNotes). no_notes ∷ zs) (all_silenced (suc i) ns)

module _ (left : ℕ) (k : Kept) where
  abbrev found : Search
  found = searched k.bus.periods left k.terminals

  abbrev run : Alone
  run = alone_run k.images (alone_for found) k.bus found.lone k.octets

  from_search : 0 < alone_for found → (found.fits ≡ true) × (found.sends ≡ true) × (alone_for found ≡ found.over)
  unfolding alone_for
  from_search some =
      let t = (behind (found.fits && found.sends) found.over (alone_for found) some (omega arith)).0 in
      let p = and_both found.fits found.sends t in
      (p.0, p.1, rw t)

  pub alone_turns : 0 < alone_for found → 0 < run.over →
      Turns left k run.answer (run.over - 1)
      (kept run.answer.bus (map_from (followed run.lone) 0 k.terminals) k.images (alone_run_octets k.images (alone_for found) k.bus found.lone k.octets) k.letters (map_from silenced 0 k.notes))
  unfolding alone_run alone_run_octets refused_run
  alone_turns search ran some h =
      let q = from_search search in
      let o = in_order 1 k h in
      let alone = found_alone k.bus.periods left k.terminals q.0 q.1 in
      let none : left - 0 ≡ left = omega arith in
      let i : Going k.images k.letters (answer_on (left - 1) (period_answer k) (kept_run k)) (kept_on (left - 1) (period_answer k) (kept_run k)) (refused_run 0 k.bus) (left - 0) (map_from (followed found.lone) 0 k.terminals) k.octets k.notes = rw (alone.followed_is, none) (from_first left k some h) in
      let r = first_alone k.images k.letters (answer_on (left - 1) (period_answer k) (kept_run k)) (kept_on (left - 1) (period_answer k) (kept_run k)) k.terminals left alone.rest k.bus.periods.0 found.over alone.clear alone.few (alone_for found) (omega (arith, q.2)) (not_yet k.bus found.lone) k.octets k.notes i (record { stations = alone.stations; sender = alone.sender }) refl refl ran in
      let one : 1 + (run.over - 1) ≡ run.over = omega (arith, ran) in
      let silent : map_from silenced 0 k.notes ≡ replicate (length k.terminals) no_notes = all_silenced 0 k.notes ∙ rw (o.notes_fit, o.eight) in
      rw silent (shown_turn left k some h run.answer (run.over - 1) _ _ _ r.1 (rw one r.2) (rw one r.0))
