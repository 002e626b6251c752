-- A period that is told of hands back a note, so that a run without notes has come to its end: `specs/Lists.antt`.
use mathlib.Core.Path.{◌≡◌, refl, sym, ap, ◌∙◌}
use mathlib.Core.Bool.{Bool, true, false}
use mathlib.Core.List.{List, [], ◌∷◌, ◌++◌}
use Prim.Native.Nat.{ℕ, zero, suc, ◌+◌, ◌≤◌, ◌<◌, min}
use native.Mathlib.Omega.{arith}
use lib.Dec.{eqb, ltb}
use lib.ListN.{length, get_or, length-take, length-map}
use borrow.Author.Tests.{eqb-true, ltb-true, ltb-false, leb-true, leb-false}
use Rattle.test_lemmas.proofs.ByCases.{by_test, clash}
use Rattle.notes_and_cells.specs.Notes.{noted}
use Rattle.notes_and_cells.specs.declared.notes.Notes.{Notes}
use Rattle.hdlc.specs.Bits.{number_low_first, bit_of}
use Rattle.hdlc.proofs.OctetLaws.{number_bit}
use Rattle.timing.specs.Counts.{most_periods}
use Rattle.timing.specs.Calls.{all_run}
use Rattle.bus_rules.specs.Bus.{notes_of}
use Rattle.bus_rules.specs.Order.{unit_by_unit}
use Rattle.bus_rules.specs.Period.{heard_by, timed, period_run}
use Rattle.exchange.specs.Shown.{done_octet}
use Rattle.period_hearing.specs.Hears.{has_note}
use Rattle.period_hearing.specs.declared.hears.UnitNotes.{UnitNotes}
use Rattle.bus_record.specs.NetworkSide.{refused_run}
use Rattle.bus_record.specs.declared.side.RunAnswer.{RunAnswer}
use Rattle.bus_call_specs.specs.Kept.{Kept}
use Rattle.bus_call_specs.specs.Shown.{bus_in}
use Rattle.bus_call_specs.specs.Period.{terminals_notes, any_unit_note, has_notes, done_mask, period_answer, kept_run}
use Rattle.bus_call_specs.specs.Ready.{run_reply, run_goes_on}
use Rattle.bus_call_specs.specs.Run.{not_yet, run_answer, kept_after, kept_on}
use Rattle.bus_call_specs.specs.Lists.{done_notes, reader_told, terminals_heard, terminals_told, timers_told, period_told, run_told, QuietRunEnds}
use Rattle.bus_call_specs.proofs.InOrder.{in_order, one_left}
use Rattle.bus_call_specs.proofs.RunSingle.{same_reply, period_single, goes_facts, ran_ends, stays}
use Rattle.bus_call_specs.proofs.QuietRuns.{goes_again, told_on, told_end, kept_on_lem, kept_end}

-- ---- Lists without notes.
nothing : {A : Type 0} (x : A) (xs : List A) → x ∷ xs ≡ [] → ⊥
nothing x xs h = omega (arith, ap length h)

no_parts : {A : Type 0} (xs ys : List A) → xs ++ ys ≡ [] → (xs ≡ []) × (ys ≡ [])
no_parts [] ys h = (refl, h)
no_parts (x ∷ xs) ys h = absurd (nothing x (xs ++ ys) h)

no_codes : (now unit : ℕ) (codes : List ℕ) → notes_of now unit codes ≡ [] → codes ≡ []
unfolding notes_of
no_codes now unit [] h = refl
no_codes now unit (c ∷ codes) h = absurd (nothing _ _ h)

no_note : (n : Notes) → noted n ≡ [] → has_note n ≡ false
unfolding noted has_note
no_note n h =
    by_test (ltb 0 n.0)
    (λ t. absurd (omega (arith, ltb-true 0 n.0 t, ap length h, length-take n.0 (n.1 ∷ n.2 ∷ n.3 ∷ n.4 ∷ []))))
    (λ t. t)

none_of : (now unit : ℕ) (n : Notes) → notes_of now unit (noted n) ≡ [] → has_note n ≡ false
none_of now unit n h = no_note n (no_codes now unit (noted n) h)

not_done : (one two : Bool) → done_notes one two ≡ [] → (one ≡ false) × (two ≡ false)
not_done true two h = absurd (nothing _ _ h)
not_done false true h = absurd (nothing _ _ h)
not_done false false h = (refl, refl)

-- ---- The terminals.
record Silent (now : ℕ) (r : RunAnswer) (i : ℕ) (n : UnitNotes) (ns : List UnitNotes) : Type 0 where
  heard : has_note n.hearing ≡ false
  one : bit_of r.done1 i ≡ false
  two : bit_of r.done2 i ≡ false
  rest : terminals_told now r (suc i) ns ≡ []

silent : (now : ℕ) (r : RunAnswer) (i : ℕ) (n : UnitNotes) (ns : List UnitNotes) → terminals_told now r i (n ∷ ns) ≡ [] → Silent now r i n ns
unfolding unit_by_unit terminals_heard
silent now r i n ns h =
    let p = no_parts (notes_of now (suc i) (done_notes (bit_of r.done1 i) (bit_of r.done2 i) ++ noted n.hearing)) (terminals_told now r (suc i) ns) h in
    let q = no_parts (done_notes (bit_of r.done1 i) (bit_of r.done2 i)) (noted n.hearing) (no_codes now (suc i) _ p.0) in
    let d = not_done (bit_of r.done1 i) (bit_of r.done2 i) q.0 in
    record { heard = no_note n.hearing q.1; one = d.0; two = d.1; rest = p.1 }

none_any : (now later : ℕ) (r : RunAnswer) (i : ℕ) (ns : List UnitNotes) → terminals_told now r i ns ≡ [] → timers_told later i ns ≡ [] → any_unit_note ns ≡ false
unfolding any_unit_note unit_by_unit
none_any now later r i [] h t = refl
none_any now later r i (n ∷ ns) h t =
    let s = silent now r i n ns h in
    let p = no_parts (notes_of later (suc i) (noted n.timers)) (timers_told later (suc i) ns) t in
    rw (s.heard, none_of later (suc i) n.timers p.0) (none_any now later r (suc i) ns s.rest p.1)

none_done : (now : ℕ) (r : RunAnswer) (i : ℕ) (ns : List UnitNotes) → terminals_told now r i ns ≡ []
    → (j : ℕ) → j < length ns → (bit_of r.done1 (i + j) ≡ false) × (bit_of r.done2 (i + j) ≡ false)
none_done now r i [] h j l = absurd (omega arith)
none_done now r i (n ∷ ns) h zero l =
    let s = silent now r i n ns h in
    let e : i + 0 ≡ i = omega arith in
    rw e ((s.one, s.two))
none_done now r i (n ∷ ns) h (suc j) l =
    let e : i + suc j ≡ suc i + j = omega arith in
    rw e (none_done now r (suc i) ns (silent now r i n ns h).rest j (omega arith))

-- a number none of whose bits is set
no_bits : (bs : List Bool) → ((j : ℕ) → j < length bs → get_or bs j false ≡ false) → number_low_first bs ≡ 0
unfolding number_low_first
no_bits [] h = refl
no_bits (b ∷ bs) h = rw (h 0 (omega arith), no_bits bs (λ j l. h (suc j) (omega arith)))

-- ---- A period.
record Without (now : ℕ) (r : RunAnswer) (ns : List UnitNotes) : Type 0 where
  said : eqb r.said 0 ≡ true
  heard : has_note r.network.hearing ≡ false
  timed : has_note r.network.timers ≡ false
  terminals : terminals_told now r 0 ns ≡ []
  timers : timers_told (now + 1) 0 ns ≡ []

without : (now : ℕ) (r : RunAnswer) (ns : List UnitNotes) (octets : List ℕ) → period_told now r ns octets ≡ [] → Without now r ns
unfolding period_told reader_told
without now r ns octets h =
    let p = no_parts (reader_told now r octets ++ (notes_of now 0 (noted r.network.hearing) ++ terminals_told now r 0 ns)) _ h in
    let q = no_parts (reader_told now r octets) _ p.0 in
    let u = no_parts (notes_of now 0 (noted r.network.hearing)) (terminals_told now r 0 ns) q.1 in
    let v = no_parts (notes_of (now + 1) 0 (noted r.network.timers)) (timers_told (now + 1) 0 ns) p.1 in
    record {
      said = by_test (eqb r.said 0) (λ t. t) (λ t. absurd (nothing _ [] (rw t at q.0)));
      heard = none_of now 0 r.network.hearing u.0;
      timed = none_of (now + 1) 0 r.network.timers v.0;
      terminals = u.1;
      timers = v.1;
    }

module _ (k : Kept) where
  no_mask : (class : ℕ) → ((j : ℕ) → j < length (terminals_notes (bus_in k)) → bit_of (done_mask class (bus_in k)) (0 + j) ≡ false)
      → done_mask class (bus_in k) ≡ 0
  unfolding done_mask done_octet terminals_notes
  no_mask class h =
      no_bits _
      (λ j l.
      let e : 0 + j ≡ j = omega arith in
      sym (number_bit _ j) ∙ (rw e at (h j (simp length-map (simp length-map at l)))))

  pub silent_period : (now : ℕ) (octets : List ℕ) → period_told now (period_answer k) (kept_run k).notes octets ≡ [] → (period_answer k).told ≡ false
  unfolding period_answer kept_run has_notes any_unit_note
  silent_period now octets h =
      let ns = terminals_notes (bus_in k) in
      let w = without now (period_answer k) ns octets h in
      let done = none_done now (period_answer k) 0 ns w.terminals in
      rw (
        w.heard,
        w.timed,
        none_any now (now + 1) (period_answer k) 0 ns w.terminals w.timers,
        w.said,
        no_mask 1 (λ j l. (done j l).0),
        no_mask 2 (λ j l. (done j l).1),
      )

  -- a single period that is not refused: one more has been run, and where it has no notes it is not told of
  module _ (h : run_reply 1 k ≡ 0) where
    one_more : (kept_after 1 k).bus.periods.0 ≡ k.bus.periods.0 + 1
    unfolding kept_run period_answer period_run timed heard_by bus_in
    one_more = rw (period_single k h).kept_is

    one_silent : run_told 1 k ≡ [] → (run_answer 1 k).told ≡ false
    unfolding run_told period_answer
    one_silent e =
        let one = period_single k h in
        rw one.answer_is (silent_period _ (kept_run k).octets (rw (one.answer_is, one.kept_is) at e))

-- ---- A run.
ends : (n : ℕ) (k : Kept) → run_reply 1 k ≡ 0 → (run_answer 1 k).told ≡ false → run_goes_on (run_answer 1 k) n ≡ false
    → k.bus.periods.0 + 1 ≡ min (k.bus.periods.0 + suc n) most_periods
unfolding run_goes_on period_answer period_run timed heard_by bus_in
ends n k h t g =
    let one = period_single k h in
    let left : k.bus.periods.0 < most_periods = leb-false _ _ (one_left 1 k (omega arith) h) in
    by_test (ltb 0 n)
    (λ l.
    by_test (all_run (run_answer 1 k).bus.periods)
    (λ a. let m : most_periods ≤ k.bus.periods.0 + 1 = leb-true _ _ (rw one.answer_is at a) in omega arith)
    (λ a. clash true refl (rw one.answer_is at (rw (t, l, a) at g))))
    (λ l. let z = ltb-false 0 n l in omega arith)

-- where a run goes on, the rest is not refused
rest_runs : (n : ℕ) (k : Kept) → run_goes_on (run_answer 1 k) n ≡ true → run_reply n (kept_after 1 k) ≡ 0
rest_runs zero k g = absurd (omega (arith, ltb-true 0 0 (goes_facts (run_answer 1 k) 0 g).0))
rest_runs (suc m) k g = same_reply m (kept_after 1 k) ∙ goes_again k (suc m) g

none_run : (k : Kept) → kept_after 0 k ≡ k
unfolding kept_after kept_on
none_run k = refl

come_to : (most : ℕ) (k : Kept) → run_reply most k ≡ 0 → run_told most k ≡ []
    → (kept_after most k).bus.periods.0 ≡ min (k.bus.periods.0 + most) most_periods
come_to zero k h e = rw (none_run k) (omega (arith, (in_order 0 k h).periods_fit))
come_to (suc n) k h e =
    let h1 : run_reply 1 k ≡ 0 = sym (same_reply n k) ∙ h in
    by_test (run_goes_on (run_answer 1 k) n)
    (λ g. rw (kept_on_lem n k g) (omega (arith, one_more k h1, come_to n (kept_after 1 k) (rest_runs n k g) (sym (told_on n k g) ∙ e))))
    (λ g. rw (kept_end n k g) (one_more k h1 ∙ ends n k h1 (one_silent k h1 (sym (told_end n k g) ∙ e)) g))

not_refused : (most : ℕ) (k : Kept) → (run_answer most k).reply ≡ 0 → run_reply most k ≡ 0
unfolding run_answer not_yet refused_run
not_refused most k z =
    by_test (eqb (run_reply most k) 0) (λ t. eqb-true _ _ t) (λ t. rw (ran_ends most (not_yet most k) k (stays most most k t)) at z)

pub quiet_run_ends : QuietRunEnds
quiet_run_ends most k z e = come_to most k (not_refused most k z) e
