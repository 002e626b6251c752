-- A run hands back the notes of its periods as single calls: all but the last have none.
use mathlib.Core.Path.{◌≡◌, refl, sym, ap, ◌∙◌}
use mathlib.Core.Bool.{Bool, true, false, not, ◌&&◌, ◌||◌}
use mathlib.Core.List.{List, [], ◌∷◌, ◌++◌, append-nil}
use Prim.Native.Nat.{ℕ, zero, suc, ◌+◌, ◌-◌}
use native.Mathlib.Omega.{arith}
use lib.Dec.{eqb, ltb}
use borrow.Author.Tests.{eqb-true, eq-eqb, ltb-false, not-true}
use Rattle.test_lemmas.proofs.ByCases.{by_test, clash, and_left_false, and_right_false}
use Rattle.test_lemmas.proofs.Operators.{and_both}
use Rattle.notes_and_cells.specs.Notes.{noted}
use Rattle.notes_and_cells.specs.declared.notes.Notes.{Notes}
use Rattle.hdlc.specs.Bits.{number_low_first, bit_of}
use Rattle.hdlc.proofs.OctetLaws.{number_bit}
use Rattle.timing.specs.Calls.{all_run}
use Rattle.bus_rules.specs.Bus.{notes_of}
use Rattle.bus_rules.specs.Order.{unit_by_unit}
use Rattle.bus_rules.specs.Period.{heard_by, timed, period_run}
use Rattle.bus_rules.specs.Calls.Call.{period}
use Rattle.period_hearing.specs.Hears.{has_note}
use Rattle.period_hearing.specs.declared.hears.UnitNotes.{UnitNotes}
use Rattle.bus_record.specs.NetworkSide.{refused_run}
use Rattle.bus_record.specs.declared.side.RunAnswer.{RunAnswer}
use Rattle.bus_call_specs.specs.Kept.{Kept, settled}
use Rattle.bus_call_specs.specs.Shown.{bus_in}
use Rattle.bus_call_specs.specs.Period.{terminals_notes, any_unit_note, has_notes, period_answer, kept_run}
use Rattle.bus_call_specs.specs.Ready.{run_reply, run_goes_on}
use Rattle.bus_call_specs.specs.Run.{not_yet, run_answer, kept_after, answer_on, kept_on, SinglePeriod}
use Rattle.bus_call_specs.specs.Lists.{called, replied, reader_told, terminals_heard, terminals_told, timers_told, period_told, notes_told, LentCall, finds, left_by, call_of, left_all, notes_of_calls, calls_in, run_told, RunIsCalls, RunsAreCalls}
use Rattle.bus_call_specs.specs.Lists.LentCall.{runs}
use Rattle.bus_call_specs.proofs.InOrder.{one_left}
use Rattle.bus_call_specs.proofs.ReadyKept.{ready_kept}
use Rattle.bus_call_specs.proofs.RunSingle.{stays, first_ran, first_kept, ran_ends, period_single, run_single}

-- ---- no note
neither : (a b : Bool) → (a || b) ≡ false → (a ≡ false) × (b ≡ false)
neither true b h = clash true refl h
neither false b h = (refl, h)

none_noted : (n : Notes) → has_note n ≡ false → noted n ≡ []
unfolding noted has_note
none_noted n h = let z : n.0 ≡ 0 = omega (arith, ltb-false 0 n.0 h) in rw z

no_bit : (i : ℕ) → bit_of 0 i ≡ false
unfolding number_low_first
no_bit i = number_bit [] i

none_told : (now : ℕ) (r : RunAnswer) (i : ℕ) (ns : List UnitNotes) → r.done1 ≡ 0 → r.done2 ≡ 0 → any_unit_note ns ≡ false → terminals_told now r i ns ≡ []
unfolding unit_by_unit terminals_heard any_unit_note notes_of
none_told now r i [] p q h = refl
none_told now r i (n ∷ ns) p q h =
    let t = neither _ (any_unit_note ns) h in
    let m = neither (has_note n.hearing) (has_note n.timers) t.0 in
    rw (none_told now r (suc i) ns p q t.1, none_noted n.hearing m.0, p, q, no_bit i)

none_timed : (now i : ℕ) (ns : List UnitNotes) → any_unit_note ns ≡ false → timers_told now i ns ≡ []
unfolding unit_by_unit any_unit_note notes_of
none_timed now i [] h = refl
none_timed now i (n ∷ ns) h =
    let t = neither _ (any_unit_note ns) h in
    let m = neither (has_note n.hearing) (has_note n.timers) t.0 in
    rw (none_noted n.timers m.1, none_timed now (suc i) ns t.1)

no_not : (a : Bool) → not a ≡ false → a ≡ true
no_not true h = refl
no_not false h = clash true refl h

-- an answer that tells of no note has none
quiet : (now : ℕ) (r : RunAnswer) (ns : List UnitNotes) (octets : List ℕ) →
    (((any_unit_note (r.network ∷ ns) || not (eqb r.said 0)) || not (eqb r.done1 0)) || not (eqb r.done2 0)) ≡ false → period_told now r ns octets ≡ []
unfolding period_told reader_told any_unit_note notes_of
quiet now r ns octets h =
    let c = neither _ (not (eqb r.done2 0)) h in
    let b = neither _ (not (eqb r.done1 0)) c.0 in
    let a = neither _ (not (eqb r.said 0)) b.0 in
    let n = neither _ (any_unit_note ns) a.0 in
    let u = neither (has_note r.network.hearing) (has_note r.network.timers) n.0 in
    let said : eqb r.said 0 ≡ true = no_not _ a.1 in
    let two : r.done2 ≡ 0 = eqb-true _ _ (no_not _ c.1) in
    let one : r.done1 ≡ 0 = eqb-true _ _ (no_not _ b.1) in
    rw (
      none_told now r 0 ns one two n.1,
      none_timed (now + 1) 0 ns n.1,
      said,
      none_noted r.network.hearing u.0,
      none_noted r.network.timers u.1,
    )

-- what a run goes on by
pub goes_by : (last : RunAnswer) (n : ℕ) → run_goes_on last n ≡ true → (eqb last.reply 0 ≡ true) × (last.told ≡ false) × (all_run last.bus.periods ≡ false)
unfolding run_goes_on
goes_by last n g =
    let all = and_both _ (not (all_run last.bus.periods)) g in
    let some = and_both _ (ltb 0 n) all.0 in
    let first = and_both (eqb last.reply 0) (not last.told) some.0 in
    (first.0, not-true _ first.1, not-true _ all.1)

module _ (k : Kept) where
  pub quiet_run : (now : ℕ) → (period_answer k).told ≡ false → period_told now (period_answer k) (kept_run k).notes (kept_run k).octets ≡ []
  unfolding kept_run period_answer has_notes
  quiet_run now h = quiet now (period_answer k) (terminals_notes (bus_in k)) (kept_run k).octets h

  -- ---- a single call
  refused_one : eqb (run_reply 1 k) 0 ≡ false → (run_answer 1 k).reply ≡ run_reply 1 k
  unfolding run_answer answer_on run_goes_on not_yet refused_run
  refused_one t = rw t

  accepted_reply : eqb (run_answer 1 k).reply 0 ≡ true → run_reply 1 k ≡ 0
  accepted_reply h =
      by_test (eqb (run_reply 1 k) 0) (λ t. eqb-true (run_reply 1 k) 0 t) (λ t. clash (eqb (run_reply 1 k) 0) (rw (refused_one t) at h) t)

  pub accepted_one : eqb (run_answer 1 k).reply 0 ≡ true → SinglePeriod k
  accepted_one h = period_single k (accepted_reply h)

  accepted_zero : run_reply 1 k ≡ 0 → (run_answer 1 k).reply ≡ 0
  unfolding period_answer
  accepted_zero h = rw (period_single k h).answer_is

  replied_run : replied k period ≡ (run_answer 1 k).reply
  unfolding replied
  replied_run = refl

  first_left : (calls : List LentCall) → left_all k (runs k.notes ∷ calls) ≡ left_all (settled (kept_after 1 k)) calls
  unfolding called left_all left_by finds
  first_left calls = refl

  first_told : (calls : List LentCall) → notes_of_calls k (runs k.notes ∷ calls) ≡ notes_told k period ++ notes_of_calls (settled (kept_after 1 k)) calls
  unfolding called notes_of_calls left_by finds call_of
  first_told calls = refl

  -- where the notes are taken before a run: it is lent its places by itself
  settled_left : (m : ℕ) → left_all (settled k) (calls_in (suc m) k) ≡ left_all k (calls_in (suc m) k)
  unfolding calls_in left_all left_by finds settled
  settled_left m = refl

  settled_told : (m : ℕ) → notes_of_calls (settled k) (calls_in (suc m) k) ≡ notes_of_calls k (calls_in (suc m) k)
  unfolding calls_in notes_of_calls left_by finds settled
  settled_told m = refl

  counted : (period_answer k).bus.periods.0 - 1 ≡ k.bus.periods.0
  unfolding period_answer period_run timed heard_by bus_in
  counted = omega arith

  pub one_told : run_told 1 k ≡ notes_told k period
  unfolding run_told notes_told
  one_told =
      rw replied_run
      (by_test (eqb (run_answer 1 k).reply 0)
      (λ t. rw t (ap (λ (n : ℕ). period_told n (run_answer 1 k) (kept_after 1 k).notes (kept_after 1 k).octets) (rw (accepted_one t).answer_is counted)))
      (λ t. rw t))

  -- a run goes on after a period that has no note
  pub goes_quiet : (n : ℕ) → run_goes_on (run_answer 1 k) n ≡ true → notes_told k period ≡ []
  unfolding notes_told
  goes_quiet n g =
      let on = goes_by (run_answer 1 k) n g in
      let one = accepted_one on.0 in
      let none : (period_answer k).told ≡ false = rw one.answer_is at on.1 in
      rw (replied_run, on.0, one.answer_is, one.kept_is) (quiet_run k.bus.periods.0 none)

  -- .. and the next one is not refused
  pub goes_again : (n : ℕ) → run_goes_on (run_answer 1 k) n ≡ true → run_reply 1 (kept_after 1 k) ≡ 0
  unfolding kept_run
  goes_again n g =
      let on = goes_by (run_answer 1 k) n g in
      let h = accepted_reply on.0 in
      let one = accepted_one on.0 in
      let left : all_run (period_answer k).bus.periods ≡ false = rw one.answer_is at on.2 in
      rw one.kept_is (ready_kept 1 k h (one_left 1 k (omega arith) h) 1 ∙ rw left)

-- ---- a run
module _ (n : ℕ) (k : Kept) where
  calls_on : run_goes_on (run_answer 1 k) n ≡ true → calls_in (suc n) k ≡ runs k.notes ∷ calls_in n (kept_after 1 k)
  unfolding calls_in
  calls_on g = rw g

  calls_end : run_goes_on (run_answer 1 k) n ≡ false → calls_in (suc n) k ≡ runs k.notes ∷ []
  unfolding calls_in
  calls_end g = rw g

  pub told_on : run_goes_on (run_answer 1 k) n ≡ true → run_told (suc n) k ≡ run_told n (kept_after 1 k)
  unfolding run_told
  told_on g = let s = run_single n k in rw (s.answer_is, s.kept_is, g)

  pub told_end : run_goes_on (run_answer 1 k) n ≡ false → run_told (suc n) k ≡ run_told 1 k
  unfolding run_told
  told_end g = let s = run_single n k in rw (s.answer_is, s.kept_is, g)

  pub answer_on_lem : run_goes_on (run_answer 1 k) n ≡ true → run_answer (suc n) k ≡ run_answer n (kept_after 1 k)
  answer_on_lem g = (run_single n k).answer_is ∙ rw g

  pub ran_end : run_goes_on (run_answer 1 k) n ≡ false → run_answer (suc n) k ≡ run_answer 1 k
  ran_end g = (run_single n k).answer_is ∙ rw g

  pub kept_on_lem : run_goes_on (run_answer 1 k) n ≡ true → kept_after (suc n) k ≡ kept_after n (kept_after 1 k)
  kept_on_lem g = (run_single n k).kept_is ∙ rw g

  pub kept_end : run_goes_on (run_answer 1 k) n ≡ false → kept_after (suc n) k ≡ kept_after 1 k
  kept_end g = (run_single n k).kept_is ∙ rw g

  run_ends : run_goes_on (run_answer 1 k) n ≡ false → RunIsCalls n k
  unfolding left_all notes_of_calls
  run_ends g =
      record {
        replies = ap (λ (r : RunAnswer). r.reply) (ran_end g) ∙ sym (replied_run k);
        leaves = rw (kept_end g, calls_end g) (sym (first_left k []));
        tells = told_end g ∙ rw (calls_end g, first_told k [], append-nil (notes_told k period)) (one_told k);
      }

run_on : (m : ℕ) (k : Kept) → run_goes_on (run_answer 1 k) (suc m) ≡ true → RunIsCalls m (kept_after 1 k) → RunIsCalls (suc m) k
run_on m k g rest =
    let calls = calls_in (suc m) (kept_after 1 k) in
    record {
      replies =
          ap (λ (r : RunAnswer). r.reply) (answer_on_lem (suc m) k g)
          ∙ (rest.replies
          ∙ (replied_run (kept_after 1 k)
          ∙ (accepted_zero (kept_after 1 k) (goes_again k (suc m) g) ∙ sym (replied_run k ∙ eqb-true _ _ (goes_by (run_answer 1 k) (suc m) g).0))));
      leaves = rw (kept_on_lem (suc m) k g, calls_on (suc m) k g, first_left k calls, settled_left (kept_after 1 k) m) rest.leaves;
      tells =
          told_on (suc m) k g
          ∙ rw (calls_on (suc m) k g, first_told k calls, goes_quiet k (suc m) g, settled_told (kept_after 1 k) m) rest.tells;
    }

pub no_more : (last : RunAnswer) → run_goes_on last 0 ≡ false
unfolding run_goes_on
no_more last =
    and_left_false ((eqb last.reply 0 && not last.told) && ltb 0 0) (not (all_run last.bus.periods))
    (and_right_false (eqb last.reply 0 && not last.told) (ltb 0 0) refl)

pub runs_are_calls : RunsAreCalls
runs_are_calls zero k = run_ends zero k (no_more (run_answer 1 k))
runs_are_calls (suc m) k =
    by_test (run_goes_on (run_answer 1 k) (suc m)) (λ g. run_on m k g (runs_are_calls m (kept_after 1 k))) (λ g. run_ends (suc m) k g)

-- ---- A run that tells of no note has none, whatever it ran.
quiet_on : (n : ℕ) (k : Kept) (now : ℕ) → (answer_on n (period_answer k) (kept_run k)).told ≡ false
    → period_told now (answer_on n (period_answer k) (kept_run k)) (kept_on n (period_answer k) (kept_run k)).notes (kept_on n (period_answer k) (kept_run k)).octets ≡ []
unfolding answer_on kept_on
quiet_on zero k now h = quiet_run k now h
quiet_on (suc n) k now h =
    by_test (run_goes_on (period_answer k) (suc n)) (λ g. rw g (quiet_on n (kept_run k) now (rw g at h))) (λ g. rw g (quiet_run k now (rw g at h)))

refused_reply : (n : ℕ) (k : Kept) → eqb (run_reply n k) 0 ≡ false → (run_answer n k).reply ≡ run_reply n k
unfolding run_answer not_yet refused_run
refused_reply n k t = ap (λ (r : RunAnswer). r.reply) (ran_ends n (refused_run (run_reply n k) k.bus) k (stays n n k t))

pub quiet_told : (n : ℕ) (k : Kept) (now : ℕ) → (run_answer (suc n) k).reply ≡ 0 → (run_answer (suc n) k).told ≡ false
    → period_told now (run_answer (suc n) k) (kept_after (suc n) k).notes (kept_after (suc n) k).octets ≡ []
quiet_told n k now a h =
    by_test (eqb (run_reply (suc n) k) 0)
    (λ t.
    let z = eqb-true (run_reply (suc n) k) 0 t in
    rw (first_ran n k z, first_kept n k z) (quiet_on n k now (rw (first_ran n k z) at h)))
    (λ t. clash (eqb (run_reply (suc n) k) 0) (eq-eqb (run_reply (suc n) k) 0 (sym (refused_reply (suc n) k t) ∙ a)) t)
