-- A run is as many single calls of `period`: `specs/Run.antt`.
use mathlib.Core.Path.{◌≡◌, refl, sym, ◌∙◌}
use mathlib.Core.Bool.{true, false, not, ◌&&◌}
use Prim.Native.Nat.{ℕ, zero, suc}
use native.Mathlib.Omega.{arith}
use lib.Dec.{eqb, ltb}
use borrow.Author.Tests.{eqb-true, lt-ltb, ltb-true, not-true}
use Rattle.test_lemmas.proofs.ByCases.{by_test}
use Rattle.test_lemmas.proofs.Operators.{and_both}
use Rattle.timing.specs.Calls.{all_run}
use Rattle.bus_record.specs.NetworkSide.{refused_run}
use Rattle.bus_record.specs.declared.side.RunAnswer.{RunAnswer}
use Rattle.bus_call_specs.specs.Kept.{Kept}
use Rattle.bus_call_specs.specs.Period.{period_answer, kept_run}
use Rattle.bus_call_specs.specs.Ready.{run_reason, run_reply, run_goes_on}
use Rattle.bus_call_specs.specs.Run.{answer_on, kept_on, not_yet, run_answer, kept_after, SinglePeriods, RunSingle, PeriodSingle}
use Rattle.bus_call_specs.proofs.InOrder.{one_left}
use Rattle.bus_call_specs.proofs.ReadyKept.{ready_kept}

-- ---- The checks of a run are those of a single period.
pub same_reply : (n : ℕ) (k : Kept) → run_reply (suc n) k ≡ run_reply 1 k
unfolding run_reply run_reason
same_reply n k = rw (lt-ltb 0 (suc n) (omega arith))

same_start : (n : ℕ) (k : Kept) → not_yet (suc n) k ≡ not_yet 1 k
unfolding not_yet
same_start n k = rw (same_reply n k)

-- ---- Whether a run goes on.
starts : (n : ℕ) (k : Kept) → run_reply (suc n) k ≡ 0 → run_goes_on (not_yet (suc n) k) (suc n) ≡ true
unfolding run_goes_on not_yet refused_run
starts n k h = rw (h, lt-ltb 0 (suc n) (omega arith), one_left (suc n) k (omega arith) h)

pub stays : (n m : ℕ) (k : Kept) → eqb (run_reply n k) 0 ≡ false → run_goes_on (not_yet n k) m ≡ false
unfolding run_goes_on not_yet refused_run
stays n m k h = rw h

pub goes_facts : (last : RunAnswer) (n : ℕ) → run_goes_on last n ≡ true → (ltb 0 n ≡ true) × (all_run last.bus.periods ≡ false)
unfolding run_goes_on
goes_facts last n g =
    let a = and_both _ (not (all_run last.bus.periods)) g in
    ((and_both (eqb last.reply 0 && not last.told) (ltb 0 n) a.0).1, not-true _ a.1)

-- ---- The first period, where the run is not refused.
pub first_ran : (n : ℕ) (k : Kept) → run_reply (suc n) k ≡ 0 → run_answer (suc n) k ≡ answer_on n (period_answer k) (kept_run k)
unfolding run_answer answer_on
first_ran n k h = rw (starts n k h)

pub first_kept : (n : ℕ) (k : Kept) → run_reply (suc n) k ≡ 0 → kept_after (suc n) k ≡ kept_on n (period_answer k) (kept_run k)
unfolding kept_after kept_on
first_kept n k h = rw (starts n k h)

-- ---- Where it goes on, what is left to run begins with a period that is not refused.
module _ (n : ℕ) (k : Kept) (h : run_reply 1 k ≡ 0) (g : run_goes_on (period_answer k) n ≡ true) where
  next_reply : run_reply n (kept_run k) ≡ 0
  unfolding kept_run
  next_reply = ready_kept 1 k h (one_left 1 k (omega arith) h) n ∙ rw ((goes_facts (period_answer k) n g).0, (goes_facts (period_answer k) n g).1)

answer_on_lem : (n : ℕ) (k : Kept) → run_reply 1 k ≡ 0 → run_goes_on (period_answer k) n ≡ true → answer_on n (period_answer k) (kept_run k) ≡ run_answer n (kept_run k)
unfolding answer_on
answer_on_lem zero k h g = absurd (omega (arith, ltb-true 0 0 (goes_facts (period_answer k) 0 g).0))
answer_on_lem (suc n) k h g = rw g (sym (first_ran n (kept_run k) (next_reply (suc n) k h g)))

kept_on_lem : (n : ℕ) (k : Kept) → run_reply 1 k ≡ 0 → run_goes_on (period_answer k) n ≡ true → kept_on n (period_answer k) (kept_run k) ≡ kept_after n (kept_run k)
unfolding kept_on
kept_on_lem zero k h g = absurd (omega (arith, ltb-true 0 0 (goes_facts (period_answer k) 0 g).0))
kept_on_lem (suc n) k h g = rw g (sym (first_kept n (kept_run k) (next_reply (suc n) k h g)))

-- .. and else it has ended
pub ran_ends : (n : ℕ) (last : RunAnswer) (k : Kept) → run_goes_on last n ≡ false → answer_on n last k ≡ last
unfolding answer_on
ran_ends zero last k g = refl
ran_ends (suc n) last k g = rw g

pub kept_ends : (n : ℕ) (last : RunAnswer) (k : Kept) → run_goes_on last n ≡ false → kept_on n last k ≡ k
unfolding kept_on
kept_ends zero last k g = refl
kept_ends (suc n) last k g = rw g

-- ---- One period.
pub period_single : PeriodSingle
unfolding answer_on kept_on
period_single k h = record { answer_is = first_ran 0 k h; kept_is = first_kept 0 k h }

-- ---- One period, and the rest.
runs : (n : ℕ) (k : Kept) → run_reply 1 k ≡ 0 → SinglePeriods n k
runs n k h =
    let one = period_single k h in
    let all : run_reply (suc n) k ≡ 0 = same_reply n k ∙ h in
    by_test (run_goes_on (period_answer k) n)
    (λ g. record {
      answer_is = rw (one.answer_is, one.kept_is, g) (first_ran n k all ∙ answer_on_lem n k h g);
      kept_is = rw (one.answer_is, one.kept_is, g) (first_kept n k all ∙ kept_on_lem n k h g);
    })
    (λ g. record {
      answer_is = rw (one.answer_is, g) (first_ran n k all ∙ ran_ends n (period_answer k) (kept_run k) g);
      kept_is = rw (one.answer_is, one.kept_is, g) (first_kept n k all ∙ kept_ends n (period_answer k) (kept_run k) g);
    })

-- a run that is refused
module _ (k : Kept) (h : eqb (run_reply 1 k) 0 ≡ false) where
  refused_ran : (n : ℕ) → run_answer (suc n) k ≡ not_yet 1 k
  unfolding run_answer
  refused_ran n = rw (same_start n k) (ran_ends (suc n) (not_yet 1 k) k (stays 1 (suc n) k h))

  refused_kept : (n : ℕ) → kept_after (suc n) k ≡ k
  unfolding kept_after
  refused_kept n = rw (same_start n k) (kept_ends (suc n) (not_yet 1 k) k (stays 1 (suc n) k h))

  refused : (n : ℕ) → SinglePeriods n k
  refused n =
      record {
        answer_is = rw (refused_ran n, refused_ran 0, stays 1 n k h);
        kept_is = rw (refused_kept n, refused_ran 0, stays 1 n k h) (sym (refused_kept 0));
      }

pub run_single : RunSingle
run_single n k = by_test (eqb (run_reply 1 k) 0) (λ t. runs n k (eqb-true (run_reply 1 k) 0 t)) (λ t. refused k t n)
