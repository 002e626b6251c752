-- A run on the record and what is lent with it is the rules' run of the bus that they stand for:
-- `specs/Lists.antt`.
use mathlib.Core.Path.{◌≡◌, refl, sym, ap, ◌∙◌}
use mathlib.Core.Bool.{Bool, true, false, not, cond, ◌&&◌}
use mathlib.Core.List.{List, [], ◌∷◌, append-nil}
use Prim.Native.Nat.{ℕ, zero, suc}
use native.Mathlib.Omega.{arith}
use lib.Dec.{eqb, leb}
use lib.ListN.{length}
use borrow.Author.Tests.{eqb-true, lt-ltb}
use Rattle.test_lemmas.proofs.ByCases.{by_test, clash}
use Rattle.test_lemmas.proofs.Operators.{and_both}
use Rattle.timing.specs.Counts.{most_periods}
use Rattle.timing.specs.Calls.{all_run}
use Rattle.bus_rules.specs.Bus.{Bus, Note}
use Rattle.bus_rules.specs.Period.{period_run, period_notes}
use Rattle.bus_rules.specs.Calls as bus
use Rattle.bus_rules.specs.Calls.Call.{period}
use Rattle.bus_rules.proofs.Sound.{sound_kept}
use Rattle.bus_record.specs.NetworkSide.{refused_run}
use Rattle.bus_record.specs.declared.side.RunAnswer.{RunAnswer}
use Rattle.bus_call_specs.specs.Kept.{Kept}
use Rattle.bus_call_specs.specs.Period.{period_answer, kept_run}
use Rattle.bus_call_specs.specs.Ready.{run_reason, run_reply, run_goes_on}
use Rattle.bus_call_specs.specs.Run.{answer_on, kept_on, not_yet, run_answer, kept_after}
use Rattle.bus_call_specs.specs.Lists.{Carries, called, replied, RunOfRules, RunCarried, NoPeriodsRun, NoPeriodsCarried}
use Rattle.bus_call_specs.proofs.Fields.{periods_of}
use Rattle.bus_call_specs.proofs.InOrder.{order_reply}
use Rattle.bus_call_specs.proofs.RunSingle.{period_single}
use Rattle.bus_call_specs.proofs.Fitting.{Fit, sound_fits, in_order, run_reply_lem}
use Rattle.bus_call_specs.proofs.PeriodCarried.{run_carried, run_told_lem, period_replied, period_notes_lem, period_carried}
use Rattle.bus_call_specs.proofs.QuietRuns.{quiet_run, goes_by, goes_quiet, one_told, told_on, told_end, answer_on_lem, ran_end, kept_on_lem, kept_end, no_more}
use Rattle.bus_call_specs.proofs.QuietEnds.{silent_period}

none_long : (ns : List Note) → eqb (length ns) 0 ≡ true → ns ≡ []
none_long [] h = refl
none_long (n ∷ ns) h = absurd (omega (arith, eqb-true (length (n ∷ ns)) 0 h))

without_true : (a b : Bool) → ((a && true) && b) ≡ (a && b)
without_true true b = refl
without_true false b = refl

zero_or_nine : (t : Bool) → eqb (cond t 9 0) 0 ≡ not t
zero_or_nine true = refl
zero_or_nine false = refl

module _ (k : Kept) (b : Bus) (c : Carries k b) (f : Fit b) where
  -- ---- Both go on after the same periods.

  -- a period is told of where it has a note
  told_same : not (period_answer k).told ≡ eqb (length (period_notes b)) 0
  told_same =
      by_test (period_answer k).told
      (λ t.
      by_test (eqb (length (period_notes b)) 0)
      (λ n. clash (period_answer k).told t (silent_period k _ (kept_run k).octets (run_told_lem k b c f ∙ none_long (period_notes b) n)))
      (λ n. rw (t, n)))
      (λ t. let none : period_notes b ≡ [] = sym (run_told_lem k b c f) ∙ quiet_run k k.bus.periods.0 t in rw (t, none))

  left_same : all_run (period_answer k).bus.periods ≡ leb most_periods (period_run b).periods
  unfolding kept_run
  left_same = ap (leb most_periods) (periods_of (run_carried k b c f).record_is)

  reply_is : (run_answer 1 k).reply ≡ bus.reply b period
  unfolding replied
  reply_is = period_replied k b c f

  goes_same : (m : ℕ) → run_goes_on (run_answer 1 k) (suc m) ≡ bus.run_goes_on b
  unfolding run_goes_on bus.run_goes_on bus.notes bus.after bus.reply bus.does bus.tells period_answer
  goes_same m =
      by_test (leb most_periods b.periods)
      (λ t. rw (reply_is, t) (rw t))
      (λ t.
      let one = period_single k (rw t at (run_reply_lem k b c f)) in
      rw (one.answer_is, t, lt-ltb 0 (suc m) (omega arith), left_same, zero_or_nine, told_same)
      (without_true (eqb (length (period_notes b)) 0) (not (leb most_periods (period_run b).periods))))

  -- ---- The rules' calls.
  calls_on : (n : ℕ) → bus.run_goes_on b ≡ true → bus.run_calls (suc n) b ≡ period ∷ bus.run_calls n (bus.after b period)
  unfolding bus.run_calls
  calls_on n g = rw g

  -- ---- A run that ends with its first period.
  ends : (n : ℕ) → run_goes_on (run_answer 1 k) n ≡ false → bus.run_calls (suc n) b ≡ period ∷ [] → RunOfRules (suc n) k b
  unfolding bus.run_reply bus.run_notes bus.run_leaves bus.notes_of_all bus.after_all called
  ends n g e =
      record {
        replies = ap (λ (r : RunAnswer). r.reply) (ran_end n k g) ∙ reply_is;
        tells = told_end n k g ∙ (one_told k ∙ rw (e, append-nil (bus.notes b period)) (period_notes_lem k b c f));
        carries = rw (kept_end n k g, e) (period_carried k b c f);
      }

  -- ---- One that goes on.
  goes : (m : ℕ) → run_goes_on (run_answer 1 k) (suc m) ≡ true → RunOfRules (suc m) (kept_after 1 k) (bus.after b period) → RunOfRules (suc (suc m)) k b
  unfolding bus.run_reply bus.run_notes bus.run_leaves bus.notes_of_all bus.after_all bus.run_goes_on
  goes m g rest =
      let on = sym (goes_same m) ∙ g in
      let e = calls_on (suc m) on in
      let next = eqb-true _ _ (and_both (eqb (length (bus.notes b period)) 0) _ on).1 in
      let first = eqb-true _ _ (goes_by (run_answer 1 k) (suc m) g).0 in
      let none : bus.notes b period ≡ [] = sym (period_notes_lem k b c f) ∙ goes_quiet k (suc m) g in
      record {
        replies = ap (λ (r : RunAnswer). r.reply) (answer_on_lem (suc m) k g) ∙ (rest.replies ∙ (next ∙ (sym first ∙ reply_is)));
        tells = told_on (suc m) k g ∙ rw (e, none) rest.tells;
        carries = rw (kept_on_lem (suc m) k g, e) rest.carries;
      }

-- ---- Every run.
one_call : (b : Bus) → bus.run_calls 1 b ≡ period ∷ []
unfolding bus.run_calls
one_call b = by_test (bus.run_goes_on b) (λ t. rw t) (λ t. rw t)

calls_end : (n : ℕ) (b : Bus) → bus.run_goes_on b ≡ false → bus.run_calls (suc n) b ≡ period ∷ []
unfolding bus.run_calls
calls_end n b g = rw g

pub run_of_rules : RunCarried
unfolding called
run_of_rules k b zero c s = ends k b c (sound_fits b s) zero (no_more (run_answer 1 k)) (one_call b)
run_of_rules k b (suc m) c s =
    let f = sound_fits b s in
    by_test (run_goes_on (run_answer 1 k) (suc m))
    (λ g. goes k b c f m g (run_of_rules (kept_after 1 k) (bus.after b period) m (period_carried k b c f) (sound_kept b period s)))
    (λ g. ends k b c f (suc m) g (calls_end (suc m) b (sym (goes_same k b c f m) ∙ g)))

-- ---- One of no periods.
pub no_periods_run : NoPeriodsRun
unfolding run_answer answer_on kept_after kept_on not_yet refused_run run_reply run_reason
no_periods_run k = record { replies = refl; tells_of_none = refl; keeps = refl }

pub no_periods_carried : NoPeriodsCarried
unfolding run_answer answer_on not_yet refused_run bus.run_reply
no_periods_carried k b c s = order_reply 0 k (in_order k b c (sound_fits b s))
