-- A loop over `step` runs the periods of a run (specs/Run.antt): what holds before each turn, and what a turn needs.
use mathlib.Core.Path.{◌≡◌, refl, sym, ◌∙◌}
use mathlib.Core.Bool.{true, false}
use mathlib.Core.List.{List}
use Prim.Native.Nat.{ℕ, zero, suc, ◌-◌, ◌<◌}
use native.Mathlib.Omega.{arith}
use lib.ListN.{length}
use borrow.Author.Tests.{eqb-true, ltb-true}
use Rattle.test_lemmas.proofs.Operators.{and_both}
use Rattle.terminal.specs.declared.Terminal.{Terminal}
use Rattle.period_hearing.specs.declared.hears.UnitNotes.{UnitNotes}
use Rattle.bus_record.specs.NetworkSide.{refused_run}
use Rattle.bus_record.specs.declared.record.BusRecord.{BusRecord}
use Rattle.bus_record.specs.declared.side.RunAnswer.{RunAnswer}
use Rattle.bus_call_specs.specs.Kept.{Kept, kept}
use Rattle.bus_call_specs.specs.Period.{period_answer, kept_run}
use Rattle.bus_call_specs.specs.Step.{step_answer, step_terminals, step_octets, step_notes, StepShows}
use Rattle.bus_call_specs.specs.Ready.{run_reply, run_goes_on}
use Rattle.bus_call_specs.specs.Run.{answer_on, kept_on, not_yet, run_answer, kept_after}
use Rattle.bus_call_specs.proofs.InOrder.{InOrder, in_order}
use Rattle.bus_call_specs.proofs.StepShown.{order_shows}
use Rattle.bus_call_specs.proofs.ReadyKept.{order_kept}
use Rattle.bus_call_specs.proofs.RunSingle.{goes_facts, ran_ends, kept_ends}

-- ---- One turn of the definitions.
pub ran_goes : (n : ℕ) (last : RunAnswer) (k : Kept) → run_goes_on last n ≡ true → answer_on n last k ≡ answer_on (n - 1) (period_answer k) (kept_run k)
unfolding answer_on
ran_goes zero last k g = absurd (omega (arith, ltb-true 0 0 (goes_facts last 0 g).0))
ran_goes (suc n) last k g = let less : suc n - 1 ≡ n = omega arith in rw (g, less)

pub kept_goes : (n : ℕ) (last : RunAnswer) (k : Kept) → run_goes_on last n ≡ true → kept_on n last k ≡ kept_on (n - 1) (period_answer k) (kept_run k)
unfolding kept_on
kept_goes zero last k g = absurd (omega (arith, ltb-true 0 0 (goes_facts last 0 g).0))
kept_goes (suc n) last k g = let less : suc n - 1 ≡ n = omega arith in rw (g, less)

pub goes_reply : (last : RunAnswer) (n : ℕ) → run_goes_on last n ≡ true → last.reply ≡ 0
unfolding run_goes_on
goes_reply last n g = eqb-true last.reply 0 (and_both _ _ (and_both _ _ (and_both _ _ g).0).0).0

-- ---- Images and letters do not change; the run comes to `ended` and leaves `end`.
module _ (images letters : List ℕ) (ended : RunAnswer) (end : Kept) where
  -- with so many periods left, after the last one run, and what is lent then
  pub record Going (last : RunAnswer) (left : ℕ) (ts : List Terminal) (os : List ℕ) (ns : List UnitNotes) : Type 0 where
    pub order : last.reply ≡ 0 → InOrder (kept last.bus ts images os letters ns)
    pub ran_to : answer_on left last (kept last.bus ts images os letters ns) ≡ ended
    pub kept_to : kept_on left last (kept last.bus ts images os letters ns) ≡ end

  module _ (last : RunAnswer) (left : ℕ) (ts : List Terminal) (os : List ℕ) (ns : List UnitNotes) (i : Going last left ts os ns) where
    abbrev here : Kept
    here = kept last.bus ts images os letters ns

    -- the run has come to its end
    pub going_ends : run_goes_on last left ≡ false → (last ≡ ended) × (here ≡ end)
    going_ends g = (sym (ran_ends left last here g) ∙ i.ran_to, sym (kept_ends left last here g) ∙ i.kept_to)

    module _ (g : run_goes_on last left ≡ true) where
      in_order_here : InOrder here
      in_order_here = i.order (goes_reply last left g)

      -- what a turn needs
      pub going_left : 0 < left
      going_left = ltb-true 0 left (goes_facts last left g).0

      pub going_lengths : length ns ≡ length ts
      going_lengths = in_order_here.notes_fit ∙ sym in_order_here.eight

      step_here : StepShows here
      step_here = order_shows here in_order_here (goes_facts last left g).1

      after_period : Going (period_answer here) (left - 1) (kept_run here).terminals (kept_run here).octets (kept_run here).notes
      unfolding kept_run
      after_period =
          record {
            order = λ _. order_kept here in_order_here (goes_facts last left g).1;
            ran_to = sym (ran_goes left last here g) ∙ i.ran_to;
            kept_to = sym (kept_goes left last here g) ∙ i.kept_to;
          }

      -- after it
      pub going_on : Going (step_answer last.bus ts images os letters) (left - 1) (step_terminals last.bus ts images letters)
          (step_octets last.bus ts images os letters) (step_notes last.bus ts images letters)
      going_on = rw (step_here.answer_is, step_here.terminals_are, step_here.octets_are, step_here.notes_are) after_period

-- ---- The first turn.
pub going_first : (most : ℕ) (bus : BusRecord) (ts : List Terminal) (images os letters : List ℕ) (ns : List UnitNotes) →
    Going images letters (run_answer most (kept bus ts images os letters ns)) (kept_after most (kept bus ts images os letters ns))
    (refused_run (run_reply most (kept bus ts images os letters ns)) bus) most ts os ns
unfolding run_answer kept_after not_yet refused_run
going_first most bus ts images os letters ns =
    record { order = λ h. in_order most (kept bus ts images os letters ns) h; ran_to = refl; kept_to = refl }
