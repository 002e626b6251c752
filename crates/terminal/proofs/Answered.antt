-- What the code's answer says of the step that the rules give.
use mathlib.Core.Path.{◌≡◌, refl}
use Prim.Native.Nat.{ℕ}
use lib.Dec.{eqb}
use borrow.Author.Tests.{eqb-true}
use Rattle.std.specs.Prelude.{Result, Ok, Err}
use Rattle.std.specs.Result.{result_unwrap_or}
use Rattle.test_lemmas.proofs.ByCases.{by_test}
use Rattle.refusals.specs.declared.Refusal.{Refusal}
use Rattle.table_6_2.specs.Table62.{F1}
use Rattle.timing.specs.Timers.{due}
use Rattle.timing.specs.declared.counts.Periods.{Periods}
use Rattle.heard_line.specs.declared.heard.Downward.{Downward}
use Rattle.terminal.specs.Terminal.{unchanged, timer, hears}
use Rattle.terminal.specs.Calls.{ready, checked, timer_call, hear_call}
use Rattle.terminal.specs.Steps.{TerminalStep, step_of, as_result}
use Rattle.terminal.specs.declared.Terminal.{Terminal}
use Rattle.terminal.specs.declared.TerminalStep as code
use Rattle.terminal.proofs.Barred.{refused_by_1, timed, heard}

abbrev Answer : Type 0
Answer = Result code.TerminalStep Refusal

-- A hearing or the timer, where the record stays as it was when the call is refused.
pub heard_given : (line : Downward) (now : Periods) (t : Terminal) →
    result_unwrap_or (as_result (hear_call line now t)) (step_of (unchanged 0 t)) ≡ step_of (hear_call line now t)
unfolding checked
heard_given line now t =
    by_test (ready now t)
    (λ e. rw (e, heard now.0 t line) (by_test (eqb t.state F1) (λ f. unfold hears in rw f) (λ f. unfold hears in rw f)))
    (λ e. rw (e, refused_by_1 t))

pub timed_given : (now : Periods) (t : Terminal) →
    result_unwrap_or (as_result (timer_call now t)) (step_of (unchanged 0 t)) ≡ step_of (timer_call now t)
unfolding checked
timed_given now t =
    by_test (ready now t)
    (λ e. rw (e, timed now.0 t) (by_test (due t.t3 now.0) (λ f. unfold timer in rw f) (λ f. unfold timer in rw f)))
    (λ e. rw (e, refused_by_1 t))

-- A step that is accepted.
pub given : (s : TerminalStep) (x : code.TerminalStep) → as_result s ≡ Ok x → s ≡ record { terminal = x.terminal; notes = x.notes; reply = 0 }
unfolding as_result
given s x h =
    by_test (eqb s.reply 0)
    (λ e. let f : ◌≡◌ {A = Answer} (Ok (step_of s)) (Ok x) = rw e at h in
    let d : step_of s ≡ x = cc in
    let z : s.reply ≡ 0 = eqb-true s.reply 0 e in
    rw (← d, ← z) refl)
    (λ e. let f : ◌≡◌ {A = Answer} (Err _) (Ok x) = rw e at h in
    let z : ◌≡◌ {A = ℕ} 0 1 = cc in absurd (cc))
