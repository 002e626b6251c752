-- What the code's answer says of the step that the rules give.
use mathlib.Core.Path.{◌≡◌, refl}
use Prim.Native.Nat.{ℕ}
use native.Mathlib.Omega.{arith}
use lib.Dec.{eqb}
use borrow.Author.Tests.{eqb-true}
use Rattle.std.specs.Prelude.{Result, Ok, Err}
use Rattle.std.specs.Result.{result_unwrap_or}
use Rattle.test_lemmas.proofs.ByCases.{by_test}
use Rattle.refusals.specs.Numbers.{number}
use Rattle.refusals.specs.declared.Refusal.{Refusal}
use Rattle.refusals.specs.declared.Refusal.TheVariants.{OutOfRange, NotForUnit, Barred}
use Rattle.timing.specs.declared.counts.Periods.{Periods}
use Rattle.heard_line.specs.declared.heard.Upward.{Upward}
use Rattle.network.specs.Network.{unchanged, bars, is_request, happens, and_then, requests, timers, heard_as, hears}
use Rattle.network.specs.Calls.{ready, checked, request_call, timer_call, hear_call}
use Rattle.network.specs.Steps.{NetworkStep, step_of, as_result}
use Rattle.network.specs.declared.Network.{Network}
use Rattle.network.specs.declared.NetworkStep as code
use Rattle.network.proofs.TwoEvents.{happens_reply}

abbrev Answer : Type 0
Answer = Result code.NetworkStep Refusal

-- A hearing or the timers, where the record stays as it was when the call is refused.
pub heard_given : (line : Upward) (now : Periods) (n : Network) →
    result_unwrap_or (as_result (hear_call line now n)) (step_of (unchanged 0 n)) ≡ step_of (hear_call line now n)
unfolding as_result checked hears heard_as and_then
heard_given line now n = by_test (ready now n) (λ t. rw t) (λ t. rw t)

pub timed_given : (now : Periods) (n : Network) →
    result_unwrap_or (as_result (timer_call now n)) (step_of (unchanged 0 n)) ≡ step_of (timer_call now n)
unfolding as_result checked timers and_then
timed_given now n = by_test (ready now n) (λ t. rw t) (λ t. rw t)

-- A request that is accepted, and one that is refused.
pub asked_given : (s : NetworkStep) (x : code.NetworkStep) → as_result s ≡ Ok x → s ≡ record { network = x.network; notes = x.notes; reply = 0 }
unfolding as_result
asked_given s x h =
    by_test (eqb s.reply 0)
    (λ t. let e : ◌≡◌ {A = Answer} (Ok (step_of s)) (Ok x) = rw t at h in
    let d : step_of s ≡ x = cc in
    let z : s.reply ≡ 0 = eqb-true s.reply 0 t in
    rw (← d, ← z) refl)
    (λ t. let e : ◌≡◌ {A = Answer} (Err _) (Ok x) = rw t at h in
    let z : ◌≡◌ {A = ℕ} 0 1 = cc in absurd (cc))

pub asked_refused : (event : ℕ) (now : Periods) (n : Network) (r : Refusal) → as_result (request_call event now n) ≡ Err r →
    request_call event now n ≡ unchanged (number r) n
unfolding as_result checked requests
asked_refused event now n r h =
    by_test (ready now n)
    (λ a. by_test (is_request event)
    (λ b. by_test (bars event n.state)
    (λ c. let e : ◌≡◌ {A = Answer} (Err Barred) (Err r) = rw (a, b, c) at h in let q : Barred ≡ r = cc in rw (a, b, c, ← q))
    (λ c. let e : ◌≡◌ {A = Answer} (Ok (step_of (happens event now.0 n))) (Err r) = rw (a, b, c, happens_reply event now.0 n) at h in
    let z : ◌≡◌ {A = ℕ} 0 1 = cc in absurd (omega arith)))
    (λ b. let e : ◌≡◌ {A = Answer} (Err NotForUnit) (Err r) = rw (a, b) at h in let q : NotForUnit ≡ r = cc in rw (a, b, ← q)))
    (λ a. let e : ◌≡◌ {A = Answer} (Err OutOfRange) (Err r) = rw a at h in let q : OutOfRange ≡ r = cc in rw (a, ← q))
