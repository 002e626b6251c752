-- Demand 3's third part for the D channel: after the first flag of a stretch what is heard is what is completed, whole and in order.
use mathlib.Core.Path.{◌≡◌, sym, ap, ◌∙◌}
use mathlib.Core.List.{List}
use mathlib.Core.Logic.{inl}
use Prim.Native.Nat.{ℕ, zero, suc, ◌+◌, ◌-◌, ◌≤◌, ◌<◌}
use native.Mathlib.Omega.{arith}
use native.Mathlib.Numerals.{add-one}
use lib.Dec.{eqb}
use lib.ListN.{length}
use borrow.Author.Tests.{eqb-true, eqb-false}
use Rattle.test_lemmas.proofs.ByCases.{by_test}
use Rattle.contention.specs.Channel.{Channel, Action}
use Rattle.contention.specs.Stretch.{Stretch, contender, Begins}
use Rattle.contention.specs.Claims.{at, opps, BegunSince, HeardInOrder, InStretches}
use Rattle.contention.specs.Invariant.{Invariant}
use Rattle.contention.proofs.HeardNext.{Follows, follows}
use Rattle.contention.proofs.HeardSteps.{same_body, back_more, back_begins, Whole, completes_whole}
use Rattle.contention.proofs.HeardPhase.{Phase, under_way, idle, all_sent, begins_next, advance}

module _ (x1 x2 : ℕ) (c : Channel) (during : List Action) (h1 : 8 ≤ x1) (h2 : x1 + 2 ≤ x2) (start : Invariant x2 c) (st : Stretch x1 x2 c during) where
  -- opportunity t, and how many there are
  abbrev o : ℕ → Channel
  o t = at (opps x1 x2 c during) t

  abbrev many : ℕ
  many = length (opps x1 x2 c during)

  abbrev next : (t : ℕ) → suc t < many → Follows x1 x2 (o t) (o (suc t))
  next = follows x1 x2 c during h1 h2 start st

  -- the phase at every opportunity after one at which a frame is begun
  phase_at : (j p : ℕ) → Begins x1 x2 j (o p) → (t : ℕ) → p < t → t < many → Phase p t (o t)
  phase_at j p b zero l h = absurd (omega arith)
  phase_at j p b (suc t) l h =
      by_test (eqb t p)
      (λ e. under_way 1 _ (begins_next (next t h) j (rw (eqb-true t p e) b)) (omega arith) (inl (omega (arith, eqb-true t p e))))
      (λ e. (advance h1 h2 (next t h) p t (phase_at j p b t (omega (arith, eqb-false t p e)) (omega arith))).phase)

  -- a terminal that has sent s bits of a frame began it s opportunities before
  begun_at : (i s b t : ℕ) → s + b ≡ t → 1 ≤ s → t < many → (contender i (o t)).access.sent ≡ s
      → Begins x1 x2 i (o b) × ((contender i (o b)).body ≡ (contender i (o t)).body)
  begun_at i zero b t e l h n = absurd (omega arith)
  begun_at i (suc s) b zero e l h n = absurd (omega arith)
  begun_at i (suc s) b (suc t) e l h n =
      let same : (contender i (o (suc t))).body ≡ (contender i (o t)).body = same_body (next t h) i (omega (arith, n)) in
      by_test (eqb s 0)
      (λ z.
      let here : t ≡ b = omega (arith, eqb-true s 0 z) in
      rw (← here) (back_begins (next t h) i (n ∙ ap suc (eqb-true s 0 z)), sym same))
      (λ z.
      let some : 1 ≤ s = omega (arith, eqb-false s 0 z) in
      let before = begun_at i s b t (omega arith) some (omega arith) (back_more (next t h) i s some n).sent in
      (before.0, before.1 ∙ sym same))

  -- whatever is completed at opportunity t + 1 was begun at or after p, and has been sent whole since
  begun_whole : (p t j : ℕ) → suc t < many → Phase p (suc t) (o (suc t)) → Whole j (o (suc t)) → BegunSince x1 x2 c during p j (suc t)
  begun_whole p t j h (under_way s r u l k) w =
      let n = all_sent (next t h).now u j w.sends in
      let b = begun_at j s (suc t - s) (suc t) (omega arith) u.positive h n in
      record { when = suc t - s; since = omega arith; begins = b.0; same_body = b.1; bits_since = omega (arith, w.all, n) }
  begun_whole p t j h (idle l q) w = absurd (omega (arith, w.sends, q.none j))

  heard_whole : HeardInOrder x1 x2 c during
  heard_whole j p t b past h =
      let more : suc t < many = rw (← add-one t) h in
      let f = next t more in
      let a = advance h1 h2 f p t (phase_at j p b t (omega arith) (omega arith)) in
      let told = a.told (omega arith) in
      record {
        heard_completed = rw (add-one t) told.heard_completed;
        completed_heard = rw (add-one t) told.completed_heard;
        begun = rw (add-one t) (λ i k l w. begun_whole p t i more a.phase (completes_whole f.now i k l w));
        not_torn = told.not_torn;
      }

-- "A body is heard at its D exactly when a frame with that body is completed at the next one's E. It is heard once, all frames completed
-- there have that body and were begun in the stretch, and nothing is torn."
pub heard_in_order : InStretches HeardInOrder
heard_in_order = heard_whole
