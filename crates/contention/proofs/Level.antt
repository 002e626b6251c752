-- "No rival completes two frames of one class while an activated terminal waits at that class's normal level."
use mathlib.Core.Bool.{true, false}
use mathlib.Core.Path.{◌≡◌, sym, ◌∙◌}
use Prim.Native.Nat.{ℕ, zero, suc, ◌+◌, ◌≤◌, ◌<◌}
use native.Mathlib.Omega.{arith}
use lib.Dec.{eqb, leb}
use borrow.Author.Tests.{eqb-true, eqb-false, leb-true, leb-false}
use Rattle.test_lemmas.proofs.ByCases.{by_test}
use Rattle.dchannel.specs.Access.{low_of}
use Rattle.contention.specs.Channel.{Contender, Channel, contender_after_e}
use Rattle.contention.specs.Stretch.{onward, contender, Waits, Completes}
use Rattle.contention.specs.Claims.{NoRivalTwice, InStretches}
use Rattle.contention.specs.Invariant.{Invariant}
use Rattle.contention.proofs.Terminal.{outcome, active_after, level, level_least, threshold_low, threshold_of, low_stays, completed_low}
use Rattle.contention.proofs.InvariantKept.{SenderAt, sender, going, starting, Quiet, hears_count_up}
use Rattle.contention.proofs.Trace.{onward_contender, echo_first, echo_onward, sender_kept, opp, many, invariant_at, invariant_past, quiet_at}
use Rattle.contention.proofs.Waiting.{completed_at_lem, completes_zero, zero_counts_lem, waits_class, waits_hears, waits_quiet, sending_count, idle_below, first_stays, low_quiet}

-- While i waits in class k after a completion of its rival j in that class: i is the first to reach the level, and j is low.
record Ahead (x1 x2 k i j : ℕ) (c : Channel) : Type 0 where
  waits : Waits k i c
  -- every C is at most i's
  first : (m : ℕ) → (contender m c).access.count ≤ (contender i c).access.count
  rival_in_f7 : (contender j c).active ≡ true
  rival_low : low_of k (contender j c).access ≡ true
  -- j sends nothing of this class
  rival_barred : 1 ≤ (contender j c).access.sent → (contender j c).access.held ≡ k → ⊥
  -- i starts where its C reaches the level, and its first 0 is then heard
  below : (contender i c).access.sent ≡ 0 → (contender i c).access.count < level x1 x2 k
  reached : (contender i c).access.sent ≡ 1 → (contender i c).access.count ≤ level x1 x2 k
  zero_next : (contender i c).access.sent ≡ 1 → c.heard_d ≡ false

module _ (x1 x2 : ℕ) (h1 : 8 ≤ x1) (h2 : x1 + 2 ≤ x2) (k i j : ℕ) (k1 : 1 ≤ k) (c : Channel) (inv : Invariant x2 c) (next_inv : Invariant x2 (onward x1 x2 c)) where
  -- E is the E of c
  abbrev later : ℕ → Contender
  later m = contender_after_e x1 x2 c.heard_d (contender m c)

  -- the completion of j sets every C to 0
  ahead_begins : Completes x1 x2 k j c → Waits k i c → (Completes x1 x2 k i c → ⊥) → Ahead x1 x2 k i j (onward x1 x2 c)
  ahead_begins done w n =
      let r = completed_at_lem x1 x2 c inv k j k1 done in
      let z : (m : ℕ) → (contender m (onward x1 x2 c)).access.count ≡ 0 =
      λ m. rw (onward_contender x1 x2 c m) (zero_counts_lem x1 x2 c inv (completes_zero x1 x2 c inv j r) m)
      in
      let idle : (contender j (onward x1 x2 c)).access.sent ≡ 0 = rw (onward_contender x1 x2 c j) r.sent_now in
      let lv = level_least x1 x2 k h2 in
      record {
        waits = waits_hears x1 x2 c inv k i k1 w n;
        first = λ m. omega (arith, z m);
        rival_in_f7 = rw (onward_contender x1 x2 c j) (active_after x1 x2 c.heard_d (contender j c) ∙ done.in_f7_lem);
        rival_low = rw (onward_contender x1 x2 c j)
            (completed_low x1 x2 k c.heard_d (contender j c) k1 (waits_class x1 x2 c inv k i w) done.in_f7_lem done.done);
        rival_barred = λ h q. omega arith;
        below = λ q. omega (arith, z i);
        reached = λ q. omega (arith, z i);
        zero_next = λ q. echo_first (echo_onward x1 x2 c inv) i (next_inv.sound i) q;
      }

  module _ (a : Ahead x1 x2 k i j c) where
    -- i's C after this E
    count_i : (later i).access.count ≤ level x1 x2 k
    count_i =
        by_test (leb 1 (contender i c).access.sent)
        (λ l. omega (arith, sending_count x1 x2 c inv i i (leb-true 1 (contender i c).access.sent l) a.zero_next, level_least x1 x2 k h2))
        (λ l. omega (arith, hears_count_up x1 x2 c.heard_d (contender i c), a.below (omega (arith, leb-false 1 (contender i c).access.sent l))))

    first_now : (m : ℕ) → (later m).access.count ≤ (later i).access.count
    first_now = first_stays x1 x2 c inv i a.waits.in_f7_lem a.first

    barred_now : 1 ≤ (later j).access.sent → (later j).access.held ≡ k → low_of k (later j).access ≡ true → SenderAt x1 x2 c.heard_d (contender j c) → ⊥
    barred_now h q low (going r) = a.rival_barred r.sending (sym r.held_now ∙ q)
    barred_now h q low (starting r) =
        omega (
          arith,
          r.reached,
          threshold_of x1 x2 (contender j c).access.held k (later j).access true (sym r.held_now ∙ q) low,
          threshold_low x1 x2 k,
          first_now j,
          count_i,
        )

    below_now : Waits k i (onward x1 x2 c) → (later i).access.sent ≡ 0 → (later i).access.count < level x1 x2 k
    below_now w q =
        by_test (leb 1 (contender i c).access.sent)
        (λ l. omega (arith, sending_count x1 x2 c inv i i (leb-true 1 (contender i c).access.sent l) a.zero_next, level_least x1 x2 k h2))
        (λ l. idle_below x1 x2 c inv k i k1 a.waits w (omega (arith, leb-false 1 (contender i c).access.sent l)) q (outcome x1 x2 c.heard_d (contender i c)))

    ahead_onward : (Completes x1 x2 k i c → ⊥) → Ahead x1 x2 k i j (onward x1 x2 c)
    ahead_onward n =
        let w = waits_hears x1 x2 c inv k i k1 a.waits n in
        let low : low_of k (later j).access ≡ true =
        low_stays x1 x2 k c.heard_d (contender j c) k1 (waits_class x1 x2 c inv k i a.waits) a.rival_in_f7 a.rival_low
        (λ q. omega (arith, first_now j, count_i))
        in
        record {
          waits = w;
          first = λ m. rw (onward_contender x1 x2 c m, onward_contender x1 x2 c i) (first_now m);
          rival_in_f7 = rw (onward_contender x1 x2 c j) (active_after x1 x2 c.heard_d (contender j c) ∙ a.rival_in_f7);
          rival_low = rw (onward_contender x1 x2 c j) low;
          rival_barred = rw (onward_contender x1 x2 c j) (λ h q. barred_now h q low (sender x1 x2 c.heard_d (contender j c) (inv.sound j) h));
          below = rw (onward_contender x1 x2 c i) (below_now w);
          reached = λ _. rw (onward_contender x1 x2 c i) count_i;
          zero_next = λ q. echo_first (echo_onward x1 x2 c inv) i (next_inv.sound i) q;
        }

module _ (x1 x2 k i j : ℕ) (k1 : 1 ≤ k) where
  ahead_quiet : (c c' : Channel) → Invariant x2 c → Quiet c c' → Ahead x1 x2 k i j c → Ahead x1 x2 k i j c'
  ahead_quiet c c' inv q a =
      let qi = q.each i in
      let qj = q.each j in
      record {
        waits = waits_quiet k i c c' k1 q a.waits;
        first = λ m. omega (arith, (q.each m).count_same, qi.count_same, a.first m);
        rival_in_f7 = qj.stays a.rival_in_f7;
        rival_low = low_quiet k (contender j c) (contender j c') qj ∙ a.rival_low;
        rival_barred = λ h held.
            let h' : 1 ≤ (contender j c).access.sent = omega (arith, qj.sent_same) in
            a.rival_barred h' (rw (sender_kept x1 x2 c c' inv q j h') at held);
        below = λ z. omega (arith, qi.count_same, a.below (sym qi.sent_same ∙ z));
        reached = λ z. omega (arith, qi.count_same, a.reached (sym qi.sent_same ∙ z));
        zero_next = λ z. q.heard_same ∙ a.zero_next (sym qi.sent_same ∙ z);
      }

-- "no rival completes two frames of one class while an activated terminal waits at that class's normal level"
pub no_rival_twice : InStretches NoRivalTwice
no_rival_twice x1 x2 c during h1 h2 start st i j k p q ne k1 pq len done-p done-q waits open-frame =
    let r = completed_at_lem x1 x2 (o q) (inv q len) k j k1 done-q in
    (ahead q (omega arith) (omega arith)).rival_barred r.sending (sym r.done_now ∙ done-q.done)
  where
    o : ℕ → Channel
    o t = opp x1 x2 c during h1 h2 start st t

    inv : (t : ℕ) → t < many x1 x2 c during h1 h2 start st → Invariant x2 (o t)
    inv = invariant_at x1 x2 c during h1 h2 start st

    next_inv : (t : ℕ) → t < many x1 x2 c during h1 h2 start st → Invariant x2 (onward x1 x2 (o t))
    next_inv = invariant_past x1 x2 c during h1 h2 start st

    later_on : (t : ℕ) → suc t < many x1 x2 c during h1 h2 start st → Ahead x1 x2 k i j (onward x1 x2 (o t)) → Ahead x1 x2 k i j (o (suc t))
    later_on t h a =
        ahead_quiet x1 x2 k i j k1 (onward x1 x2 (o t)) (o (suc t)) (next_inv t (omega arith))
        (quiet_at x1 x2 c during h1 h2 start st t h) a

    ahead : (t : ℕ) → p < t → t ≤ q → Ahead x1 x2 k i j (o t)
    ahead zero l m = absurd (omega arith)
    ahead (suc t) l m =
        by_test (eqb t p)
        (λ e. later_on t (omega arith)
        (rw (eqb-true t p e)
        (ahead_begins x1 x2 h1 h2 k i j k1 (o p) (inv p (omega arith)) (next_inv p (omega arith)) done-p (waits p (omega arith) (omega arith)) (open-frame p (omega arith) (omega arith)))))
        (λ e. later_on t (omega arith)
        (ahead_onward x1 x2 h1 h2 k i j k1 (o t) (inv t (omega arith)) (next_inv t (omega arith)) (ahead t (omega (arith, eqb-false t p e)) (omega arith))
        (open-frame t (omega arith) (omega arith))))
