-- A terminal that waits, and those that go on or complete, from one D opportunity of a stretch to the next.
use mathlib.Core.Bool.{Bool, true, false, true≢false}
use mathlib.Core.Path.{◌≡◌, refl, sym, ap, ◌∙◌}
use Prim.Native.Nat.{ℕ, zero, suc, ◌+◌, ◌-◌, ◌≤◌, ◌<◌}
use native.Mathlib.Omega.{arith}
use lib.ListN.{length}
use Rattle.dchannel.specs.declared.access.Access.{Access}
use Rattle.hdlc.specs.Image.{image}
use Rattle.test_lemmas.proofs.ByCases.{by_test}
use Rattle.hdlc.proofs.ImageLaws.{image_ends, image_ending_ones}
use Rattle.dchannel.specs.Access.{low_of}
use Rattle.contention.specs.Channel.{Contender, Channel, access_step_at, contender_after_e}
use Rattle.contention.specs.Stretch.{onward, contender, Waits, Completes}
use Rattle.contention.specs.Invariant.{SoundContender, Invariant}
use Rattle.dchannel.proofs.AccessLaws.{count_mono}
use Rattle.contention.proofs.Terminal.{Outcome, outcome, OutcomeAt, CompletedAt, Completed, completed, went_on, stopped, started, idled, outside, active_after, count_after_lem, hears_outside, level, threshold_normal, threshold_of, normal_stays}
use Rattle.contention.proofs.InvariantKept.{SenderAt, going, starting, nobody_starts, sending_holds, Quietly, Quiet, hears_count_up, zero_clears}
use Rattle.contention.proofs.Trace.{onward_contender, Echo, echo_agrees}

-- the last bit of an image is a 0
pub whole_zero : (x2 : ℕ) (s : Contender) → SoundContender x2 s → 1 ≤ s.access.sent → s.access.length ≤ s.access.sent → s.access.last ≡ false
whole_zero x2 s h k w =
    let f = h.frame_held (sending_holds x2 s h k) in
    let n : s.access.sent ≡ suc (length (image s.body) - 1) = omega (arith, f.1, h.sent_part) in
    h.last_bit (length (image s.body) - 1) n ∙ image_ends s.body

module _ {x1 x2 : ℕ} {e : Bool} {s s' : Contender} {d : Bool} {done : ℕ} where
  -- the outcome of a completed class
  pub completion : (k : ℕ) → 1 ≤ k → s.active ≡ true → done ≡ k
      → Outcome x1 x2 e s s' d done → Completed x1 x2 e s s' d done
  completion k h act q (completed r) = r
  completion k h act q (went_on r) = absurd (omega arith)
  completion k h act q (stopped r) = absurd (omega arith)
  completion k h act q (started r) = absurd (omega arith)
  completion k h act q (idled r) = absurd (omega arith)
  completion k h act q (outside r) = absurd (true≢false (sym act ∙ r.not_f7))

  -- a held frame stays held unless it is completed
  held_stays : (k : ℕ) → s.access.held ≡ k → (done ≡ k → ⊥) → s.active ≡ true
      → Outcome x1 x2 e s s' d done → s'.access.held ≡ k
  held_stays k h n act (completed r) = absurd (n (r.done_now ∙ h))
  held_stays k h n act (went_on r) = r.held_now ∙ h
  held_stays k h n act (stopped r) = r.held_now ∙ h
  held_stays k h n act (started r) = r.held_now ∙ h
  held_stays k h n act (idled r) = r.held_now ∙ h
  held_stays k h n act (outside r) = absurd (true≢false (sym act ∙ r.not_f7))

pub low_quiet : (k : ℕ) (s s' : Contender) → Quietly s s' → low_of k s'.access ≡ low_of k s.access
unfolding low_of
low_quiet k s s' q = rw (q.low1_same, q.low2_same)

module _ (x1 x2 : ℕ) (c : Channel) (inv : Invariant x2 c) where
  pub completed_at_lem : (k i : ℕ) → 1 ≤ k → Completes x1 x2 k i c → CompletedAt x1 x2 c.heard_d (contender i c)
  completed_at_lem k i h r = completion k h r.in_f7_lem r.done (outcome x1 x2 c.heard_d (contender i c))

  -- a frame is completed at an E of 0
  pub completes_zero : (i : ℕ) → CompletedAt x1 x2 c.heard_d (contender i c) → c.heard_d ≡ false
  completes_zero i r = r.agreed ∙ whole_zero x2 (contender i c) (inv.sound i) r.sending r.whole

  -- and then every C is 0
  pub zero_counts_lem : c.heard_d ≡ false → (j : ℕ) → (contender_after_e x1 x2 c.heard_d (contender j c)).access.count ≡ 0
  unfolding contender
  zero_counts_lem z j = rw z (zero_clears x1 x2 (contender j c) (inv.sound j))

  pub waits_class : (k i : ℕ) → Waits k i c → k ≤ 2
  waits_class k i w = omega (arith, (inv.sound i).class_known, w.holds)

  -- a terminal that waits goes on to wait until its frame is completed
  pub waits_hears : (k i : ℕ) → 1 ≤ k → Waits k i c → (Completes x1 x2 k i c → ⊥) → Waits k i (onward x1 x2 c)
  waits_hears k i h w n =
      let not_done : (access_step_at x1 x2 c.heard_d (contender i c)).done ≡ k → ⊥ = λ q. n (record { in_f7_lem = w.in_f7_lem; done = q }) in
      record {
        in_f7_lem = rw (onward_contender x1 x2 c i) (active_after x1 x2 c.heard_d (contender i c) ∙ w.in_f7_lem);
        holds = rw (onward_contender x1 x2 c i)
            (held_stays k w.holds not_done w.in_f7_lem (outcome x1 x2 c.heard_d (contender i c)));
        normal = rw (onward_contender x1 x2 c i)
            (normal_stays x1 x2 k c.heard_d (contender i c) h (waits_class k i w) w.in_f7_lem w.normal not_done);
      }

  -- C of a terminal that was sending is then at most 7, if its first bit has been heard
  pub sending_count : (i j : ℕ) → 1 ≤ (contender i c).access.sent → ((contender i c).access.sent ≡ 1 → c.heard_d ≡ false)
      → (contender_after_e x1 x2 c.heard_d (contender j c)).access.count ≤ 7
  sending_count i j h first = go (contender i c).access.sent refl h
    where
      go : (n : ℕ) → (contender i c).access.sent ≡ n → 1 ≤ n → (contender_after_e x1 x2 c.heard_d (contender j c)).access.count ≤ 7
      go zero q k = absurd (omega arith)
      go (suc zero) q k = omega (arith, zero_counts_lem (first q) j)
      go (suc (suc n)) q k =
          omega (arith, hears_count_up x1 x2 c.heard_d (contender j c), inv.held_back i j n q, image_ending_ones (contender i c).body (suc n))

  -- whoever waits and does not start has its C below the level
  pub idle_below : (k i : ℕ) → 1 ≤ k → Waits k i c → Waits k i (onward x1 x2 c) → (contender i c).access.sent ≡ 0
      → (contender_after_e x1 x2 c.heard_d (contender i c)).access.sent ≡ 0 → OutcomeAt x1 x2 c.heard_d (contender i c)
      → (contender_after_e x1 x2 c.heard_d (contender i c)).access.count < level x1 x2 k
  idle_below k i k1 w w' q z (completed r) = absurd (omega arith)
  idle_below k i k1 w w' q z (went_on r) = absurd (omega arith)
  idle_below k i k1 w w' q z (stopped r) = absurd (omega arith)
  idle_below k i k1 w w' q z (started r) = absurd (omega arith)
  idle_below k i k1 w w' q z (idled r) =
      omega (
        arith,
        r.short (omega (arith, w.holds)),
        threshold_of x1 x2 (contender i c).access.held k (contender_after_e x1 x2 c.heard_d (contender i c)).access false w.holds
            (rw (onward_contender x1 x2 c i) at w'.normal),
        threshold_normal x1 x2 k,
      )
  idle_below k i k1 w w' q z (outside r) = absurd (true≢false (sym w.in_f7_lem ∙ r.not_f7))

  -- a C that no other passes stays so
  pub first_stays : (i : ℕ) → (contender i c).active ≡ true → ((m : ℕ) → (contender m c).access.count ≤ (contender i c).access.count)
      → (m : ℕ) → (contender_after_e x1 x2 c.heard_d (contender m c)).access.count ≤ (contender_after_e x1 x2 c.heard_d (contender i c)).access.count
  first_stays i act first m =
      by_test (contender m c).active
      (λ on. rw (count_after_lem x1 x2 c.heard_d (contender m c) on, count_after_lem x1 x2 c.heard_d (contender i c) act)
      (count_mono x2 c.heard_d (contender m c).access.count (contender i c).access.count (first m)))
      (λ out. rw (hears_outside x1 x2 c.heard_d (contender m c) out)
      (omega (arith, ap (λ (s : Access). s.count) ((inv.sound m).outside out))))

-- between opportunities a terminal that holds a frame is as it was
pub waits_quiet : (k i : ℕ) (c c' : Channel) → 1 ≤ k → Quiet c c' → Waits k i c → Waits k i c'
waits_quiet k i c c' h q w =
    let same = (q.each i).kept (omega (arith, w.holds)) in
    record { in_f7_lem = rw same w.in_f7_lem; holds = rw same w.holds; normal = rw same w.normal }

-- ---- somebody goes on, or completes

module _ (x1 x2 : ℕ) (h1 : 8 ≤ x1) (h2 : x1 + 2 ≤ x2) (c : Channel) (inv : Invariant x2 c) (e : Echo c) where
  -- whoever is sending afterwards went on
  pub goes_on : (j g : ℕ) → 1 ≤ (contender j c).access.sent → 1 ≤ (contender_after_e x1 x2 c.heard_d (contender g c)).access.sent → SenderAt x1 x2 c.heard_d (contender g c)
      → ((contender_after_e x1 x2 c.heard_d (contender g c)).access.sent ≡ suc (contender j c).access.sent) × (1 ≤ (contender g c).access.sent)
  goes_on j g h k (going r) = (omega (arith, (inv.in_phase j g h r.sending).0), r.sending)
  goes_on j g h k (starting r) =
      let p = echo_agrees e j h in absurd (nobody_starts x1 x2 c inv h1 h2 c.heard_d p.0 g p.1 p.2 r)

  -- if nobody is, a frame was completed
  ended : (g : ℕ) → 1 ≤ (contender g c).access.sent → c.heard_d ≡ (contender g c).access.last
      → (contender_after_e x1 x2 c.heard_d (contender g c)).access.sent ≡ 0 → OutcomeAt x1 x2 c.heard_d (contender g c) → CompletedAt x1 x2 c.heard_d (contender g c)
  ended g h a z (completed r) = r
  ended g h a z (went_on r) = absurd (omega arith)
  ended g h a z (stopped r) = absurd (r.differed a)
  ended g h a z (started r) = absurd (omega arith)
  ended g h a z (idled r) = absurd (omega arith)
  ended g h a z (outside r) =
      absurd (omega (arith, ap (λ (s : Contender). s.access.sent) r.as_before))

  pub completion_ends : (j : ℕ) → 1 ≤ (contender j c).access.sent → ((g : ℕ) → (contender_after_e x1 x2 c.heard_d (contender g c)).access.sent ≡ 0)
      → (g : ℕ) × CompletedAt x1 x2 c.heard_d (contender g c) × ((contender g c).access.sent ≡ (contender j c).access.sent)
  completion_ends j h z =
      let p = echo_agrees e j h in
      (p.0, ended p.0 p.1 p.2 (z p.0) (outcome x1 x2 c.heard_d (contender p.0 c)), (inv.in_phase p.0 j p.1 h).0)
