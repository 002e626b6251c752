-- What an opportunity of a stretch leaves for the next one: who goes on, who begins, who completes, and the D.
use mathlib.Core.Bool.{true≢false}
use mathlib.Core.Path.{◌≡◌, sym, ap, ◌∙◌}
use Prim.Native.Nat.{ℕ, suc, ◌+◌, ◌≤◌, ◌<◌}
use native.Mathlib.Omega.{arith}
use lib.ListN.{length}
use Rattle.hdlc.specs.Image.{image}
use Rattle.hdlc.specs.Reading.{said, next}
use Rattle.contention.specs.Channel.{Contender, Channel, contender_after_e, step}
use Rattle.contention.specs.Stretch.{onward, contender, Completes, Begins, said_at}
use Rattle.contention.specs.Invariant.{Invariant}
use Rattle.contention.proofs.Terminal.{OutcomeAt, completed, went_on, stopped, started, idled, outside, outcome, hears_active, body_after}
use Rattle.contention.proofs.InvariantKept.{SenderAt, going, starting, sender, nobody_starts}
use Rattle.contention.proofs.Trace.{onward_contender, Echo, echo_onward, sender_kept, echo_quiet}
use Rattle.contention.proofs.Waiting.{completed_at_lem}
use Rattle.contention.proofs.HeardNext.{Frame, frame, Follows}

module _ {x1 x2 : ℕ} {c c' : Channel} (f : Follows x1 x2 c c') where
  after_sent : (i : ℕ) → (contender i c').access.sent ≡ (contender_after_e x1 x2 c.heard_d (contender i c)).access.sent
  after_sent i = (f.quiet.each i).sent_same ∙ ap (λ (s : Contender). s.access.sent) (onward_contender x1 x2 c i)

  sender_at : (i : ℕ) → 1 ≤ (contender i c').access.sent → SenderAt x1 x2 c.heard_d (contender i c)
  sender_at i h = sender x1 x2 c.heard_d (contender i c) (f.before.sound i) (rw (← after_sent i) h)

  -- the frame of a terminal that sends is the one that it had
  pub same_body : (i : ℕ) → 1 ≤ (contender i c').access.sent → (contender i c').body ≡ (contender i c).body
  same_body i h =
      ap (λ (s : Contender). s.body)
      (sender_kept x1 x2 (onward x1 x2 c) c' f.between f.quiet i (rw (← (f.quiet.each i).sent_same) h) ∙ onward_contender x1 x2 c i)
      ∙ body_after x1 x2 c.heard_d (contender i c)

  -- the last D is that of the bits sent last
  pub echo_next : Echo c'
  echo_next = echo_quiet x1 x2 (onward x1 x2 c) c' f.between f.quiet (echo_onward x1 x2 c f.before)

  -- the reader has read the new D
  pub reading_next : c'.reading ≡ next c.reading c'.heard_d
  unfolding onward step
  reading_next = f.unread ∙ ap (next c.reading) (sym f.quiet.heard_same)

  pub said_next : said_at x1 x2 c ≡ said c.reading c'.heard_d
  unfolding said_at onward step
  said_next = ap (said c.reading) (sym f.quiet.heard_same)

  -- a sending under way at c' with n bits sent at c was echoed there
  pub record Continued (i n : ℕ) : Type 0 where
    pub sent : (contender i c).access.sent ≡ n
    pub echoed : (contender i c).access.last ≡ c.heard_d
    pub more : n < length (image (contender i c).body)

  pub back_more : (i n : ℕ) → 1 ≤ n → (contender i c').access.sent ≡ suc n → Continued i n
  back_more i n k h = go (sender_at i (omega arith))
    where
      go : SenderAt x1 x2 c.heard_d (contender i c) → Continued i n
      go (going r) =
          record {
            sent = omega (arith, h, after_sent i, r.sent_now);
            echoed = sym r.agreed;
            more = omega (arith, h, after_sent i, r.sent_now, r.more, (frame (f.before.sound i) r.sending).whole);
          }
      go (starting r) = absurd (omega (arith, h, after_sent i, r.sent_now))

  -- a terminal that has sent one bit at c' began at c
  pub back_begins : (i : ℕ) → (contender i c').access.sent ≡ 1 → Begins x1 x2 i c
  back_begins i h = go (sender_at i (omega arith))
    where
      go : SenderAt x1 x2 c.heard_d (contender i c) → Begins x1 x2 i c
      go (going r) = absurd (omega (arith, h, after_sent i, r.sent_now, r.sending))
      go (starting r) =
          record {
            in_f7_lem = r.in_f7_lem;
            idle = r.idle;
            first = rw (hears_active x1 x2 c.heard_d (contender i c) r.in_f7_lem) at r.sent_now;
          }

  pub forth_begins : (i : ℕ) → Begins x1 x2 i c → (contender i c').access.sent ≡ 1
  forth_begins i b = after_sent i ∙ rw (hears_active x1 x2 c.heard_d (contender i c) b.in_f7_lem) b.first

  -- an echoed sending with bits left goes on
  pub forth_more : (i : ℕ) → 1 ≤ (contender i c).access.sent → (contender i c).access.last ≡ c.heard_d
      → (contender i c).access.sent < length (image (contender i c).body) → (contender i c').access.sent ≡ suc (contender i c).access.sent
  forth_more i h l m = go (outcome x1 x2 c.heard_d (contender i c))
    where
      has : Frame (contender i c)
      has = frame (f.before.sound i) h

      go : OutcomeAt x1 x2 c.heard_d (contender i c) → (contender i c').access.sent ≡ suc (contender i c).access.sent
      go (completed r) = absurd (omega (arith, r.whole, has.whole))
      go (went_on r) = after_sent i ∙ r.sent_now
      go (stopped r) = absurd (r.differed (sym l))
      go (started r) = absurd (omega (arith, r.idle))
      go (idled r) = absurd (omega (arith, r.idle))
      go (outside r) = absurd (true≢false (sym has.in_f7_lem ∙ r.not_f7))

  -- nobody begins where a sending is echoed
  pub none_begins : 8 ≤ x1 → x1 + 2 ≤ x2 → (i k : ℕ) → 1 ≤ (contender i c).access.sent → (contender i c).access.last ≡ c.heard_d
      → (contender k c').access.sent ≡ 1 → ⊥
  none_begins h1 h2 i k h l e = go (sender_at k (omega arith))
    where
      go : SenderAt x1 x2 c.heard_d (contender k c) → ⊥
      go (going r) = omega (arith, e, after_sent k, r.sent_now, r.sending)
      go (starting r) = nobody_starts x1 x2 c f.before h1 h2 c.heard_d i k h (sym l) r

-- what a frame needs to be completed at this E: all its bits are sent, and echoed
pub record Whole (i : ℕ) (c : Channel) : Type 0 where
  pub sends : 1 ≤ (contender i c).access.sent
  pub echoed : (contender i c).access.last ≡ c.heard_d
  pub all : (contender i c).access.sent ≡ length (image (contender i c).body)

pub completes_whole : {x1 x2 : ℕ} {c : Channel} → Invariant x2 c → (i k : ℕ) → 1 ≤ k → Completes x1 x2 k i c → Whole i c
completes_whole {x1} {x2} {c} v i k h w =
    let r = completed_at_lem x1 x2 c v k i h w in
    let has = frame (v.sound i) r.sending in
    record { sends = r.sending; echoed = sym r.agreed; all = omega (arith, r.whole, has.whole, has.part) }

pub whole_completes : {x1 x2 : ℕ} {c : Channel} → Invariant x2 c → (i : ℕ) → Whole i c
    → (1 ≤ (contender i c).access.held) × Completes x1 x2 (contender i c).access.held i c
whole_completes {x1} {x2} {c} v i w = go (outcome x1 x2 c.heard_d (contender i c))
  where
    has : Frame (contender i c)
    has = frame (v.sound i) w.sends

    go : OutcomeAt x1 x2 c.heard_d (contender i c) → (1 ≤ (contender i c).access.held) × Completes x1 x2 (contender i c).access.held i c
    go (completed r) = (has.class_held, record { in_f7_lem = has.in_f7_lem; done = r.done_now })
    go (went_on r) = absurd (omega (arith, w.all, has.whole, r.more))
    go (stopped r) = absurd (r.differed (sym w.echoed))
    go (started r) = absurd (omega (arith, w.sends, r.idle))
    go (idled r) = absurd (omega (arith, w.sends, r.idle))
    go (outside r) = absurd (true≢false (sym has.in_f7_lem ∙ r.not_f7))
