-- From one D opportunity of a stretch to the next: between two of them only hand-overs and entries into F7 lie, and the E of each is
-- the D that was sent at the one before.
use mathlib.Core.Bool.{Bool, true, false, cond, false≢true, true≢false}
use mathlib.Core.Path.{◌≡◌, refl, sym, ◌∙◌}
use mathlib.Core.List.{List, [], ◌∷◌}
use mathlib.Core.Logic.{◌⊎◌, inl, inr}
use Prim.Native.Nat.{ℕ, zero, suc, ◌+◌, ◌≤◌, ◌<◌}
use native.Mathlib.Omega.{arith}
use lib.Dec.{leb}
use lib.ListN.{length, get_or}
use borrow.Author.Tests.{leb-true, leb-false}
use Rattle.test_lemmas.proofs.ByCases.{by_test}
use Rattle.contention.specs.Channel.{Contender, Channel, Action, fresh_contender, contender_after_e, sends_d, together_d, step, run}
use Rattle.contention.specs.Channel.Action.{hand, enter, leave, clear, opportunity}
use Rattle.contention.specs.Stretch.{Calm, Stretch, onward, opportunities, contender, how_many, active_count}
use Rattle.contention.specs.Claims.{at, opps}
use Rattle.contention.specs.Invariant.{SoundContender, Invariant}
use Rattle.hdlc.proofs.ImageLaws.{image_starts}
use Rattle.contention.proofs.Terminal.{Outcome, outcome, completed, went_on, stopped, started, idled, outside, active_after}
use Rattle.contention.proofs.InvariantKept.{Sender, sender, going, starting, sending_holds, Quiet, quiet_same, quiet_then, quiet_hand, quiet_enter, contender_hears, length_hears, invariant_step}

-- ---- counting terminals

-- a test's number, at most another's that it implies
number_le : (a b : Bool) → (a ≡ true → b ≡ true) → cond {A = ℕ} a 1 0 ≤ cond b 1 0
number_le true b h = rw (h refl) (omega arith)
number_le false b h = omega arith

number_lt : (a b : Bool) → a ≡ false → b ≡ true → suc (cond {A = ℕ} a 1 0) ≤ cond b 1 0
number_lt a b h k = rw (h, k) (omega arith)

module _ (f g : Contender → Bool) where
  pub how_many_le : (ss ts : List Contender) → length ts ≡ length ss
      → ((i : ℕ) → f (get_or ss i fresh_contender) ≡ true → g (get_or ts i fresh_contender) ≡ true) → how_many f ss ≤ how_many g ts
  unfolding how_many
  how_many_le [] ts e h = omega arith
  how_many_le (s ∷ ss) [] e h = absurd (omega arith)
  how_many_le (s ∷ ss) (t ∷ ts) e h =
      omega (arith, number_le (f s) (g t) (h 0), how_many_le ss ts (omega arith) (λ i. h (suc i)))

  -- one more, where some terminal passes the second alone
  pub how_many_lt : (ss ts : List Contender) → length ts ≡ length ss
      → ((i : ℕ) → f (get_or ss i fresh_contender) ≡ true → g (get_or ts i fresh_contender) ≡ true)
      → g fresh_contender ≡ false → (j : ℕ) → f (get_or ss j fresh_contender) ≡ false → g (get_or ts j fresh_contender) ≡ true
      → suc (how_many f ss) ≤ how_many g ts
  unfolding how_many
  how_many_lt [] [] e h z j p q = absurd (false≢true (sym z ∙ q))
  how_many_lt [] (t ∷ ts) e h z j p q = absurd (omega arith)
  how_many_lt (s ∷ ss) [] e h z j p q = absurd (omega arith)
  how_many_lt (s ∷ ss) (t ∷ ts) e h z zero p q =
      omega (arith, number_lt (f s) (g t) p q, how_many_le ss ts (omega arith) (λ i. h (suc i)))
  how_many_lt (s ∷ ss) (t ∷ ts) e h z (suc j) p q =
      omega (arith, number_le (f s) (g t) (h 0), how_many_lt ss ts (omega arith) (λ i. h (suc i)) z j p q)

-- ---- somebody is sending, or nobody

pub data Anyone (c : Channel) : Type 0 where
  somebody : (i : ℕ) → 1 ≤ (contender i c).access.sent → Anyone c
  nobody : ((i : ℕ) → (contender i c).access.sent ≡ 0) → Anyone c

any_of : (ss : List Contender)
    → ((i : ℕ) × (1 ≤ (get_or ss i fresh_contender).access.sent)) ⊎ ((i : ℕ) → (get_or ss i fresh_contender).access.sent ≡ 0)
any_of [] = inr (λ i. refl)
any_of (s ∷ ss) =
    by_test (leb 1 s.access.sent) (λ l. inl (0, leb-true 1 s.access.sent l))
    (λ l. later (any_of ss) (omega (arith, leb-false 1 s.access.sent l)))
  where
    none : ((i : ℕ) → (get_or ss i fresh_contender).access.sent ≡ 0) → s.access.sent ≡ 0
        → (i : ℕ) → (get_or (s ∷ ss) i fresh_contender).access.sent ≡ 0
    none h z zero = z
    none h z (suc i) = h i

    later : ((i : ℕ) × (1 ≤ (get_or ss i fresh_contender).access.sent)) ⊎ ((i : ℕ) → (get_or ss i fresh_contender).access.sent ≡ 0)
        → s.access.sent ≡ 0
        → ((i : ℕ) × (1 ≤ (get_or (s ∷ ss) i fresh_contender).access.sent)) ⊎ ((i : ℕ) → (get_or (s ∷ ss) i fresh_contender).access.sent ≡ 0)
    later (inl p) z = inl (suc p.0, p.1)
    later (inr h) z = inr (none h z)

pub anyone : (c : Channel) → Anyone c
unfolding contender
anyone c = of (any_of c.contenders)
  where
    of : ((i : ℕ) × (1 ≤ (get_or c.contenders i fresh_contender).access.sent)) ⊎ ((i : ℕ) → (get_or c.contenders i fresh_contender).access.sent ≡ 0) → Anyone c
    of (inl p) = somebody p.0 p.1
    of (inr h) = nobody h

module _ (x1 x2 : ℕ) where
  pub onward_contender : (c : Channel) (j : ℕ) → contender j (onward x1 x2 c) ≡ contender_after_e x1 x2 c.heard_d (contender j c)
  unfolding onward
  onward_contender c j = contender_hears x1 x2 c.heard_d (together_d x1 x2 c.heard_d c.contenders) true c j

  calm_onward : (c : Channel) (e bit on : Bool) → Calm x1 x2 c (opportunity e bit on) → onward x1 x2 c ≡ step x1 x2 c (opportunity e bit on)
  unfolding onward
  calm_onward c e bit on h = λ i. step x1 x2 c (opportunity (sym h.0 i) (sym h.1 i) (sym h.2 i))

  -- ---- the D sent is the AND of the bits sent

  together_zero : (e : Bool) (ss : List Contender) (i : ℕ) → sends_d x1 x2 e (get_or ss i fresh_contender) ≡ false → together_d x1 x2 e ss ≡ false
  unfolding together_d sends_d
  together_zero e [] i h = h
  together_zero e (s ∷ ss) zero h = rw h
  together_zero e (s ∷ ss) (suc i) h =
      by_test (sends_d x1 x2 e s) (λ q. rw q (together_zero e ss i h)) (λ q. rw q)

  together_some : (e : Bool) (ss : List Contender) → together_d x1 x2 e ss ≡ false
      → (i : ℕ) × (sends_d x1 x2 e (get_or ss i fresh_contender) ≡ false)
  unfolding together_d
  together_some e [] h = absurd (true≢false h)
  together_some e (s ∷ ss) h =
      by_test (sends_d x1 x2 e s)
      (λ q. let p = together_some e ss (rw q at h) in (suc p.0, p.1))
      (λ q. (0, q))

-- what the E to come says of the bits that were sent
pub record Echo (c : Channel) : Type 0 where
  pub zero_heard : (i : ℕ) → 1 ≤ (contender i c).access.sent → (contender i c).access.last ≡ false → c.heard_d ≡ false
  pub zero_sent : c.heard_d ≡ false → (i : ℕ) × (1 ≤ (contender i c).access.sent) × ((contender i c).access.last ≡ false)

module _ {c : Channel} (e : Echo c) where
  -- the E agrees with a bit that was sent
  pub echo_agrees : (j : ℕ) → 1 ≤ (contender j c).access.sent → (g : ℕ) × (1 ≤ (contender g c).access.sent) × (c.heard_d ≡ (contender g c).access.last)
  echo_agrees j h =
      by_test c.heard_d
      (λ one. by_test (contender j c).access.last (λ l. (j, h, one ∙ sym l))
      (λ l. absurd (true≢false (sym one ∙ e.zero_heard j h l))))
      (λ zer. let p = e.zero_sent zer in (p.0, p.1, zer ∙ sym p.2))

  -- where nobody is sending, a 1 is heard
  pub echo_idle : ((j : ℕ) → (contender j c).access.sent ≡ 0) → c.heard_d ≡ true
  echo_idle z = by_test c.heard_d (λ q. q) (λ q. let p = e.zero_sent q in absurd (omega (arith, p.1, z p.0)))

  -- the E after a start is 0
  pub echo_first : {x2 : ℕ} (i : ℕ) → SoundContender x2 (contender i c) → (contender i c).access.sent ≡ 1 → c.heard_d ≡ false
  echo_first i snd q = e.zero_heard i (omega arith) (snd.last_bit 0 q ∙ image_starts (contender i c).body)

module _ {x1 x2 : ℕ} {e : Bool} {s s' : Contender} {d : Bool} {done : ℕ} where
  -- the bit that a sender sends is its last one
  sender_last : Sender x1 x2 e s s' d done → d ≡ s'.access.last
  sender_last (going r) = r.d_now ∙ sym r.last_now
  sender_last (starting r) = r.d_now ∙ sym r.last_now

  -- a 0 comes from a sender
  zero_sender : Outcome x1 x2 e s s' d done → d ≡ false
      → (1 ≤ s'.access.sent) × (s'.access.last ≡ false)
  zero_sender (completed r) h = absurd (false≢true (sym h ∙ r.d_now))
  zero_sender (went_on r) h = (omega arith, r.last_now ∙ sym r.d_now ∙ h)
  zero_sender (stopped r) h = absurd (false≢true (sym h ∙ r.d_now))
  zero_sender (started r) h = (omega arith, r.last_now ∙ sym r.d_now ∙ h)
  zero_sender (idled r) h = absurd (false≢true (sym h ∙ r.d_now))
  zero_sender (outside r) h = absurd (false≢true (sym h ∙ r.d_now))

module _ (x1 x2 : ℕ) where
  onward_heard : (c : Channel) → (onward x1 x2 c).heard_d ≡ together_d x1 x2 c.heard_d c.contenders
  unfolding onward step
  onward_heard c = refl

  pub echo_onward : (c : Channel) → Invariant x2 c → Echo (onward x1 x2 c)
  unfolding contender
  echo_onward c inv =
      record {
        zero_heard = λ i h l.
            let s = contender i c in
            let z = sender x1 x2 c.heard_d s (inv.sound i) (rw (onward_contender x1 x2 c i) at h) in
            let last-zero : (contender_after_e x1 x2 c.heard_d s).access.last ≡ false = rw (onward_contender x1 x2 c i) at l in
            onward_heard c
            ∙ together_zero x1 x2 c.heard_d c.contenders i
            (sender_last z ∙ last-zero);
        zero_sent = λ q.
            let p = together_some x1 x2 c.heard_d c.contenders (sym (onward_heard c) ∙ q) in
            let s = contender p.0 c in
            let z = zero_sender (outcome x1 x2 c.heard_d s) p.1 in
            (p.0, rw (onward_contender x1 x2 c p.0) z.0, rw (onward_contender x1 x2 c p.0) z.1);
      }

  -- a sender is not changed between opportunities
  pub sender_kept : (c c' : Channel) → Invariant x2 c → Quiet c c' → (i : ℕ) → 1 ≤ (contender i c).access.sent → contender i c' ≡ contender i c
  sender_kept c c' inv q i h = (q.each i).kept (sending_holds x2 (contender i c) (inv.sound i) h)

  pub echo_quiet : (c c' : Channel) → Invariant x2 c → Quiet c c' → Echo c → Echo c'
  echo_quiet c c' inv q e =
      record {
        zero_heard = λ i h l.
            let h' : 1 ≤ (contender i c).access.sent = omega (arith, (q.each i).sent_same) in
            q.heard_same ∙ e.zero_heard i h' (rw (sender_kept c c' inv q i h') at l);
        zero_sent = λ z.
            let p = e.zero_sent (sym q.heard_same ∙ z) in
            (p.0, rw (sender_kept c c' inv q p.0 p.1) p.1, rw (sender_kept c c' inv q p.0 p.1) p.2);
      }

  -- ---- how many are in F7

  pub active_quiet : (c c' : Channel) → Quiet c c' → active_count c.contenders ≤ active_count c'.contenders
  unfolding contender
  active_quiet c c' q =
      how_many_le (λ s. s.active) (λ s. s.active) c.contenders c'.contenders q.as_many (λ i. (q.each i).stays)

  pub active_step : (c : Channel) (e bit on : Bool) → active_count c.contenders ≤ active_count (step x1 x2 c (opportunity e bit on)).contenders
  unfolding contender
  active_step c e bit on =
      how_many_le (λ s. s.active) (λ s. s.active) c.contenders (step x1 x2 c (opportunity e bit on)).contenders
      (length_hears x1 x2 e bit on c)
      (λ i h. rw (contender_hears x1 x2 e bit on c i) (active_after x1 x2 e (contender i c) ∙ h))

-- ---- along a stretch
module _ (x1 x2 : ℕ) (h1 : 8 ≤ x1) (h2 : x1 + 2 ≤ x2) where
  pub invariant_onward : (c : Channel) → Invariant x2 c → Invariant x2 (onward x1 x2 c)
  unfolding onward
  invariant_onward c inv = invariant_step x1 x2 h1 h2 c (opportunity c.heard_d (together_d x1 x2 c.heard_d c.contenders) true) inv

  first_opportunity : (during : List Action) (c : Channel) → Invariant x2 c → Stretch x1 x2 c during
      → 0 < length (opportunities x1 x2 c during) → Quiet c (at (opportunities x1 x2 c during) 0)
  unfolding Stretch opportunities
  first_opportunity [] c inv st h = absurd (omega arith)
  first_opportunity (hand i k body ∷ more) c inv st h =
      quiet_then c (step x1 x2 c (hand i k body)) (at (opportunities x1 x2 (step x1 x2 c (hand i k body)) more) 0) (quiet_hand x1 x2 c i k body inv)
      (first_opportunity more (step x1 x2 c (hand i k body)) (invariant_step x1 x2 h1 h2 c (hand i k body) inv) st.1 h)
  first_opportunity (enter i ∷ more) c inv st h =
      quiet_then c (step x1 x2 c (enter i)) (at (opportunities x1 x2 (step x1 x2 c (enter i)) more) 0) (quiet_enter x1 x2 c i inv)
      (first_opportunity more (step x1 x2 c (enter i)) (invariant_step x1 x2 h1 h2 c (enter i) inv) st.1 h)
  first_opportunity (leave i ∷ more) c inv st h = absurd st.0
  first_opportunity (clear ∷ more) c inv st h = absurd st.0
  first_opportunity (opportunity e bit on ∷ more) c inv st h = quiet_same c

  -- the invariant holds at every opportunity
  pub opportunity_invariant : (during : List Action) (c : Channel) (t : ℕ) → Invariant x2 c → t < length (opportunities x1 x2 c during)
      → Invariant x2 (at (opportunities x1 x2 c during) t)
  unfolding opportunities
  opportunity_invariant [] c t inv h = absurd (omega arith)
  opportunity_invariant (hand i k body ∷ more) c t inv h =
      opportunity_invariant more (step x1 x2 c (hand i k body)) t (invariant_step x1 x2 h1 h2 c (hand i k body) inv) h
  opportunity_invariant (enter i ∷ more) c t inv h =
      opportunity_invariant more (step x1 x2 c (enter i)) t (invariant_step x1 x2 h1 h2 c (enter i) inv) h
  opportunity_invariant (leave i ∷ more) c t inv h =
      opportunity_invariant more (step x1 x2 c (leave i)) t (invariant_step x1 x2 h1 h2 c (leave i) inv) h
  opportunity_invariant (clear ∷ more) c t inv h =
      opportunity_invariant more (step x1 x2 c clear) t (invariant_step x1 x2 h1 h2 c clear inv) h
  opportunity_invariant (opportunity e bit on ∷ more) c zero inv h = inv
  opportunity_invariant (opportunity e bit on ∷ more) c (suc t) inv h =
      opportunity_invariant more (step x1 x2 c (opportunity e bit on)) t (invariant_step x1 x2 h1 h2 c (opportunity e bit on) inv) (omega arith)

  -- from one opportunity to the next
  pub next_opportunity : (during : List Action) (c : Channel) (t : ℕ) → Invariant x2 c → Stretch x1 x2 c during
      → suc t < length (opportunities x1 x2 c during)
      → Quiet (onward x1 x2 (at (opportunities x1 x2 c during) t)) (at (opportunities x1 x2 c during) (suc t))
  unfolding Stretch opportunities
  next_opportunity [] c t inv st h = absurd (omega arith)
  next_opportunity (hand i k body ∷ more) c t inv st h =
      next_opportunity more (step x1 x2 c (hand i k body)) t (invariant_step x1 x2 h1 h2 c (hand i k body) inv) st.1 h
  next_opportunity (enter i ∷ more) c t inv st h =
      next_opportunity more (step x1 x2 c (enter i)) t (invariant_step x1 x2 h1 h2 c (enter i) inv) st.1 h
  next_opportunity (leave i ∷ more) c t inv st h = absurd st.0
  next_opportunity (clear ∷ more) c t inv st h = absurd st.0
  next_opportunity (opportunity e bit on ∷ more) c zero inv st h =
      rw (calm_onward x1 x2 c e bit on st.0)
      (first_opportunity more (step x1 x2 c (opportunity e bit on)) (invariant_step x1 x2 h1 h2 c (opportunity e bit on) inv) st.1 (omega arith))
  next_opportunity (opportunity e bit on ∷ more) c (suc t) inv st h =
      next_opportunity more (step x1 x2 c (opportunity e bit on)) t (invariant_step x1 x2 h1 h2 c (opportunity e bit on) inv) st.1 (omega arith)

  active_run : (during : List Action) (c : Channel) → Invariant x2 c → Stretch x1 x2 c during
      → active_count c.contenders ≤ active_count (run x1 x2 c during).contenders
  unfolding Stretch run
  active_run [] c inv st = omega arith
  active_run (hand i k body ∷ more) c inv st =
      omega (
        arith,
        active_quiet x1 x2 c (step x1 x2 c (hand i k body)) (quiet_hand x1 x2 c i k body inv),
        active_run more (step x1 x2 c (hand i k body)) (invariant_step x1 x2 h1 h2 c (hand i k body) inv) st.1,
      )
  active_run (enter i ∷ more) c inv st =
      omega (
        arith,
        active_quiet x1 x2 c (step x1 x2 c (enter i)) (quiet_enter x1 x2 c i inv),
        active_run more (step x1 x2 c (enter i)) (invariant_step x1 x2 h1 h2 c (enter i) inv) st.1,
      )
  active_run (leave i ∷ more) c inv st = absurd st.0
  active_run (clear ∷ more) c inv st = absurd st.0
  active_run (opportunity e bit on ∷ more) c inv st =
      omega (
        arith,
        active_step x1 x2 c e bit on,
        active_run more (step x1 x2 c (opportunity e bit on)) (invariant_step x1 x2 h1 h2 c (opportunity e bit on) inv) st.1,
      )

  -- nobody leaves: no more are in F7 at an opportunity than at the stretch's end
  pub opportunity_active : (during : List Action) (c : Channel) (t : ℕ) → Invariant x2 c → Stretch x1 x2 c during
      → t < length (opportunities x1 x2 c during)
      → active_count (at (opportunities x1 x2 c during) t).contenders ≤ active_count (run x1 x2 c during).contenders
  unfolding Stretch opportunities run
  opportunity_active [] c t inv st h = absurd (omega arith)
  opportunity_active (hand i k body ∷ more) c t inv st h =
      opportunity_active more (step x1 x2 c (hand i k body)) t (invariant_step x1 x2 h1 h2 c (hand i k body) inv) st.1 h
  opportunity_active (enter i ∷ more) c t inv st h =
      opportunity_active more (step x1 x2 c (enter i)) t (invariant_step x1 x2 h1 h2 c (enter i) inv) st.1 h
  opportunity_active (leave i ∷ more) c t inv st h = absurd st.0
  opportunity_active (clear ∷ more) c t inv st h = absurd st.0
  opportunity_active (opportunity e bit on ∷ more) c zero inv st h =
      omega (
        arith,
        active_step x1 x2 c e bit on,
        active_run more (step x1 x2 c (opportunity e bit on)) (invariant_step x1 x2 h1 h2 c (opportunity e bit on) inv) st.1,
      )
  opportunity_active (opportunity e bit on ∷ more) c (suc t) inv st h =
      opportunity_active more (step x1 x2 c (opportunity e bit on)) t (invariant_step x1 x2 h1 h2 c (opportunity e bit on) inv) st.1 (omega arith)

-- The opportunities of a stretch from a channel that satisfies the invariant, by their numbers.
module _ (x1 x2 : ℕ) (c : Channel) (during : List Action) (h1 : 8 ≤ x1) (h2 : x1 + 2 ≤ x2) (inv : Invariant x2 c) (st : Stretch x1 x2 c during) where
  -- opportunity t, and how many there are
  abbrev pub opp : ℕ → Channel
  opp t = at (opps x1 x2 c during) t

  abbrev pub many : ℕ
  many = length (opps x1 x2 c during)

  pub invariant_at : (t : ℕ) → t < many → Invariant x2 (opp t)
  invariant_at t h = opportunity_invariant x1 x2 h1 h2 during c t inv h

  pub invariant_past : (t : ℕ) → t < many → Invariant x2 (onward x1 x2 (opp t))
  invariant_past t h = invariant_onward x1 x2 h1 h2 (opp t) (invariant_at t h)

  pub quiet_at : (t : ℕ) → suc t < many → Quiet (onward x1 x2 (opp t)) (opp (suc t))
  quiet_at t h = next_opportunity x1 x2 h1 h2 during c t inv st h

  -- from the stretch's second opportunity on, E is the AND of the bits sent
  pub echo_at : (t : ℕ) → suc t < many → Echo (opp (suc t))
  echo_at t h =
      echo_quiet x1 x2 (onward x1 x2 (opp t)) (opp (suc t)) (invariant_past t (omega arith)) (quiet_at t h)
      (echo_onward x1 x2 (opp t) (invariant_at t (omega arith)))

  pub active_at : (t : ℕ) → t < many → active_count (opp t).contenders ≤ active_count (run x1 x2 c during).contenders
  active_at t h = opportunity_active x1 x2 h1 h2 during c t inv st h
