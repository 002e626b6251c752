-- The invariant holds of a fresh channel, is kept by every action, and so holds after every list of actions.
use mathlib.Core.Bool.{Bool, true, false, ◌&&◌, ◌||◌, false≢true, true≢false}
use mathlib.Core.Path.{◌≡◌, refl, sym, ap, ◌∙◌}
use mathlib.Core.List.{List, [], ◌∷◌}
use Prim.Native.Nat.{ℕ, zero, suc, ◌+◌, ◌≤◌, ◌<◌}
use native.Mathlib.Omega.{arith}
use lib.Dec.{eqb, leb}
use lib.ListN.{length, get_or, take, replicate, length-map, get_or-map}
use lib.Seq.{take-suc}
use borrow.Author.Tests.{eqb-true, eqb-false, leb-true, leb-false}
use Rattle.dchannel.specs.declared.access.Access.{Access}
use Rattle.hdlc.specs.Ones.{ending_ones}
use Rattle.test_lemmas.proofs.ByCases.{by_test}
use Rattle.hdlc.proofs.OnesLaws.{ending_one}
use Rattle.hdlc.specs.Image.{image, IsBody, is_body}
use Rattle.hdlc.proofs.ImageLaws.{is_body_lem, length_image, image_starts, image_ending_ones}
use Rattle.dchannel.specs.Access.{fresh, entered, count_after, low_of}
use Rattle.dchannel.specs.Handing.{taken_up, left}
use Rattle.contention.specs.Channel.{Contender, Channel, Action, fresh_contender, fresh_channel, may_hold, holding, entering, leaving, next_bit, access_step_at, contender_after_e, sends_d, step, run}
use Rattle.contention.specs.Channel.Action.{hand, enter, leave, clear, opportunity}
use Rattle.contention.specs.Stretch.{contender}
use Rattle.contention.specs.Invariant.{SoundContender, Invariant}
use Rattle.contention.proofs.Change.{change_each, length_change}
use Rattle.dchannel.proofs.AccessLaws.{count_most, count_up, count_zero}
use Rattle.contention.proofs.Terminal.{Outcome, outcome, WentOn, Started, StartedAt, completed, went_on, stopped, started, idled, outside, hears_outside, active_after, body_after, count_after_lem, level_threshold, level_least}

module _ (x1 x2 : ℕ) where
  -- every terminal hears the E of an opportunity
  pub contender_hears : (e bit on : Bool) (c : Channel) (j : ℕ)
      → contender j (step x1 x2 c (opportunity e bit on)) ≡ contender_after_e x1 x2 e (contender j c)
  unfolding contender step contender_after_e
  contender_hears e bit on c j = get_or-map (contender_after_e x1 x2 e) c.contenders j fresh_contender

  pub length_hears : (e bit on : Bool) (c : Channel) → length (step x1 x2 c (opportunity e bit on)).contenders ≡ length c.contenders
  unfolding step
  length_hears e bit on c = length-map c.contenders (contender_after_e x1 x2 e)

-- ---- one terminal stays sound

-- one that holds nothing and has all at its start
pub sound_fresh : (x2 : ℕ) (s : Contender) → s.access ≡ fresh → SoundContender x2 s
sound_fresh x2 s q =
    record {
      counted = rw q (omega arith);
      outside = λ _. q;
      class_known = rw q (omega arith);
      none_held = rw q (λ _. (refl, refl));
      frame_held = rw q (λ h. absurd (omega arith));
      sent_part = rw q (omega arith);
      last_bit = rw q (λ n h. absurd (omega arith));
    }

-- A terminal s that becomes s' at E in F7: C follows E, and the held frame stays, or is completed.
module _ {x2 : ℕ} (e : Bool) {s s' : Contender} (h : SoundContender x2 s) (act : s'.active ≡ s.active) (bod : s'.body ≡ s.body)
    (cnt : s.active ≡ true → s'.access.count ≡ count_after x2 e s.access.count) where
  sound_kept : s.active ≡ true → s'.access.held ≡ s.access.held → s'.access.length ≡ s.access.length
      → (s.access.held ≡ 0 → s'.access.sent ≡ 0) → s'.access.sent ≤ s'.access.length
      → ((n : ℕ) → s'.access.sent ≡ suc n → s'.access.last ≡ get_or (image s.body) n true) → SoundContender x2 s'
  sound_kept on held len none part last =
      record {
        counted = rw (cnt on) (count_most x2 e s.access.count);
        outside = λ f. absurd (false≢true (sym f ∙ act ∙ on));
        class_known = omega (arith, h.class_known);
        none_held = λ z. (len ∙ (h.none_held (sym held ∙ z)).0, none (sym held ∙ z));
        frame_held = λ k. let f = h.frame_held (omega arith) in (rw bod f.0, rw bod (len ∙ f.1));
        sent_part = part;
        last_bit = λ n q. rw bod (last n q);
      }

  sound_outcome : {x1 : ℕ} {d : Bool} {done : ℕ} → Outcome x1 x2 e s s' d done → SoundContender x2 s'
  unfolding next_bit
  sound_outcome (completed r) =
      record {
        counted = rw (cnt r.in_f7_lem) (count_most x2 e s.access.count);
        outside = λ f. absurd (false≢true (sym f ∙ act ∙ r.in_f7_lem));
        class_known = omega arith;
        none_held = λ _. (r.length_now, r.sent_now);
        frame_held = λ k. absurd (omega arith);
        sent_part = omega arith;
        last_bit = λ n q. absurd (omega arith);
      }
  sound_outcome (went_on r) =
      sound_kept r.in_f7_lem r.held_now r.length_now (λ z. absurd (omega (arith, h.none_held z))) (omega arith)
      (λ n q. let m : n ≡ s.access.sent = omega arith in cc)
  sound_outcome (stopped r) =
      sound_kept r.in_f7_lem r.held_now r.length_now (λ _. r.sent_now) (omega arith) (λ n q. absurd (omega arith))
  sound_outcome (started r) =
      sound_kept r.in_f7_lem r.held_now r.length_now (λ z. absurd (omega arith))
      (omega (arith, (h.frame_held r.holds).1, length_image s.body))
      (λ n q. let m : n ≡ s.access.sent = omega arith in cc)
  sound_outcome (idled r) =
      sound_kept r.in_f7_lem r.held_now r.length_now (λ _. r.sent_now) (omega arith) (λ n q. absurd (omega arith))
  sound_outcome (outside r) = rw r.as_before h

pub sound_hears : (x1 x2 : ℕ) (e : Bool) (s : Contender) → SoundContender x2 s → SoundContender x2 (contender_after_e x1 x2 e s)
sound_hears x1 x2 e s h =
    sound_outcome e h (active_after x1 x2 e s) (body_after x1 x2 e s)
    (count_after_lem x1 x2 e s) (outcome x1 x2 e s)

-- a terminal that is sending holds a frame
pub sending_holds : (x2 : ℕ) (s : Contender) → SoundContender x2 s → 1 ≤ s.access.sent → 1 ≤ s.access.held
sending_holds x2 s h k =
    by_test (leb 1 s.access.held) (λ l. leb-true 1 s.access.held l)
    (λ l. let z : s.access.held ≡ 0 = omega (arith, leb-false 1 s.access.held l) in absurd (omega (arith, h.none_held z)))

pub and_true : (a b : Bool) → (a && b) ≡ true → (a ≡ true) × (b ≡ true)
and_true true b h = (refl, h)
and_true false b h = absurd (false≢true h)

one_or_two : (k : ℕ) → (eqb k 1 || eqb k 2) ≡ true → (1 ≤ k) × (k ≤ 2)
one_or_two k h =
    by_test (eqb k 1) (λ l. let q = eqb-true k 1 l in omega arith) (λ l. let q = eqb-true k 2 (rw l at h) in omega arith)

-- what is known where a frame is taken
pub record Taken (k : ℕ) (body : List ℕ) (s : Contender) : Type 0 where
  pub in_f7_lem : s.active ≡ true
  pub free : s.access.held ≡ 0
  pub class_least : 1 ≤ k
  pub class_most : k ≤ 2
  pub of_octets : IsBody body

pub taken : (k : ℕ) (body : List ℕ) (s : Contender) → may_hold k body s ≡ true → Taken k body s
unfolding may_hold
taken k body s h =
    let both = and_true (s.active && eqb s.access.held 0) ((eqb k 1 || eqb k 2) && is_body body) h in
    let left = and_true s.active (eqb s.access.held 0) both.0 in
    let right = and_true (eqb k 1 || eqb k 2) (is_body body) both.1 in
    record {
      in_f7_lem = left.0;
      free = eqb-true s.access.held 0 left.1;
      class_least = (one_or_two k right.0).0;
      class_most = (one_or_two k right.0).1;
      of_octets = is_body_lem body right.1;
    }

sound_holding : (x2 k : ℕ) (body : List ℕ) (s : Contender) → SoundContender x2 s → SoundContender x2 (holding k body s)
unfolding holding taken_up
sound_holding x2 k body s h =
    by_test (may_hold k body s)
    (λ m. rw m
    (let t = taken k body s m in
    record {
      counted = h.counted;
      outside = λ f. absurd (false≢true (sym f ∙ t.in_f7_lem));
      class_known = t.class_most;
      none_held = λ z. absurd (omega arith);
      frame_held = λ _. (t.of_octets, refl);
      sent_part = omega arith;
      last_bit = λ n q. absurd (omega arith);
    }))
    (λ m. rw m h)

pub entering_active : (s : Contender) → s.active ≡ true → entering s ≡ s
unfolding entering
entering_active s h = rw h

pub entering_outside : (s : Contender) → s.active ≡ false → entering s ≡ record { active = true; access = entered s.access; body = s.body }
unfolding entering
entering_outside s h = rw h

sound_entering : (x2 : ℕ) (s : Contender) → SoundContender x2 s → SoundContender x2 (entering s)
unfolding entered
sound_entering x2 s h =
    by_test s.active (λ m. rw (entering_active s m) h)
    (λ m. rw (entering_outside s m) (sound_fresh x2 (record { active = true; access = entered s.access; body = s.body }) (ap entered (h.outside m))))

sound_leaving : (x2 : ℕ) (s : Contender) → SoundContender x2 (leaving s)
unfolding leaving left
sound_leaving x2 s = sound_fresh x2 (leaving s) refl

-- ---- what a hand-over or an entry into F7 leaves of a terminal: all that is counted, and a held frame with it
pub record Quietly (s s' : Contender) : Type 0 where
  pub kept : 1 ≤ s.access.held → s' ≡ s
  pub sent_same : s'.access.sent ≡ s.access.sent
  pub count_same : s'.access.count ≡ s.access.count
  pub low1_same : s'.access.low1 ≡ s.access.low1
  pub low2_same : s'.access.low2 ≡ s.access.low2
  pub stays : s.active ≡ true → s'.active ≡ true

pub quietly_same : (s : Contender) → Quietly s s
quietly_same s =
    record { kept = λ _. refl; sent_same = refl; count_same = refl; low1_same = refl; low2_same = refl; stays = λ h. h }

quietly_holding : (x2 k : ℕ) (body : List ℕ) (s : Contender) → SoundContender x2 s → Quietly s (holding k body s)
unfolding holding taken_up
quietly_holding x2 k body s h =
    by_test (may_hold k body s)
    (λ m. rw m
    (let t = taken k body s m in
    record {
      kept = λ q. absurd (omega arith);
      sent_same = sym (h.none_held t.free).1;
      count_same = refl;
      low1_same = refl;
      low2_same = refl;
      stays = λ a. a;
    }))
    (λ m. rw m (quietly_same s))

quietly_entering : (x2 : ℕ) (s : Contender) → SoundContender x2 s → Quietly s (entering s)
unfolding entered
quietly_entering x2 s h =
    by_test s.active (λ m. rw (entering_active s m) (quietly_same s))
    (λ m. rw (entering_outside s m)
    (let f = h.outside m in
    record {
      kept = λ q. absurd (omega (arith, ap (λ (a : Access). a.held) f));
      sent_same = refl;
      count_same = sym (ap (λ (a : Access). a.count) f);
      low1_same = refl;
      low2_same = refl;
      stays = λ _. refl;
    }))

-- ---- the channel: actions other than opportunities

-- what keeps all in phase: C does not rise, and whoever is sending was, with the same frame
record Less (s s' : Contender) : Type 0 where
  count_less : s'.access.count ≤ s.access.count
  sending_same : 1 ≤ s'.access.sent → (s'.access.sent ≡ s.access.sent) × (s'.body ≡ s.body)

less_quietly : (x2 : ℕ) (s s' : Contender) → SoundContender x2 s → Quietly s s' → Less s s'
less_quietly x2 s s' h q =
    record {
      count_less = omega arith;
      sending_same = λ k. (q.sent_same, ap (λ (z : Contender). z.body) (q.kept (sending_holds x2 s h (omega arith))));
    }

less_leaving : (s : Contender) → Less s (leaving s)
unfolding leaving left
less_leaving s = record { count_less = omega arith; sending_same = λ k. absurd (omega arith) }

less_kept : (x2 : ℕ) (c c' : Channel) → Invariant x2 c → ((i : ℕ) → SoundContender x2 (contender i c')) → ((i : ℕ) → Less (contender i c) (contender i c')) → Invariant x2 c'
less_kept x2 c c' inv snd less =
    record {
      sound = snd;
      in_phase = λ i j hi hj.
          let li = (less i).sending_same hi in
          let lj = (less j).sending_same hj in
          let before = inv.in_phase i j (omega arith) (omega arith) in
          (li.0 ∙ before.0 ∙ sym lj.0, λ t h. rw (li.1, lj.1) (before.1 t (omega arith)));
      held_back = λ i j n q.
          let li = (less i).sending_same (omega arith) in
          rw li.1 (omega (arith, (less j).count_less, inv.held_back i j n (sym li.0 ∙ q)));
    }

-- two channels between which only hand-overs and entries into F7 lie
pub record Quiet (c c' : Channel) : Type 0 where
  pub heard_same : c'.heard_d ≡ c.heard_d
  pub as_many : length c'.contenders ≡ length c.contenders
  pub each : (i : ℕ) → Quietly (contender i c) (contender i c')

pub quiet_same : (c : Channel) → Quiet c c
quiet_same c = record { heard_same = refl; as_many = refl; each = λ i. quietly_same (contender i c) }

pub quiet_then : (c d f : Channel) → Quiet c d → Quiet d f → Quiet c f
quiet_then c d f p q =
    record {
      heard_same = q.heard_same ∙ p.heard_same;
      as_many = q.as_many ∙ p.as_many;
      each = λ i.
          let pi = p.each i in
          let qi = q.each i in
          record {
            kept = λ h. qi.kept (rw (pi.kept h) h) ∙ pi.kept h;
            sent_same = qi.sent_same ∙ pi.sent_same;
            count_same = qi.count_same ∙ pi.count_same;
            low1_same = qi.low1_same ∙ pi.low1_same;
            low2_same = qi.low2_same ∙ pi.low2_same;
            stays = λ h. qi.stays (pi.stays h);
          };
    }

module _ (x1 x2 : ℕ) where
  pub quiet_hand : (c : Channel) (i k : ℕ) (body : List ℕ) → Invariant x2 c → Quiet c (step x1 x2 c (hand i k body))
  unfolding step contender
  quiet_hand c i k body inv =
      record {
        heard_same = refl;
        as_many = length_change (holding k body) i c.contenders;
        each = λ j. change_each (holding k body) fresh_contender (λ s s'. SoundContender x2 s → Quietly s s') (λ s _. quietly_same s) (λ s. quietly_holding x2 k body s) i c.contenders j (inv.sound j);
      }

  pub quiet_enter : (c : Channel) (i : ℕ) → Invariant x2 c → Quiet c (step x1 x2 c (enter i))
  unfolding step contender
  quiet_enter c i inv =
      record {
        heard_same = refl;
        as_many = length_change entering i c.contenders;
        each = λ j. change_each entering fresh_contender (λ s s'. SoundContender x2 s → Quietly s s') (λ s _. quietly_same s) (λ s. quietly_entering x2 s) i c.contenders j (inv.sound j);
      }

  quiet_less : (c c' : Channel) → Invariant x2 c → Quiet c c' → (i : ℕ) → Less (contender i c) (contender i c')
  quiet_less c c' inv q i = less_quietly x2 (contender i c) (contender i c') (inv.sound i) (q.each i)

  invariant_hand : (c : Channel) (i k : ℕ) (body : List ℕ) → Invariant x2 c → Invariant x2 (step x1 x2 c (hand i k body))
  unfolding step contender
  invariant_hand c i k body inv =
      less_kept x2 c (step x1 x2 c (hand i k body)) inv
      (λ j. change_each (holding k body) fresh_contender (λ s s'. SoundContender x2 s → SoundContender x2 s') (λ s h. h) (λ s. sound_holding x2 k body s) i c.contenders j (inv.sound j))
      (quiet_less c (step x1 x2 c (hand i k body)) inv (quiet_hand c i k body inv))

  invariant_enter : (c : Channel) (i : ℕ) → Invariant x2 c → Invariant x2 (step x1 x2 c (enter i))
  unfolding step contender
  invariant_enter c i inv =
      less_kept x2 c (step x1 x2 c (enter i)) inv
      (λ j. change_each entering fresh_contender (λ s s'. SoundContender x2 s → SoundContender x2 s') (λ s h. h) (λ s. sound_entering x2 s) i c.contenders j (inv.sound j))
      (quiet_less c (step x1 x2 c (enter i)) inv (quiet_enter c i inv))

  invariant_leave : (c : Channel) (i : ℕ) → Invariant x2 c → Invariant x2 (step x1 x2 c (leave i))
  unfolding step contender
  invariant_leave c i inv =
      less_kept x2 c (step x1 x2 c (leave i)) inv
      (λ j. change_each leaving fresh_contender (λ s s'. SoundContender x2 s → SoundContender x2 s') (λ s h. h) (λ s h. sound_leaving x2 s) i c.contenders j (inv.sound j))
      (λ j. change_each leaving fresh_contender Less (λ s. record { count_less = omega arith; sending_same = λ _. (refl, refl) }) less_leaving i c.contenders j)

  invariant_clear : (c : Channel) → Invariant x2 c → Invariant x2 (step x1 x2 c clear)
  unfolding step contender
  invariant_clear c inv = record { sound = inv.sound; in_phase = inv.in_phase; held_back = inv.held_back }

-- ---- the channel: opportunities

module _ (x1 x2 : ℕ) (e : Bool) where
  pub hears_count_up : (s : Contender) → (contender_after_e x1 x2 e s).access.count ≤ suc s.access.count
  hears_count_up s =
      by_test s.active (λ act. rw (count_after_lem x1 x2 e s act) (omega (arith, count_up x2 e s.access.count)))
      (λ out. rw (hears_outside x1 x2 e s out) (omega arith))

-- an E of 0 sets every C to 0
pub zero_clears : (x1 x2 : ℕ) (s : Contender) → SoundContender x2 s → (contender_after_e x1 x2 false s).access.count ≡ 0
zero_clears x1 x2 s h =
    by_test s.active (λ act. rw (count_after_lem x1 x2 false s act) (count_zero x2 s.access.count))
    (λ out. rw (hears_outside x1 x2 false s out) (ap (λ (a : Access). a.count) (h.outside out)))

-- whoever is sending after an opportunity went on or started at it
pub data Sender (x1 x2 : ℕ) (e : Bool) (s s' : Contender) (d : Bool) (done : ℕ) : Type 0 where
  going : WentOn x1 x2 e s s' d done → Sender x1 x2 e s s' d done
  starting : Started x1 x2 e s s' d done → Sender x1 x2 e s s' d done

module _ {x1 x2 : ℕ} {e : Bool} {s s' : Contender} {d : Bool} {done : ℕ} where
  sender_of : SoundContender x2 s → 1 ≤ s'.access.sent → Outcome x1 x2 e s s' d done
      → Sender x1 x2 e s s' d done
  sender_of snd h (completed r) = absurd (omega arith)
  sender_of snd h (went_on r) = going r
  sender_of snd h (stopped r) = absurd (omega arith)
  sender_of snd h (started r) = starting r
  sender_of snd h (idled r) = absurd (omega arith)
  sender_of snd h (outside r) =
      absurd (omega (arith, ap (λ (z : Contender). z.access.sent) r.as_before, ap (λ (a : Access). a.sent) (snd.outside r.not_f7)))

abbrev pub SenderAt : ℕ → ℕ → Bool → Contender → Type 0
SenderAt x1 x2 e s = Sender x1 x2 e s (contender_after_e x1 x2 e s) (sends_d x1 x2 e s) (access_step_at x1 x2 e s).done

pub sender : (x1 x2 : ℕ) (e : Bool) (s : Contender) → SoundContender x2 s → 1 ≤ (contender_after_e x1 x2 e s).access.sent → SenderAt x1 x2 e s
sender x1 x2 e s snd h = sender_of snd h (outcome x1 x2 e s)

module _ (x1 x2 : ℕ) (c : Channel) (inv : Invariant x2 c) where
  -- the 1s that end what a sender has heard of itself, with this E its last bit, bound every C
  heard_bound : (e : Bool) (i j n : ℕ) → (contender i c).access.sent ≡ suc n → e ≡ (contender i c).access.last
      → (contender_after_e x1 x2 e (contender j c)).access.count ≤ ending_ones (take (suc n) (image (contender i c).body))
  heard_bound false i j n q a = omega (arith, zero_clears x1 x2 (contender j c) (inv.sound j))
  heard_bound true i j zero q a =
      absurd (true≢false (a ∙ (inv.sound i).last_bit zero q ∙ image_starts (contender i c).body))
  heard_bound true i j (suc n) q a =
      let f = (inv.sound i).frame_held (sending_holds x2 (contender i c) (inv.sound i) (omega arith)) in
      let more = take-suc (image (contender i c).body) (suc n) true (omega (arith, f.1, (inv.sound i).sent_part)) in
      let bit : get_or (image (contender i c).body) (suc n) true ≡ true = sym ((inv.sound i).last_bit (suc n) q) ∙ sym a in
      rw (more, bit, ending_one (take (suc n) (image (contender i c).body)))
      (omega (arith, hears_count_up x1 x2 true (contender j c), inv.held_back i j n q))

  -- while one goes on, every C is at most six
  pub going_bound : (e : Bool) (i j : ℕ) → 1 ≤ (contender i c).access.sent → e ≡ (contender i c).access.last
      → (contender_after_e x1 x2 e (contender j c)).access.count ≤ 6
  going_bound e i j h a = go (contender i c).access.sent refl h
    where
      go : (n : ℕ) → (contender i c).access.sent ≡ n → 1 ≤ n → (contender_after_e x1 x2 e (contender j c)).access.count ≤ 6
      go zero q k = absurd (omega arith)
      go (suc n) q k = omega (arith, heard_bound e i j n q a, image_ending_ones (contender i c).body (suc n))

  -- "so nobody starts"
  pub nobody_starts : 8 ≤ x1 → x1 + 2 ≤ x2 → (e : Bool) (i j : ℕ) → 1 ≤ (contender i c).access.sent → e ≡ (contender i c).access.last
      → StartedAt x1 x2 e (contender j c) → ⊥
  nobody_starts h1 h2 e i j h a r =
      omega (
        arith,
        going_bound e i j h a,
        r.reached,
        level_threshold x1 x2 (contender j c).access.held (low_of (contender j c).access.held (contender_after_e x1 x2 e (contender j c)).access),
        level_least x1 x2 (contender j c).access.held h2,
      )

-- what `in_phase` says of two terminals
abbrev Phase : Contender → Contender → Type 0
Phase s t =
    (s.access.sent ≡ t.access.sent) ×
    ((n : ℕ) → n + 1 < s.access.sent → get_or (image s.body) n true ≡ get_or (image t.body) n true)

module _ (x1 x2 : ℕ) (h1 : 8 ≤ x1) (h2 : x1 + 2 ≤ x2) (c : Channel) (inv : Invariant x2 c) (e : Bool) where
  -- both went on: the bits heard are equal too
  phase_on : (i j n : ℕ) → (contender i c).access.sent ≡ suc n → (contender j c).access.sent ≡ suc n
      → e ≡ (contender i c).access.last → e ≡ (contender j c).access.last
      → (t : ℕ) → t < suc n → get_or (image (contender i c).body) t true ≡ get_or (image (contender j c).body) t true
  phase_on i j n qi qj ai aj t h =
      by_test (eqb t n)
      (λ l. rw (eqb-true t n l)
      (sym ((inv.sound i).last_bit n qi) ∙ sym ai ∙ aj ∙ (inv.sound j).last_bit n qj))
      (λ l. (inv.in_phase i j (omega arith) (omega arith)).1 t (omega (arith, eqb-false t n l)))

  phase_hears : (i j : ℕ)
      → SenderAt x1 x2 e (contender i c)
      → SenderAt x1 x2 e (contender j c)
      → Phase (contender_after_e x1 x2 e (contender i c)) (contender_after_e x1 x2 e (contender j c))
  phase_hears i j (going r) (going q) =
      let same_sent = (inv.in_phase i j r.sending q.sending).0 in (
        omega arith,
        λ t h. rw (body_after x1 x2 e (contender i c), body_after x1 x2 e (contender j c))
            (on (contender i c).access.sent refl t (omega arith)),
      )
    where
      on : (n : ℕ) → (contender i c).access.sent ≡ n → (t : ℕ) → t < n
          → get_or (image (contender i c).body) t true ≡ get_or (image (contender j c).body) t true
      on zero z t h = absurd (omega arith)
      on (suc n) z t h = phase_on i j n z (sym (inv.in_phase i j r.sending q.sending).0 ∙ z) r.agreed q.agreed t h
  phase_hears i j (going r) (starting q) = absurd (nobody_starts x1 x2 c inv h1 h2 e i j r.sending r.agreed q)
  phase_hears i j (starting r) (going q) = absurd (nobody_starts x1 x2 c inv h1 h2 e j i q.sending q.agreed r)
  phase_hears i j (starting r) (starting q) = (omega arith, λ t h. absurd (omega arith))

  held_hears : (i j n : ℕ) → (contender_after_e x1 x2 e (contender i c)).access.sent ≡ suc (suc n)
      → SenderAt x1 x2 e (contender i c)
      → (contender_after_e x1 x2 e (contender j c)).access.count ≤ ending_ones (take (suc n) (image (contender_after_e x1 x2 e (contender i c)).body))
  held_hears i j n q (going r) = rw (body_after x1 x2 e (contender i c)) (heard_bound x1 x2 c inv e i j n (omega arith) r.agreed)
  held_hears i j n q (starting r) = absurd (omega arith)

  invariant_opportunity : (bit on : Bool) → Invariant x2 (step x1 x2 c (opportunity e bit on))
  invariant_opportunity bit on =
      let is = contender_hears x1 x2 e bit on c in
      record {
        sound = λ i. rw (is i) (sound_hears x1 x2 e (contender i c) (inv.sound i));
        in_phase = λ i j hi hj.
            rw (is i, is j)
            (phase_hears i j (sender x1 x2 e (contender i c) (inv.sound i) (rw (is i) at hi)) (sender x1 x2 e (contender j c) (inv.sound j) (rw (is j) at hj)));
        held_back = λ i j n q.
            let z : (contender_after_e x1 x2 e (contender i c)).access.sent ≡ suc (suc n) = rw (is i) at q in
            rw (is i, is j) (held_hears i j n z (sender x1 x2 e (contender i c) (inv.sound i) (omega arith)));
      }

all_fresh : (n j : ℕ) → get_or (replicate n fresh_contender) j fresh_contender ≡ fresh_contender
all_fresh zero j = refl
all_fresh (suc n) zero = refl
all_fresh (suc n) (suc j) = all_fresh n j

pub fresh_contender_lem : (n j : ℕ) → contender j (fresh_channel n) ≡ fresh_contender
unfolding contender fresh_channel
fresh_contender_lem n j = all_fresh n j

-- The invariant holds of a fresh channel ..
pub invariant_fresh : (x2 n : ℕ) → Invariant x2 (fresh_channel n)
invariant_fresh x2 n =
    record {
      sound = λ i. rw (fresh_contender_lem n i) (sound_fresh x2 fresh_contender refl);
      in_phase = λ i j hi hj. absurd (omega (arith, ap (λ (s : Contender). s.access.sent) (fresh_contender_lem n i)));
      held_back = λ i j m q. absurd (omega (arith, ap (λ (s : Contender). s.access.sent) (fresh_contender_lem n i)));
    }

module _ (x1 x2 : ℕ) (h1 : 8 ≤ x1) (h2 : x1 + 2 ≤ x2) where
  -- .. is kept by every action, whatever the E ..
  pub invariant_step : (c : Channel) (a : Action) → Invariant x2 c → Invariant x2 (step x1 x2 c a)
  invariant_step c (hand i k body) inv = invariant_hand x1 x2 c i k body inv
  invariant_step c (enter i) inv = invariant_enter x1 x2 c i inv
  invariant_step c (leave i) inv = invariant_leave x1 x2 c i inv
  invariant_step c clear inv = invariant_clear x1 x2 c inv
  invariant_step c (opportunity e bit on) inv = invariant_opportunity x1 x2 h1 h2 c inv e bit on

  pub invariant_after : (actions : List Action) (c : Channel) → Invariant x2 c → Invariant x2 (run x1 x2 c actions)
  unfolding run
  invariant_after [] c inv = inv
  invariant_after (a ∷ more) c inv = invariant_after more (step x1 x2 c a) (invariant_step c a inv)

  -- .. and so holds after every list of actions.
  pub invariant_run : (n : ℕ) (actions : List Action) → Invariant x2 (run x1 x2 (fresh_channel n) actions)
  invariant_run n actions = invariant_after actions (fresh_channel n) (invariant_fresh x2 n)
