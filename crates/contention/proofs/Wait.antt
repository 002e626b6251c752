-- The wait: "In class 1, if the stretch lasts that long, a frame so waiting is completed within (n + 1) times (L + 8) D
-- opportunities". What is left at most falls by one at each opportunity until the frame is completed. It is shown for both classes: a
-- class 2 frame has besides to let class 1 frames go first, however many there are.
use mathlib.Core.Bool.{Bool, true, false, ◌&&◌}
use mathlib.Core.Path.{◌≡◌, refl, sym, ap, ◌∙◌}
use mathlib.Core.List.{List}
use mathlib.Core.Logic.{◌⊎◌, inl, inr}
use Prim.Native.Nat.{ℕ, zero, suc, ◌+◌, ◌*◌, ◌≤◌, ◌<◌}
use native.Mathlib.Nat.{add-zero}
use native.Mathlib.Numerals.{add-one}
use native.Mathlib.Omega.{arith}
use lib.Dec.{eqb, leb}
use lib.ListN.{length}
use borrow.Author.Tests.{eqb-true, eqb-false, leb-true, leb-false}
use Rattle.test_lemmas.proofs.ByCases.{by_test}
use Rattle.dchannel.specs.Access.{low_of, threshold, count_after}
use Rattle.contention.specs.Channel.{Contender, Channel, Action, access_step_at, contender_after_e, run}
use Rattle.contention.specs.Stretch.{Stretch, onward, contender, Waits, Completes, how_many, active_count, ImagesAtMost}
use Rattle.contention.specs.Claims.{wait_bound, CompletedWithin, WaitEnds, InStretches}
use Rattle.contention.specs.Invariant.{Invariant}
use Rattle.dchannel.proofs.AccessLaws.{count_one, count_stays, count_some}
use Rattle.contention.proofs.Terminal.{Outcome, outcome, CompletedAt, completed, went_on, stopped, started, idled, outside, active_after, body_after, count_after_lem, level, level_least, level_most, level_threshold, threshold_low, threshold_of, low_stays, normal_stays, completed_low}
use Rattle.contention.proofs.InvariantKept.{and_true, SenderAt, sender, going, starting, Quiet, hears_count_up, length_hears}
use Rattle.contention.proofs.Trace.{how_many_le, how_many_lt, Anyone, anyone, somebody, nobody, onward_contender, Echo, echo_idle, echo_first, sender_kept, opp, many, invariant_at, invariant_past, quiet_at, echo_at, active_at}
use Rattle.contention.proofs.Waiting.{completes_zero, zero_counts_lem, waits_hears, waits_quiet, sending_count, idle_below, first_stays, low_quiet, goes_on, completion_ends}

both_true : (a b : Bool) → a ≡ true → b ≡ true → (a && b) ≡ true
both_true a b h l = rw (h, l)

second_false : (a b : Bool) → b ≡ false → (a && b) ≡ false
second_false true b h = h
second_false false b h = refl

-- in F7 and low in class k
abbrev pub is_low : ℕ → Contender → Bool
is_low k s = s.active && low_of k s.access

-- how many are
unfoldable pub lows : ℕ → Channel → ℕ
lows k c = how_many (is_low k) c.contenders

-- who may send before a terminal that waits in class k with its C not behind: one at the normal level in class k, and for class 2 one
-- with a class 1 frame
abbrev pub MayPrecede : ℕ → Contender → Type 0
MayPrecede k s = ((s.access.held ≡ k) × (low_of k s.access ≡ false)) ⊎ ((s.access.held ≡ 1) × (k ≡ 2))

level_one : (x1 x2 : ℕ) → level x1 x2 1 ≡ x1
unfolding level
level_one x1 x2 = refl

level_two : (x1 x2 : ℕ) → level x1 x2 2 ≡ x2
unfolding level
level_two x1 x2 = refl

-- a terminal that starts in class h where C is at most the level of class k may precede
precede_of : (x1 x2 k : ℕ) → x1 + 2 ≤ x2 → 1 ≤ k → k ≤ 2 → (h : ℕ) (s : Contender) → s.access.held ≡ h → 1 ≤ h → h ≤ 2
    → threshold x1 x2 h (low_of h s.access) ≤ s.access.count → s.access.count ≤ level x1 x2 k → MayPrecede k s
precede_of x1 x2 k h2 k1 k2 h s q l m reached below =
    by_test (eqb h k)
    (λ e. by_test (low_of k s.access)
    (λ low. absurd (omega (arith, threshold_of x1 x2 h k s.access true (eqb-true h k e) low, threshold_low x1 x2 k)))
    (λ low. inl (q ∙ eqb-true h k e, low)))
    (λ e. by_test (eqb k 2)
    (λ two. inr (omega (arith, eqb-true k 2 two, eqb-false h k e), eqb-true k 2 two))
    (λ two.
    let one : k ≡ 1 = omega (arith, eqb-false k 2 two) in
    let h-two : h ≡ 2 = omega (arith, eqb-false h k e) in
    absurd (omega (arith, level_threshold x1 x2 h (low_of h s.access), ap (level x1 x2) h-two, ap (level x1 x2) one, level_one x1 x2, level_two x1 x2))))

-- What is left at most, v, for terminal i that waits in class k with normal level x, with n terminals, f class 1 frames that may still
-- go before (0 for class 1) and images of at most L bits.
module _ (x k n f L i v : ℕ) (c : Channel) where
  -- nobody is sending, and one frame of any class may still go before: i's C may be behind
  pub record BehindIdle : Type 0 where
    pub more : ℕ
    pub rivals : n + f ≤ suc more
    pub idle : (j : ℕ) → (contender j c).access.sent ≡ 0
    pub left : x + (L + x) + L + more * (L + x) ≤ v + (contender i c).access.count
    pub left_least : 1 + (L + x) + L + more * (L + x) ≤ v

  -- that frame, or one that was under way, is being sent
  pub record BehindSending : Type 0 where
    pub more : ℕ
    pub rivals : n + f ≤ suc more
    pub who : ℕ
    pub sending : 1 ≤ (contender who c).access.sent
    pub left : L + 1 + x + L + more * (L + x) ≤ v + (contender who c).access.sent

  -- nobody is sending, and no C is ahead of i's
  pub record EvenIdle : Type 0 where
    pub more : ℕ
    pub rivals : n + f ≤ suc more + lows k c
    pub idle : (j : ℕ) → (contender j c).access.sent ≡ 0
    pub first : (j : ℕ) → (contender j c).access.count ≤ (contender i c).access.count
    pub below : (contender i c).access.count < x
    pub left : x + L + more * (L + x) ≤ v + (contender i c).access.count

  -- i is sending, or those that may precede it
  pub record EvenSending : Type 0 where
    pub more : ℕ
    pub rivals : n + f ≤ suc more + lows k c
    pub who : ℕ
    pub sending : 1 ≤ (contender who c).access.sent
    pub precede : (j : ℕ) → 1 ≤ (contender j c).access.sent → MayPrecede k (contender j c)
    pub left : L + 1 + more * (L + x) ≤ v + (contender who c).access.sent

  pub data Left : Type 0 where
    behind_idle : BehindIdle → Left
    behind_sending : BehindSending → Left
    even_idle : EvenIdle → Left
    even_sending : EvenSending → Left

-- something is left
pub left_some : (x2 x k n f L i : ℕ) (c : Channel) → Invariant x2 c → ImagesAtMost L c → Left x k n f L i 0 c → ⊥
left_some x2 x k n f L i c inv most (behind_idle r) = omega (arith, r.left_least)
left_some x2 x k n f L i c inv most (behind_sending r) = omega (arith, r.left, most r.who, (inv.sound r.who).sent_part)
left_some x2 x k n f L i c inv most (even_idle r) = omega (arith, r.left, r.below)
left_some x2 x k n f L i c inv most (even_sending r) = omega (arith, r.left, most r.who, (inv.sound r.who).sent_part)

-- ---- what is left falls by one

module _ (x1 x2 k : ℕ) (h1 : 8 ≤ x1) (h2 : x1 + 2 ≤ x2) (k1 : 1 ≤ k) (k2 : k ≤ 2) (c : Channel) (inv : Invariant x2 c) where
  -- a terminal after this E
  abbrev later : ℕ → Contender
  later m = contender_after_e x1 x2 c.heard_d (contender m c)

  onward_length : length (onward x1 x2 c).contenders ≡ length c.contenders
  unfolding onward
  onward_length = length_hears x1 x2 c.heard_d _ true c

  active_later : (j : ℕ) → (contender j c).active ≡ true → (later j).active ≡ true
  active_later j h = active_after x1 x2 c.heard_d (contender j c) ∙ h

  -- low terminals stay low while C does not pass the level
  low_now : ((j : ℕ) → (later j).access.count ≤ level x1 x2 k) → (j : ℕ) → is_low k (contender j c) ≡ true → is_low k (contender j (onward x1 x2 c)) ≡ true
  low_now most j h =
      let p = and_true (contender j c).active (low_of k (contender j c).access) h in
      rw (onward_contender x1 x2 c j)
      (both_true (later j).active (low_of k (later j).access) (active_later j p.0)
      (low_stays x1 x2 k c.heard_d (contender j c) k1 k2 p.0 p.1 (λ q. omega (arith, most j))))

  lows_kept : ((j : ℕ) → (later j).access.count ≤ level x1 x2 k) → lows k c ≤ lows k (onward x1 x2 c)
  unfolding lows contender
  lows_kept most = how_many_le (is_low k) (is_low k) c.contenders (onward x1 x2 c).contenders onward_length (low_now most)

  -- one more is low where a rival at the normal level completes a frame of the class
  lows_more : ((j : ℕ) → (later j).access.count ≤ level x1 x2 k) → (g : ℕ) → low_of k (contender g c).access ≡ false → (contender g c).access.held ≡ k
      → CompletedAt x1 x2 c.heard_d (contender g c) → suc (lows k c) ≤ lows k (onward x1 x2 c)
  unfolding lows contender
  lows_more most g normal held r =
      how_many_lt (is_low k) (is_low k) c.contenders (onward x1 x2 c).contenders onward_length (low_now most) refl g
      (second_false (contender g c).active (low_of k (contender g c).access) normal)
      (rw (onward_contender x1 x2 c g)
      (both_true (later g).active (low_of k (later g).access) (active_later g r.in_f7_lem)
      (completed_low x1 x2 k c.heard_d (contender g c) k1 k2 r.in_f7_lem (r.done_now ∙ held))))

-- a terminal at the normal level is not among the low ones
pub lows_others : (k : ℕ) (c : Channel) (i : ℕ) → Waits k i c → suc (lows k c) ≤ active_count c.contenders
unfolding lows contender
lows_others k c i w =
    how_many_lt (is_low k) (λ s. s.active) c.contenders c.contenders refl (λ j h. (and_true _ _ h).0) refl i
    (second_false (contender i c).active (low_of k (contender i c).access) w.normal) w.in_f7_lem

-- i waits at c and is not completed there; f' class 1 frames are left afterwards
module _ (x1 x2 k n L i : ℕ) (h1 : 8 ≤ x1) (h2 : x1 + 2 ≤ x2) (k1 : 1 ≤ k) (k2 : k ≤ 2) (f f' : ℕ) (fall : f' ≤ f)
    (c : Channel) (inv : Invariant x2 c) (w : Waits k i c) (w' : Waits k i (onward x1 x2 c)) where
  -- a terminal after this E, and the level
  abbrev then : ℕ → Contender
  then m = contender_after_e x1 x2 c.heard_d (contender m c)

  abbrev x : ℕ
  x = level x1 x2 k

  abbrev Now : ℕ → Type 0
  Now v = Left x k n f L i v c

  abbrev Next : ℕ → Type 0
  Next v = Left x k n f' L i v (onward x1 x2 c)

  -- the fields of a terminal afterwards
  sent_is : (j : ℕ) → (contender j (onward x1 x2 c)).access.sent ≡ (then j).access.sent
  sent_is j = ap (λ (s : Contender). s.access.sent) (onward_contender x1 x2 c j)

  count_is : (j : ℕ) → (contender j (onward x1 x2 c)).access.count ≡ (then j).access.count
  count_is j = ap (λ (s : Contender). s.access.count) (onward_contender x1 x2 c j)

  up_one : c.heard_d ≡ true → (then i).access.count ≡ count_after x2 true (contender i c).access.count
  up_one one = count_after_lem x1 x2 c.heard_d (contender i c) w.in_f7_lem ∙ ap (λ (e : Bool). count_after x2 e (contender i c).access.count) one

  -- at an E of 1 without a start, i's C goes up
  one_more : c.heard_d ≡ true → (contender i c).access.sent ≡ 0 → (then i).access.sent ≡ 0
      → ((then i).access.count ≡ suc (contender i c).access.count) × ((then i).access.count < x)
  one_more one q z =
      let short = idle_below x1 x2 c inv k i k1 w w' q z (outcome x1 x2 c.heard_d (contender i c)) in
      let up = up_one one in
      by_test (leb (contender i c).access.count x2)
      (λ l. (up ∙ (count_one x2 (contender i c).access.count (leb-true (contender i c).access.count x2 l) ∙ add-one _), short))
      (λ l. absurd (omega (arith, count_stays x2 (contender i c).access.count (omega (arith, leb-false (contender i c).access.count x2 l)), level_most x1 x2 k h2)))

  -- all C at 0 and nobody sending
  cleared_even : (v more : ℕ) → n + f' ≤ suc more + lows k (onward x1 x2 c) → c.heard_d ≡ false → ((j : ℕ) → (contender j (onward x1 x2 c)).access.sent ≡ 0)
      → x + L + more * (L + x) ≤ v → Next v
  cleared_even v more m zer z le =
      let zero-all : (j : ℕ) → (contender j (onward x1 x2 c)).access.count ≡ 0 = λ j. count_is j ∙ zero_counts_lem x1 x2 c inv zer j in
      even_idle
      (record {
        more = more;
        rivals = m;
        idle = z;
        first = λ j. omega (arith, zero-all j, zero-all i);
        below = omega (arith, zero-all i, level_least x1 x2 k h2);
        left = omega arith;
      })

  -- the first opportunity at which i waits, whatever was heard before it
  left_first : (v more : ℕ) → n + f' ≡ suc more → suc (suc more) * (L + x) ≤ suc v → Anyone (onward x1 x2 c) → Next v
  left_first v more m le (somebody j h) =
      behind_sending (record { more = more; rivals = omega arith; who = j; sending = h; left = omega (arith, level_least x1 x2 k h2) })
  left_first v more m le (nobody z) =
      by_test c.heard_d
      (λ one.
      let up : 1 ≤ (contender i (onward x1 x2 c)).access.count =
      omega (arith, count_is i, up_one one, count_some x2 (contender i c).access.count)
      in
      behind_idle (record { more = more; rivals = omega arith; idle = z; left = omega arith; left_least = omega (arith, level_least x1 x2 k h2) }))
      (λ zer. cleared_even v more (omega arith) zer z (omega (arith, level_least x1 x2 k h2)))

  -- afterwards E is the AND of the bits sent
  module _ (e : Echo c) (most : ImagesAtMost L c) where
    behind_idle_on : (v : ℕ) → BehindIdle x k n f L i (suc v) c → Anyone (onward x1 x2 c) → Next v
    behind_idle_on v r (somebody j h) =
        behind_sending (record { more = r.more; rivals = omega (arith, r.rivals); who = j; sending = h; left = omega (arith, r.left_least) })
    behind_idle_on v r (nobody z) =
        let up = one_more (echo_idle e r.idle) (r.idle i) (sym (sent_is i) ∙ z i) in
        behind_idle
        (record {
          more = r.more;
          rivals = omega (arith, r.rivals);
          idle = z;
          left = omega (arith, r.left, count_is i, up.0);
          left_least = omega (arith, r.left, up.0, up.1);
        })

    behind_sending_on : (v : ℕ) → BehindSending x k n f L i (suc v) c → Anyone (onward x1 x2 c) → Next v
    behind_sending_on v r (somebody j h) =
        let on = goes_on x1 x2 h1 h2 c inv e r.who j r.sending (omega (arith, sent_is j)) (sender x1 x2 c.heard_d (contender j c) (inv.sound j) (omega (arith, sent_is j))) in
        behind_sending (record { more = r.more; rivals = omega (arith, r.rivals); who = j; sending = h; left = omega (arith, r.left, on.0, sent_is j) })
    behind_sending_on v r (nobody z) =
        let p = completion_ends x1 x2 h1 h2 c inv e r.who r.sending (λ g. sym (sent_is g) ∙ z g) in
        cleared_even v r.more (omega (arith, r.rivals)) (completes_zero x1 x2 c inv p.0 p.1) z
        (omega (arith, r.left, p.2, most p.0, (inv.sound p.0).sent_part))

    -- whoever starts with no C ahead of i's may precede it
    starts_preceding : ((j : ℕ) → (then j).access.count ≤ x) → (j : ℕ) → (contender j c).access.sent ≡ 0 → SenderAt x1 x2 c.heard_d (contender j c) → MayPrecede k (then j)
    starts_preceding below j q (going r) = absurd (omega arith)
    starts_preceding below j q (starting r) =
        precede_of x1 x2 k h2 k1 k2 (contender j c).access.held (then j) r.held_now r.holds (inv.sound j).class_known r.reached (below j)

    even_idle_on : (v : ℕ) → EvenIdle x k n f L i (suc v) c → Anyone (onward x1 x2 c) → Next v
    even_idle_on v r a =
        let below : (j : ℕ) → (then j).access.count ≤ x =
        λ j. omega (arith, first_stays x1 x2 c inv i w.in_f7_lem r.first j, hears_count_up x1 x2 c.heard_d (contender i c), r.below)
        in
        let low = lows_kept x1 x2 k h1 h2 k1 k2 c inv below in
        go below low a
      where
        go : ((j : ℕ) → (then j).access.count ≤ x) → lows k c ≤ lows k (onward x1 x2 c) → Anyone (onward x1 x2 c) → Next v
        go below low (somebody j h) =
            even_sending
            (record {
              more = r.more;
              rivals = omega (arith, r.rivals);
              who = j;
              sending = h;
              precede = λ g s.
                  rw (onward_contender x1 x2 c g)
                  (starts_preceding below g (r.idle g) (sender x1 x2 c.heard_d (contender g c) (inv.sound g) (omega (arith, sent_is g))));
              left = omega (arith, r.left, r.below);
            })
        go below low (nobody z) =
            let up = one_more (echo_idle e r.idle) (r.idle i) (sym (sent_is i) ∙ z i) in
            even_idle
            (record {
              more = r.more;
              rivals = omega (arith, r.rivals);
              idle = z;
              first = λ j. omega (arith, first_stays x1 x2 c inv i w.in_f7_lem r.first j, count_is j, count_is i);
              below = omega (arith, count_is i, up.1);
              left = omega (arith, r.left, count_is i, up.0);
            })

    -- whoever goes on and could precede i still can
    goes_preceding : (j : ℕ) → 1 ≤ (contender j c).access.sent → MayPrecede k (contender j c) → SenderAt x1 x2 c.heard_d (contender j c) → MayPrecede k (then j)
    goes_preceding j h (inl p) (going r) =
        inl (r.held_now ∙ p.0, normal_stays x1 x2 k c.heard_d (contender j c) k1 k2 r.in_f7_lem p.1 (λ q. omega (arith, r.done_now)))
    goes_preceding j h (inr p) (going r) = inr (r.held_now ∙ p.0, p.1)
    goes_preceding j h (inl p) (starting r) = absurd (omega arith)
    goes_preceding j h (inr p) (starting r) = absurd (omega arith)

    -- a completed class 1 frame is one of the f, where they count
    module _ (spent : (g : ℕ) → CompletedAt x1 x2 c.heard_d (contender g c) → (contender g c).access.held ≡ 1 → k ≡ 2 → suc f' ≤ f)
        (bound : active_count (onward x1 x2 c).contenders ≤ n) where
      even_sending_on : (v : ℕ) → EvenSending x k n f L i (suc v) c → Anyone (onward x1 x2 c) → Next v
      even_sending_on v r a =
          let below : (j : ℕ) → (then j).access.count ≤ x =
          λ j. omega (arith, sending_count x1 x2 c inv r.who j r.sending (echo_first e r.who (inv.sound r.who)), level_least x1 x2 k h2)
          in
          go below (lows_kept x1 x2 k h1 h2 k1 k2 c inv below) a
        where
          gain : ((j : ℕ) → (then j).access.count ≤ x) → (g : ℕ) → CompletedAt x1 x2 c.heard_d (contender g c) → MayPrecede k (contender g c)
              → suc (lows k c + f') ≤ lows k (onward x1 x2 c) + f
          gain below g d (inl p) = omega (arith, lows_more x1 x2 k h1 h2 k1 k2 c inv below g p.1 p.0 d)
          gain below g d (inr p) = omega (arith, lows_kept x1 x2 k h1 h2 k1 k2 c inv below, spent g d p.0 p.1)

          close : (m g : ℕ) → n + f ≤ suc m + lows k c → L + 1 + m * (L + x) ≤ suc v + (contender g c).access.sent
              → suc (lows k c + f') ≤ lows k (onward x1 x2 c) + f → c.heard_d ≡ false
              → ((j : ℕ) → (contender j (onward x1 x2 c)).access.sent ≡ 0) → Next v
          close zero g m le more zer z = absurd (omega (arith, lows_others k (onward x1 x2 c) i w'))
          close (suc m') g m le more zer z = cleared_even v m' (omega arith) zer z (omega (arith, most g, (inv.sound g).sent_part))

          go : ((j : ℕ) → (then j).access.count ≤ x) → lows k c ≤ lows k (onward x1 x2 c) → Anyone (onward x1 x2 c) → Next v
          go below low (somebody j h) =
              let sender_of : (g : ℕ) → 1 ≤ (contender g (onward x1 x2 c)).access.sent → SenderAt x1 x2 c.heard_d (contender g c) =
              λ g s. sender x1 x2 c.heard_d (contender g c) (inv.sound g) (omega (arith, sent_is g))
              in
              let on : (g : ℕ) → 1 ≤ (contender g (onward x1 x2 c)).access.sent
              → ((then g).access.sent ≡ suc (contender r.who c).access.sent) × (1 ≤ (contender g c).access.sent) =
              λ g s. goes_on x1 x2 h1 h2 c inv e r.who g r.sending (omega (arith, sent_is g)) (sender_of g s)
              in
              even_sending
              (record {
                more = r.more;
                rivals = omega (arith, r.rivals);
                who = j;
                sending = h;
                precede = λ g s.
                    rw (onward_contender x1 x2 c g) (goes_preceding g (on g s).1 (r.precede g (on g s).1) (sender_of g s));
                left = omega (arith, r.left, (on j h).0, sent_is j);
              })
          go below low (nobody z) =
              let p = completion_ends x1 x2 h1 h2 c inv e r.who r.sending (λ g. sym (sent_is g) ∙ z g) in
              close r.more p.0 r.rivals (omega (arith, r.left, p.2))
              (gain below p.0 p.1 (r.precede p.0 p.1.sending)) (completes_zero x1 x2 c inv p.0 p.1) z

      -- what is left falls by one
      left_onward : (v : ℕ) → Now (suc v) → Next v
      left_onward v (behind_idle r) = behind_idle_on v r (anyone (onward x1 x2 c))
      left_onward v (behind_sending r) = behind_sending_on v r (anyone (onward x1 x2 c))
      left_onward v (even_idle r) = even_idle_on v r (anyone (onward x1 x2 c))
      left_onward v (even_sending r) = even_sending_on v r (anyone (onward x1 x2 c))

-- ---- hand-overs and entries into F7 between opportunities leave it as it is

lows_quiet : (k : ℕ) (c c' : Channel) → Quiet c c' → lows k c ≤ lows k c'
unfolding lows contender
lows_quiet k c c' q =
    how_many_le (is_low k) (is_low k) c.contenders c'.contenders q.as_many
    (λ j h.
    let p = and_true (contender j c).active (low_of k (contender j c).access) h in
    both_true (contender j c').active (low_of k (contender j c').access) ((q.each j).stays p.0)
    (low_quiet k (contender j c) (contender j c') (q.each j) ∙ p.1))

module _ (x1 x2 x k n f f' L i v : ℕ) (c c' : Channel) (inv : Invariant x2 c) (q : Quiet c c') (fall : f' ≤ f) where
  left_quiet : Left x k n f L i v c → Left x k n f' L i v c'
  left_quiet (behind_idle r) =
      behind_idle
      (record {
        more = r.more;
        rivals = omega (arith, r.rivals);
        idle = λ j. (q.each j).sent_same ∙ r.idle j;
        left = omega (arith, r.left, (q.each i).count_same);
        left_least = r.left_least;
      })
  left_quiet (behind_sending r) =
      behind_sending
      (record {
        more = r.more;
        rivals = omega (arith, r.rivals);
        who = r.who;
        sending = omega (arith, r.sending, (q.each r.who).sent_same);
        left = omega (arith, r.left, (q.each r.who).sent_same);
      })
  left_quiet (even_idle r) =
      even_idle
      (record {
        more = r.more;
        rivals = omega (arith, r.rivals, lows_quiet k c c' q);
        idle = λ j. (q.each j).sent_same ∙ r.idle j;
        first = λ j. omega (arith, r.first j, (q.each j).count_same, (q.each i).count_same);
        below = omega (arith, r.below, (q.each i).count_same);
        left = omega (arith, r.left, (q.each i).count_same);
      })
  left_quiet (even_sending r) =
      even_sending
      (record {
        more = r.more;
        rivals = omega (arith, r.rivals, lows_quiet k c c' q);
        who = r.who;
        sending = omega (arith, r.sending, (q.each r.who).sent_same);
        precede = λ j h.
            let h' : 1 ≤ (contender j c).access.sent = omega (arith, (q.each j).sent_same) in
            rw (sender_kept x1 x2 c c' inv q j h') (r.precede j h');
        left = omega (arith, r.left, (q.each r.who).sent_same);
      })

-- ---- along the stretch

module _ {x1 x2 : ℕ} {e : Bool} {s s' : Contender} {d : Bool} {done : ℕ} where
  -- no image grows
  length_later : Outcome x1 x2 e s s' d done → s'.access.length ≤ s.access.length
  length_later (completed r) = omega arith
  length_later (went_on r) = omega arith
  length_later (stopped r) = omega arith
  length_later (started r) = omega arith
  length_later (idled r) = omega arith
  length_later (outside r) = omega (arith, ap (λ (z : Contender). z.access.length) r.as_before)

images_onward : (x1 x2 L : ℕ) (c : Channel) → Invariant x2 c → ImagesAtMost L c → ImagesAtMost L (onward x1 x2 c)
images_onward x1 x2 L c inv most i =
    omega (
      arith,
      most i,
      ap (λ (z : Contender). z.access.length) (onward_contender x1 x2 c i),
      length_later (outcome x1 x2 c.heard_d (contender i c)),
    )

-- nobody enters F7 at an opportunity
active_onward : (x1 x2 : ℕ) (c : Channel) → active_count (onward x1 x2 c).contenders ≤ active_count c.contenders
unfolding contender onward
active_onward x1 x2 c =
    how_many_le (λ s. s.active) (λ s. s.active) (onward x1 x2 c).contenders c.contenders (sym (length_hears x1 x2 c.heard_d _ true c))
    (λ j h. sym (active_after x1 x2 c.heard_d (contender j c)) ∙ rw (onward_contender x1 x2 c j) at h)

module _ (x1 x2 : ℕ) (c : Channel) (during : List Action) (h1 : 8 ≤ x1) (h2 : x1 + 2 ≤ x2) (start : Invariant x2 c) (st : Stretch x1 x2 c during) where
  abbrev o : ℕ → Channel
  o t = opp x1 x2 c during h1 h2 start st t

  abbrev lasting : ℕ
  lasting = many x1 x2 c during h1 h2 start st

  inv_at : (t : ℕ) → t < lasting → Invariant x2 (o t)
  inv_at = invariant_at x1 x2 c during h1 h2 start st

  inv_onward : (t : ℕ) → t < lasting → Invariant x2 (onward x1 x2 (o t))
  inv_onward = invariant_past x1 x2 c during h1 h2 start st

  quiet : (t : ℕ) → suc t < lasting → Quiet (onward x1 x2 (o t)) (o (suc t))
  quiet = quiet_at x1 x2 c during h1 h2 start st

  echo : (t : ℕ) → suc t < lasting → Echo (o (suc t))
  echo = echo_at x1 x2 c during h1 h2 start st

  module _ (k i : ℕ) (k1 : 1 ≤ k) where
    -- i's body, while its frame is held
    body_at : (t : ℕ) → suc t < lasting → Waits k i (onward x1 x2 (o t)) → (contender i (o (suc t))).body ≡ (contender i (o t)).body
    body_at t h w =
        ap (λ (s : Contender). s.body) (((quiet t h).each i).kept (omega (arith, w.holds)))
        ∙ ap (λ (s : Contender). s.body) (onward_contender x1 x2 (o t) i)
        ∙ body_after x1 x2 (o t).heard_d (contender i (o t))

    -- what is completed after opportunity t is completed after it, counted from t
    earlier : (t v : ℕ) → (Completes x1 x2 k i (o t) → ⊥) → (contender i (o (suc t))).body ≡ (contender i (o t)).body
        → CompletedWithin x1 x2 c during k i (suc t) v → CompletedWithin x1 x2 c during k i t (suc v)
    earlier t v n b r =
        record {
          when = r.when;
          since = omega (arith, r.since);
          within = omega (arith, r.within);
          completed = r.completed;
          same_frame = λ u l m.
              by_test (eqb u t) (λ e. rw (eqb-true u t e) n)
              (λ e. r.same_frame u (omega (arith, eqb-false u t e)) m);
          same_body = r.same_body ∙ b;
        }

    here : (t v : ℕ) → 1 ≤ v → Completes x1 x2 k i (o t) → CompletedWithin x1 x2 c during k i t v
    here t v h r =
        record {
          when = t;
          since = omega arith;
          within = omega arith;
          completed = r;
          same_frame = λ u l m. absurd (omega arith);
          same_body = refl;
        }

    -- n terminals in F7, images of at most L bits, and how many class 1 frames are still to go before, at each opportunity
    module _ (k2 : k ≤ 2) (n L : ℕ) (actives : active_count (run x1 x2 c during).contenders ≤ n)
        (images : (t : ℕ) → t < lasting → ImagesAtMost L (o t)) (frames : ℕ → ℕ)
        (falls : (t : ℕ) → t < lasting → frames (suc t) ≤ frames t)
        (spent : (t g : ℕ) → t < lasting → Completes x1 x2 1 g (o t) → k ≡ 2 → suc (frames (suc t)) ≤ frames t) where
      active_bound : (t : ℕ) → t < lasting → active_count (onward x1 x2 (o t)).contenders ≤ n
      active_bound t h =
          omega (arith, active_onward x1 x2 (o t), active_at x1 x2 c during h1 h2 start st t h)

      fall_at : (v t : ℕ) → t < lasting → Echo (o t) → (w : Waits k i (o t)) → Waits k i (onward x1 x2 (o t))
          → Left (level x1 x2 k) k n (frames t) L i (suc v) (o t) → Left (level x1 x2 k) k n (frames (suc t)) L i v (onward x1 x2 (o t))
      fall_at v t h e w w' l =
          left_onward x1 x2 k n L i h1 h2 k1 k2 (frames t) (frames (suc t)) (falls t h) (o t) (inv_at t h) w w' e (images t h)
          (λ g d q two. spent t g h (record { in_f7_lem = d.in_f7_lem; done = d.done_now ∙ q }) two) (active_bound t h) v l

      waits_on : (t : ℕ) → t < lasting → Waits k i (o t) → ((access_step_at x1 x2 (o t).heard_d (contender i (o t))).done ≡ k → ⊥) → Waits k i (onward x1 x2 (o t))
      waits_on t h w n = waits_hears x1 x2 (o t) (inv_at t h) k i k1 w (λ d. n d.done)

      left_ends : (v t : ℕ) → t + v ≤ lasting → t < lasting → Echo (o t) → Waits k i (o t) → Left (level x1 x2 k) k n (frames t) L i v (o t)
          → CompletedWithin x1 x2 c during k i t v
      left_ends zero t h l e w r = absurd (left_some x2 (level x1 x2 k) k n (frames t) L i (o t) (inv_at t l) (images t l) r)
      left_ends (suc zero) t h l e w r =
          by_test (eqb (access_step_at x1 x2 (o t).heard_d (contender i (o t))).done k)
          (λ d. here t 1 (omega arith) (record { in_f7_lem = w.in_f7_lem; done = eqb-true _ _ d }))
          (λ d.
          absurd
          (left_some x2 (level x1 x2 k) k n (frames (suc t)) L i (onward x1 x2 (o t)) (inv_onward t l) (images_onward x1 x2 L (o t) (inv_at t l) (images t l))
          (fall_at 0 t l e w (waits_on t l w (eqb-false _ _ d)) r)))
      left_ends (suc (suc v)) t h l e w r =
          by_test (eqb (access_step_at x1 x2 (o t).heard_d (contender i (o t))).done k)
          (λ d. here t (suc (suc v)) (omega arith) (record { in_f7_lem = w.in_f7_lem; done = eqb-true _ _ d }))
          (λ d.
          let w' = waits_on t l w (eqb-false _ _ d) in
          let m : suc t < lasting = omega arith in
          earlier t (suc v) (λ z. eqb-false _ _ d z.done) (body_at t m w')
          (left_ends (suc v) (suc t) (omega arith) m (echo t m) (waits_quiet k i (onward x1 x2 (o t)) (o (suc t)) k1 (quiet t m) w')
          (left_quiet x1 x2 (level x1 x2 k) k n (frames (suc t)) (frames (suc t)) L i (suc v) (onward x1 x2 (o t)) (o (suc t)) (inv_onward t l) (quiet t m) (omega arith)
          (fall_at (suc v) t l e w w' r))))

      within : (v more ones p : ℕ) → frames p ≤ ones → Waits k i (o p) → n + ones ≡ suc more → suc (suc more) * (L + level x1 x2 k) ≤ suc (suc v)
          → p + suc (suc v) ≤ lasting → CompletedWithin x1 x2 c during k i p (suc (suc v))
      within v more ones p fr w m le len =
          let l : p < lasting = omega arith in
          let s : suc p < lasting = omega arith in
          by_test (eqb (access_step_at x1 x2 (o p).heard_d (contender i (o p))).done k)
          (λ d. here p (suc (suc v)) (omega arith) (record { in_f7_lem = w.in_f7_lem; done = eqb-true _ _ d }))
          (λ d.
          let w' = waits_on p l w (eqb-false _ _ d) in
          earlier p (suc v) (λ z. eqb-false _ _ d z.done) (body_at p s w')
          (left_ends (suc v) (suc p) (omega arith) s (echo p s) (waits_quiet k i (onward x1 x2 (o p)) (o (suc p)) k1 (quiet p s) w')
          (left_quiet x1 x2 (level x1 x2 k) k n ones (frames (suc p)) L i (suc v) (onward x1 x2 (o p)) (o (suc p)) (inv_onward p l) (quiet p s)
          (omega (arith, falls p l))
          (left_first x1 x2 k n L i h1 h2 k1 k2 ones ones (omega arith) (o p) (inv_at p l) w w' (suc v) more m le (anyone (onward x1 x2 (o p)))))))

      -- a frame that waits in class k is completed in time
      pub wait_ends_within : (ones p : ℕ) → frames p ≤ ones → Waits k i (o p) → p + wait_bound (n + ones) L (level x1 x2 k) ≤ lasting
          → CompletedWithin x1 x2 c during k i p (wait_bound (n + ones) L (level x1 x2 k))
      wait_ends_within ones p fr w len = go (wait_bound (n + ones) L (level x1 x2 k)) refl (n + ones) refl
        where
          some_active : p < lasting → 1 ≤ n
          some_active h =
              omega (arith, lows_others k (o p) i w, active_at x1 x2 c during h1 h2 start st p h)

          go : (b : ℕ) → wait_bound (n + ones) L (level x1 x2 k) ≡ b → (s : ℕ) → n + ones ≡ s
              → CompletedWithin x1 x2 c during k i p (wait_bound (n + ones) L (level x1 x2 k))
          go zero q s z = absurd (omega (arith, level_least x1 x2 k h2))
          go (suc zero) q s z = absurd (omega (arith, level_least x1 x2 k h2))
          go (suc (suc v)) q zero z = absurd (omega (arith, some_active (omega arith)))
          go (suc (suc v)) q (suc more) z =
              let sum : n + ones + 1 ≡ suc (suc more) = omega arith in
              rw q (within v more ones p fr w z (omega (arith, ap (λ (a : ℕ). a * (L + level x1 x2 k)) sum)) (omega arith))

-- "In class 1, if the stretch lasts that long, a frame so waiting is completed within (n + 1) times (L + 8) D opportunities, counted
-- from the first of the stretch at which it so waits"
pub wait_ends : InStretches WaitEnds
unfolding level
wait_ends x1 x2 c during h1 h2 start st n L i p actives images w len =
    rw add-zero at
    (wait_ends_within x1 x2 c during h1 h2 start st 1 i (omega arith) (omega arith) n L actives images (λ _. 0) (λ _ _. omega arith)
    (λ _ _ _ _ two. absurd (omega arith)) 0 p (omega arith) w (rw add-zero len))
