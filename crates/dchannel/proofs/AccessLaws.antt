-- The sentences of document 01, "D access (6.1)", about one terminal's access, each a lemma over every record, for normal levels x1
-- of class 1 and x2 of class 2.
use mathlib.Core.Bool.{Bool, true, false, cond, true≢false, beq}
use mathlib.Core.Path.{◌≡◌, refl, sym, ap, ◌∙◌, subst}
use mathlib.Core.Logic.{◌↔◌, ◌⊎◌, inl, inr}
use mathlib.Core.List.{List, [], ◌∷◌, ◌++◌}
use Prim.Native.Nat.{ℕ, ◌+◌, ◌≤◌, ◌<◌}
use native.Mathlib.Omega.{arith}
use native.Mathlib.Numerals.{add-one}
use lib.Dec.{ltb, leb, eqb}
use lib.ListN.{length, get_or, take, replicate, length-append}
use lib.Seq.{get_or_at, append_snoc, take-suc}
use borrow.Author.Tests.{ltb-true, ltb-false, leb-true, leb-false, eqb-true, eqb-false, lt-ltb, le-ltb, le-leb, lt-leb, eq-eqb, ne_eqb, not-true}
use Rattle.hdlc.specs.Bits.{same_bit}
use Rattle.hdlc.specs.Image.{image, shortest_image, longest_image, IsBody}
use Rattle.dchannel.specs.Access.{normal1, normal2, entered, count_after, low_after, after_e, sending, low_of, threshold, may_start, sends_next, stops, completes, idles, access_step}
use Rattle.dchannel.specs.AtRest.{at_rest}
use Rattle.dchannel.specs.Handing.{taken_up, left}
use Rattle.dchannel.specs.Calls.{class_number, is_image_length, handed}
use Rattle.hdlc.specs.Ones.{ending_ones}
use Rattle.test_lemmas.proofs.ByCases.{by_test, both}
use Rattle.test_lemmas.proofs.Operators.{and_both}
use Rattle.hdlc.proofs.OnesLaws.{ending_one}
use Rattle.hdlc.proofs.ImageLaws.{length_image, image_least, image_most}
use Rattle.dchannel.specs.declared.access.Access.{Access}
use Rattle.dchannel.specs.declared.access.Class.{Class}
use Rattle.dchannel.specs.declared.access.AccessStep.{AccessStep}

pub same_refl : (b : Bool) → same_bit b b ≡ true
same_refl true = refl
same_refl false = refl

-- Rattle's `a == b`
pub same_beq : (a b : Bool) → same_bit a b ≡ beq a b
same_beq true true = refl
same_beq true false = refl
same_beq false true = refl
same_beq false false = refl

pub same_equal : (b c : Bool) → same_bit b c ≡ true → b ≡ c
same_equal true c e = sym e
same_equal false true e = e
same_equal false false e = refl

pub same_differ : (b c : Bool) → same_bit b c ≡ false → b ≡ c → ⊥
same_differ b c e q = true≢false (sym (same_refl c) ∙ subst (λ (x : Bool). same_bit x c ≡ false) q e)

pub differ_same : (b c : Bool) → (b ≡ c → ⊥) → same_bit b c ≡ false
differ_same true true d = absurd (d refl)
differ_same true false d = refl
differ_same false true d = refl
differ_same false false d = absurd (d refl)

-- The five ways of an opportunity, with what decides between them
module _ (x1 x2 : ℕ) (e next : Bool) (a : Access) where
  pub goes_on : 0 < a.sent → e ≡ a.last → a.sent < a.length → access_step x1 x2 e next a ≡ sends_next next (after_e x1 x2 e a)
  unfolding access_step after_e
  goes_on s q l = rw (lt-ltb 0 a.sent s, q, same_refl a.last, lt-leb a.length a.sent l)

  pub completes_it : 0 < a.sent → e ≡ a.last → a.length ≤ a.sent → access_step x1 x2 e next a ≡ completes (after_e x1 x2 e a)
  unfolding access_step after_e
  completes_it s q l = rw (lt-ltb 0 a.sent s, q, same_refl a.last, le-leb a.length a.sent l)

  pub stops_it : 0 < a.sent → (e ≡ a.last → ⊥) → access_step x1 x2 e next a ≡ stops (after_e x1 x2 e a)
  unfolding access_step after_e
  stops_it s d = rw (lt-ltb 0 a.sent s, differ_same e a.last d)

  pub starts_it : a.sent ≡ 0 → may_start x1 x2 (after_e x1 x2 e a) ≡ true → access_step x1 x2 e next a ≡ sends_next next (after_e x1 x2 e a)
  unfolding access_step
  starts_it s m = rw (le-ltb 0 a.sent (omega arith), m)

  pub idles_it : a.sent ≡ 0 → may_start x1 x2 (after_e x1 x2 e a) ≡ false → access_step x1 x2 e next a ≡ idles (after_e x1 x2 e a)
  unfolding access_step
  idles_it s m = rw (le-ltb 0 a.sent (omega arith), m)

  -- every property of an opportunity, by these ways
  pub by_ways {ℓ} : (P : AccessStep → Type ℓ)
      → (0 < a.sent → e ≡ a.last → a.sent < a.length → P (sends_next next (after_e x1 x2 e a)))
      → (0 < a.sent → e ≡ a.last → a.length ≤ a.sent → P (completes (after_e x1 x2 e a)))
      → (0 < a.sent → (e ≡ a.last → ⊥) → P (stops (after_e x1 x2 e a)))
      → (a.sent ≡ 0 → may_start x1 x2 (after_e x1 x2 e a) ≡ true → P (sends_next next (after_e x1 x2 e a)))
      → (a.sent ≡ 0 → may_start x1 x2 (after_e x1 x2 e a) ≡ false → P (idles (after_e x1 x2 e a)))
      → P (access_step x1 x2 e next a)
  by_ways P go complete stop start idle =
      by_test (sending a)
      (λ s.
      let under : 0 < a.sent = ltb-true 0 a.sent s in
      by_test (same_bit e a.last)
      (λ q.
      let agrees : e ≡ a.last = same_equal e a.last q in
      by_test (leb a.length a.sent)
      (λ l. let all : a.length ≤ a.sent = leb-true a.length a.sent l in rw (completes_it under agrees all) (complete under agrees all))
      (λ l. let some : a.sent < a.length = leb-false a.length a.sent l in rw (goes_on under agrees some) (go under agrees some)))
      (λ q. rw (stops_it under (same_differ e a.last q)) (stop under (same_differ e a.last q))))
      (λ s.
      let none : a.sent ≡ 0 = omega (arith, ltb-false 0 a.sent s) in
      by_test (may_start x1 x2 (after_e x1 x2 e a)) (λ m. rw (starts_it none m) (start none m)) (λ m. rw (idles_it none m) (idle none m)))

-- The next bit. A frame that may start is held, and E changes neither the frame nor what has left of it
pub may_held : (x1 x2 : ℕ) (a : Access) → may_start x1 x2 a ≡ true → a.held ≡ 0 → ⊥
unfolding may_start
may_held x1 x2 a m z = true≢false (sym m ∙ rw z)

pub after_held : (x1 x2 : ℕ) (e : Bool) (a : Access) → (after_e x1 x2 e a).held ≡ a.held
unfolding after_e
after_held x1 x2 e a = refl

-- whether a bit of the image leaves at the opportunity with this E
unfoldable pub leaves_at : ℕ → ℕ → Bool → Access → Bool
leaves_at x1 x2 e a = cond (sending a) (cond (same_bit e a.last) (ltb a.sent a.length) false) (may_start x1 x2 (after_e x1 x2 e a))

-- a bit leaves exactly where `leaves_at` says so, and then the opportunity is that of the next bit ..
pub access_step_leaves : (x1 x2 : ℕ) (e next : Bool) (a : Access) → leaves_at x1 x2 e a ≡ true
    → access_step x1 x2 e next a ≡ sends_next next (after_e x1 x2 e a)
unfolding leaves_at
access_step_leaves x1 x2 e next a =
    by_ways x1 x2 e next a (λ t. leaves_at x1 x2 e a ≡ true → t ≡ sends_next next (after_e x1 x2 e a)) (λ s q l h. refl)
    (λ s q l h. absurd (true≢false (sym h ∙ rw (lt-ltb 0 a.sent s, q, same_refl a.last, le-ltb a.sent a.length l))))
    (λ s d h. absurd (true≢false (sym h ∙ rw (lt-ltb 0 a.sent s, differ_same e a.last d))))
    (λ s m h. refl)
    (λ s m h. absurd (true≢false (sym h ∙ rw (le-ltb 0 a.sent (omega arith), m))))

-- .. elsewhere a sending under way ends, and a terminal that was not sending stays so ..
module _ (x1 x2 : ℕ) (e next : Bool) (a : Access) (h : leaves_at x1 x2 e a ≡ false) where
  pub access_step_ends : 0 < a.sent → access_step x1 x2 e next a ≡ cond (same_bit e a.last) (completes (after_e x1 x2 e a)) (stops (after_e x1 x2 e a))
  unfolding leaves_at
  access_step_ends s =
      by_test (same_bit e a.last)
      (λ q. rw q (completes_it x1 x2 e next a s (same_equal e a.last q) (ltb-false a.sent a.length (rw (lt-ltb 0 a.sent s, q) at h))))
      (λ q. rw q (stops_it x1 x2 e next a s (same_differ e a.last q)))

  pub access_step_idles : a.sent ≡ 0 → access_step x1 x2 e next a ≡ idles (after_e x1 x2 e a)
  unfolding leaves_at
  access_step_idles s = idles_it x1 x2 e next a s (rw (le-ltb 0 a.sent (omega arith)) at h)

-- .. and takes no notice of the next bit
pub access_step_silent : (x1 x2 : ℕ) (e n m : Bool) (a : Access) → leaves_at x1 x2 e a ≡ false → access_step x1 x2 e n a ≡ access_step x1 x2 e m a
unfolding leaves_at
access_step_silent x1 x2 e n m a =
    by_ways x1 x2 e n a (λ t. leaves_at x1 x2 e a ≡ false → t ≡ access_step x1 x2 e m a)
    (λ s q l h. absurd (true≢false (rw (lt-ltb 0 a.sent s, q, same_refl a.last, lt-ltb a.sent a.length l) at h)))
    (λ s q l h. sym (completes_it x1 x2 e m a s q l)) (λ s d h. sym (stops_it x1 x2 e m a s d))
    (λ s u h. absurd (true≢false (rw (le-ltb 0 a.sent (omega arith), u) at h))) (λ s u h. sym (idles_it x1 x2 e m a s u))

-- where a held frame has a bit to send, a bit that leaves is one of the image ..
pub leaves_room : (x1 x2 : ℕ) (e : Bool) (a : Access) → ((a.held ≡ 0 → ⊥) → 1 ≤ a.length) → leaves_at x1 x2 e a ≡ true → a.sent < a.length
unfolding leaves_at
leaves_room x1 x2 e a room h =
    by_test (sending a)
    (λ s. ltb-true a.sent a.length (both (same_bit e a.last) (ltb a.sent a.length) (rw s at h)).1)
    (λ s.
    let some : 1 ≤ a.length = room (λ z. may_held x1 x2 (after_e x1 x2 e a) (rw s at h) (after_held x1 x2 e a ∙ z)) in
    omega (arith, ltb-false 0 a.sent s))

-- .. so that two next bits that agree wherever the image has one give the same opportunity
pub access_step_next : (x1 x2 : ℕ) (e n m : Bool) (a : Access) → ((a.held ≡ 0 → ⊥) → 1 ≤ a.length) → (a.sent < a.length → n ≡ m)
    → access_step x1 x2 e n a ≡ access_step x1 x2 e m a
access_step_next x1 x2 e n m a room same =
    by_test (leaves_at x1 x2 e a) (λ t. rw (same (leaves_room x1 x2 e a room t))) (λ t. access_step_silent x1 x2 e n m a t)

-- C: "A terminal in F7 counts running 1s of E as C"; it "need not pass 11", x2 + 1
pub count_zero : (x2 c : ℕ) → count_after x2 false c ≡ 0
unfolding count_after
count_zero x2 c = refl

pub count_one : (x2 c : ℕ) → c ≤ x2 → count_after x2 true c ≡ c + 1
unfolding count_after
count_one x2 c h = rw (lt-ltb c (x2 + 1) (omega arith))

pub count_stays : (x2 c : ℕ) → x2 + 1 ≤ c → count_after x2 true c ≡ x2 + 1
unfolding count_after
count_stays x2 c h = rw (le-ltb c (x2 + 1) h)

pub count_most : (x2 : ℕ) (e : Bool) (c : ℕ) → count_after x2 e c ≤ x2 + 1
unfolding count_after
count_most x2 false c = omega arith
count_most x2 true c =
    by_test (ltb c (x2 + 1)) (λ t. rw t (omega (arith, ltb-true c (x2 + 1) t))) (λ t. rw t (omega arith))

pub count_up : (x2 : ℕ) (e : Bool) (c : ℕ) → count_after x2 e c ≤ c + 1
unfolding count_after
count_up x2 false c = omega arith
count_up x2 true c =
    by_test (ltb c (x2 + 1)) (λ t. rw t (omega arith)) (λ t. rw t (omega (arith, ltb-false c (x2 + 1) t)))

pub count_some : (x2 c : ℕ) → 1 ≤ count_after x2 true c
unfolding count_after
count_some x2 c = by_test (ltb c (x2 + 1)) (λ t. rw t (omega arith)) (λ t. rw t (omega arith))

-- of two terminals that hear the same E, the one that is behind stays behind or draws level
pub count_mono : (x2 : ℕ) (e : Bool) (b c : ℕ) → b ≤ c → count_after x2 e b ≤ count_after x2 e c
count_mono x2 false b c h = omega (arith, count_zero x2 b)
count_mono x2 true b c h =
    by_test (leb c x2)
    (λ t. let l : c ≤ x2 = leb-true c x2 t in omega (arith, count_one x2 b (omega arith), count_one x2 c l))
    (λ t. let l : x2 < c = leb-false c x2 t in omega (arith, count_most x2 true b, count_stays x2 c (omega arith)))

count_bit : (x2 : ℕ) (bs : List Bool) (e : Bool) (c : ℕ) → c ≤ ending_ones bs → count_after x2 e c ≤ ending_ones (bs ++ (e ∷ []))
count_bit x2 bs true c h = omega (arith, count_up x2 true c, ending_one bs)
count_bit x2 bs false c h = omega (arith, count_zero x2 c)

-- a C that is at most the 1s that end what has been heard stays so
pub count_ending : (x2 : ℕ) (bits : List Bool) (s c : ℕ) → s < length bits → c ≤ ending_ones (take s bits)
    → count_after x2 (get_or bits s true) c ≤ ending_ones (take (s + 1) bits)
count_ending x2 bits s c l h = rw (add-one s, take-suc bits s true l) (count_bit x2 (take s bits) (get_or bits s true) c h)

-- C is "0 on entering F7"; the frame and the levels stay
pub entering : (a : Access)
    → ((entered a).count ≡ 0) × ((entered a).held ≡ a.held) × ((entered a).low1 ≡ a.low1) × ((entered a).low2 ≡ a.low2)
unfolding entered
entering a = (refl, refl, refl, refl)

-- whatever the terminal does, C is the one that E leaves: it runs while sending too, and neither a stop nor a completion touches it
pub access_step_count : (x1 x2 : ℕ) (e next : Bool) (a : Access) → (access_step x1 x2 e next a).access.count ≡ count_after x2 e a.count
unfolding sends_next completes stops idles after_e
access_step_count x1 x2 e next a =
    by_ways x1 x2 e next a (λ t. t.access.count ≡ count_after x2 e a.count) (λ s q l. refl) (λ s q l. refl) (λ s d. refl) (λ s m. refl)
    (λ s m. refl)

-- The levels: a low one "returns to normal when C equals the low value" ..
pub level_returns : (x c : ℕ) (low : Bool) → c ≡ x + 1 → low_after x c low ≡ false
unfolding low_after
level_returns x c low h = rw (eq-eqb c (x + 1) h)

-- .. and only then
pub level_stays : (x c : ℕ) (low : Bool) → (c ≡ x + 1 → ⊥) → low_after x c low ≡ low
unfolding low_after
level_stays x c low h = rw (ne_eqb c (x + 1) h)

pub level_normal : (x c : ℕ) → low_after x c false ≡ false
unfolding low_after
level_normal x c = by_test (eqb c (x + 1)) (λ t. rw t) (λ t. rw t)

pub level_returns_only : (x c : ℕ) → low_after x c true ≡ false → c ≡ x + 1
level_returns_only x c h =
    by_test (eqb c (x + 1)) (λ t. eqb-true c (x + 1) t)
    (λ t. absurd (true≢false (sym (level_stays x c true (eqb-false c (x + 1) t)) ∙ h)))

-- both levels after an opportunity: they follow C, but for a completed class, which goes low
pub access_step_low1 : (x1 x2 : ℕ) (e next : Bool) (a : Access)
    → (access_step x1 x2 e next a).access.low1 ≡ cond (eqb (access_step x1 x2 e next a).done 1) true (low_after x1 (count_after x2 e a.count) a.low1)
unfolding sends_next completes stops idles after_e
access_step_low1 x1 x2 e next a =
    by_ways x1 x2 e next a (λ t. t.access.low1 ≡ cond (eqb t.done 1) true (low_after x1 (count_after x2 e a.count) a.low1))
    (λ s q l. refl) (λ s q l. refl) (λ s d. refl) (λ s m. refl) (λ s m. refl)

pub access_step_low2 : (x1 x2 : ℕ) (e next : Bool) (a : Access)
    → (access_step x1 x2 e next a).access.low2 ≡ cond (eqb (access_step x1 x2 e next a).done 2) true (low_after x2 (count_after x2 e a.count) a.low2)
unfolding sends_next completes stops idles after_e
access_step_low2 x1 x2 e next a =
    by_ways x1 x2 e next a (λ t. t.access.low2 ≡ cond (eqb t.done 2) true (low_after x2 (count_after x2 e a.count) a.low2))
    (λ s q l. refl) (λ s q l. refl) (λ s d. refl) (λ s m. refl) (λ s m. refl)

-- D is 1 unless a bit is sent, and then it is the image's bit
pub access_step_d : (x1 x2 : ℕ) (e next : Bool) (a : Access) → (access_step x1 x2 e next a).d ≡ cond (sending (access_step x1 x2 e next a).access) next true
unfolding sends_next completes stops idles after_e
access_step_d x1 x2 e next a =
    by_ways x1 x2 e next a (λ t. t.d ≡ cond (sending t.access) next true) (λ s q l. rw (lt-ltb 0 (a.sent + 1) (omega arith))) (λ s q l. refl)
    (λ s d. refl) (λ s m. rw (lt-ltb 0 (a.sent + 1) (omega arith))) (λ s m. rw s)

-- while it sends, the bit that left last is remembered for its echo
pub access_step_last : (x1 x2 : ℕ) (e next : Bool) (a : Access) → 0 < (access_step x1 x2 e next a).access.sent
    → (access_step x1 x2 e next a).access.last ≡ (access_step x1 x2 e next a).d
unfolding sends_next completes stops idles after_e
access_step_last x1 x2 e next a =
    by_ways x1 x2 e next a (λ t. 0 < t.access.sent → t.access.last ≡ t.d) (λ s q l h. refl) (λ s q l h. refl) (λ s d h. refl)
    (λ s m h. refl) (λ s m h. absurd (omega arith))

-- A start. The level may be taken as E comes, or after it: at C equal to the low value either lets the terminal start
low_passes : (x c : ℕ) (low : Bool) → c ≡ x + 1 → leb (x + cond low 1 0) c ≡ true
low_passes x c true h = le-leb (x + 1) c (omega arith)
low_passes x c false h = le-leb (x + 0) c (omega arith)

same_threshold : (x c : ℕ) (low : Bool) → leb (x + cond (low_after x c low) 1 0) c ≡ leb (x + cond low 1 0) c
same_threshold x c low =
    by_test (eqb c (x + 1))
    (λ t. low_passes x c (low_after x c low) (eqb-true c (x + 1) t) ∙ sym (low_passes x c low (eqb-true c (x + 1) t)))
    (λ t. rw (level_stays x c low (eqb-false c (x + 1) t)))

pub may_start_lem : (x1 x2 : ℕ) (e : Bool) (a : Access)
    → may_start x1 x2 (after_e x1 x2 e a)
    ≡ cond (eqb a.held 0) false (leb (threshold x1 x2 a.held (low_of a.held a)) (count_after x2 e a.count))
unfolding may_start after_e threshold low_of
may_start_lem x1 x2 e a =
    by_test (eqb a.held 1) (λ t. rw (t, same_threshold x1 (count_after x2 e a.count) a.low1))
    (λ t. rw (t, same_threshold x2 (count_after x2 e a.count) a.low2))

-- what a start needs: no sending as E comes, a frame, and C, after E, at or above the threshold of its class at its level
pub record Ready (x1 x2 : ℕ) (e : Bool) (a : Access) : Type 0 where
  pub free : a.sent ≡ 0
  pub holds : a.held ≡ 0 → ⊥
  pub reached : threshold x1 x2 a.held (low_of a.held a) ≤ count_after x2 e a.count

-- a start: the first bit leaves
abbrev pub Starts : ℕ → ℕ → Bool → Bool → Access → Type 0
Starts x1 x2 e next a = (a.sent ≡ 0) × ((access_step x1 x2 e next a).access.sent ≡ 1)

pub ready_may : (x1 x2 : ℕ) (e : Bool) (a : Access) → Ready x1 x2 e a → may_start x1 x2 (after_e x1 x2 e a) ≡ true
ready_may x1 x2 e a r =
    may_start_lem x1 x2 e a
    ∙ rw (
      ne_eqb a.held 0 r.holds,
      le-leb (threshold x1 x2 a.held (low_of a.held a)) (count_after x2 e a.count) r.reached,
    )

pub may_ready : (x1 x2 : ℕ) (e : Bool) (a : Access) → a.sent ≡ 0 → may_start x1 x2 (after_e x1 x2 e a) ≡ true → Ready x1 x2 e a
may_ready x1 x2 e a s m =
    let n : ℕ = threshold x1 x2 a.held (low_of a.held a) in
    let c : ℕ = count_after x2 e a.count in
    let q : cond (eqb a.held 0) false (leb n c) ≡ true = sym (may_start_lem x1 x2 e a) ∙ m in
    by_test (eqb a.held 0) (λ t. absurd (true≢false (sym q ∙ rw t)))
    (λ t. record { free = s; holds = eqb-false a.held 0 t; reached = leb-true n c (rw t at q) })

pub start_needs : (x1 x2 : ℕ) (e next : Bool) (a : Access) → Starts x1 x2 e next a → Ready x1 x2 e a
unfolding idles after_e
start_needs x1 x2 e next a s =
    by_test (may_start x1 x2 (after_e x1 x2 e a)) (λ m. may_ready x1 x2 e a s.0 m)
    (λ m. let z : a.sent ≡ 1 = rw (idles_it x1 x2 e next a s.0 m) at s.1 in absurd (omega (arith, s.0)))

pub start_happens : (x1 x2 : ℕ) (e next : Bool) (a : Access) → Ready x1 x2 e a → Starts x1 x2 e next a
unfolding sends_next after_e
start_happens x1 x2 e next a r = (r.free, rw (starts_it x1 x2 e next a r.free (ready_may x1 x2 e a r)) (omega (arith, r.free)))

-- the thresholds: x1 and x2, and one more at the low level
pub threshold_class1 : (x1 x2 : ℕ) (low : Bool) → threshold x1 x2 1 low ≡ x1 + cond low 1 0
unfolding threshold
threshold_class1 x1 x2 low = refl

pub threshold_class2 : (x1 x2 : ℕ) (low : Bool) → threshold x1 x2 2 low ≡ x2 + cond low 1 0
unfolding threshold
threshold_class2 x1 x2 low = refl

pub threshold_least : (x1 x2 k : ℕ) (low : Bool) → x1 ≤ x2 → x1 ≤ threshold x1 x2 k low
unfolding threshold
threshold_least x1 x2 k low h = by_test (eqb k 1) (λ t. rw t (omega arith)) (λ t. rw t (omega arith))

-- nobody starts before C has reached x1
pub start_count : (x1 x2 : ℕ) (e next : Bool) (a : Access) → x1 ≤ x2 → Starts x1 x2 e next a → x1 ≤ count_after x2 e a.count
start_count x1 x2 e next a h s =
    omega (arith, (start_needs x1 x2 e next a s).reached, threshold_least x1 x2 a.held (low_of a.held a) h)

-- "It starts when C has reached 8 (class 1) or 10 (class 2); at the low level 9 or 11": at x1 or x2, at the low level at one more
pub start_at : (x1 x2 : ℕ) (e next : Bool) (a : Access) (n : ℕ) → threshold x1 x2 a.held (low_of a.held a) ≡ n → a.sent ≡ 0
    → (a.held ≡ 0 → ⊥) → Starts x1 x2 e next a ↔ n ≤ count_after x2 e a.count
start_at x1 x2 e next a n t s h =
    (λ w. rw t at (start_needs x1 x2 e next a w).reached, λ w. start_happens x1 x2 e next a (record { free = s; holds = h; reached = rw t w }))

pub class1_normal : (x1 x2 : ℕ) (e next : Bool) (a : Access) → a.sent ≡ 0 → a.held ≡ 1 → a.low1 ≡ false
    → Starts x1 x2 e next a ↔ x1 ≤ count_after x2 e a.count
unfolding threshold low_of
class1_normal x1 x2 e next a s h l = start_at x1 x2 e next a x1 (rw (h, l) (omega arith)) s (λ z. omega arith)

pub class1_low : (x1 x2 : ℕ) (e next : Bool) (a : Access) → a.sent ≡ 0 → a.held ≡ 1 → a.low1 ≡ true
    → Starts x1 x2 e next a ↔ x1 + 1 ≤ count_after x2 e a.count
unfolding threshold low_of
class1_low x1 x2 e next a s h l = start_at x1 x2 e next a (x1 + 1) (rw (h, l)) s (λ z. omega arith)

pub class2_normal : (x1 x2 : ℕ) (e next : Bool) (a : Access) → a.sent ≡ 0 → a.held ≡ 2 → a.low2 ≡ false
    → Starts x1 x2 e next a ↔ x2 ≤ count_after x2 e a.count
unfolding threshold low_of
class2_normal x1 x2 e next a s h l = start_at x1 x2 e next a x2 (rw (h, l) (omega arith)) s (λ z. omega arith)

pub class2_low : (x1 x2 : ℕ) (e next : Bool) (a : Access) → a.sent ≡ 0 → a.held ≡ 2 → a.low2 ≡ true
    → Starts x1 x2 e next a ↔ x2 + 1 ≤ count_after x2 e a.count
unfolding threshold low_of
class2_low x1 x2 e next a s h l = start_at x1 x2 e next a (x2 + 1) (rw (h, l)) s (λ z. omega arith)

-- the first bit of a start goes to the D of the same opportunity
pub start_bit : (x1 x2 : ℕ) (e next : Bool) (a : Access) → Starts x1 x2 e next a → (access_step x1 x2 e next a).d ≡ next
start_bit x1 x2 e next a s = access_step_d x1 x2 e next a ∙ rw s.1

-- A stop. "A sent bit unequal to its echo stops the sending; the frame is held and starts over": D is 1, C and the levels follow E alone
pub record Stopped (x1 x2 : ℕ) (e : Bool) (a : Access) (t : AccessStep) : Type 0 where
  pub held : t.access.held ≡ a.held
  pub length : t.access.length ≡ a.length
  pub sent : t.access.sent ≡ 0
  pub d : t.d ≡ true
  pub done : t.done ≡ 0
  pub count : t.access.count ≡ count_after x2 e a.count
  pub low1 : t.access.low1 ≡ low_after x1 (count_after x2 e a.count) a.low1
  pub low2 : t.access.low2 ≡ low_after x2 (count_after x2 e a.count) a.low2

pub stop : (x1 x2 : ℕ) (e next : Bool) (a : Access) → 0 < a.sent → (e ≡ a.last → ⊥) → Stopped x1 x2 e a (access_step x1 x2 e next a)
unfolding stops after_e
stop x1 x2 e next a s q =
    rw (stops_it x1 x2 e next a s q)
    (record { held = refl; length = refl; sent = refl; d = refl; done = refl; count = refl; low1 = refl; low2 = refl })

-- a frame is held until it is completed
pub held_kept : (x1 x2 : ℕ) (e next : Bool) (a : Access) → (access_step x1 x2 e next a).done ≡ 0 → (access_step x1 x2 e next a).access.held ≡ a.held
unfolding sends_next completes stops idles after_e
held_kept x1 x2 e next a =
    by_ways x1 x2 e next a (λ t. t.done ≡ 0 → t.access.held ≡ a.held) (λ s q l z. refl) (λ s q l z. sym z) (λ s d z. refl) (λ s m z. refl)
    (λ s m z. refl)

pub length_kept : (x1 x2 : ℕ) (e next : Bool) (a : Access) → 0 < a.held → (access_step x1 x2 e next a).done ≡ 0
    → (access_step x1 x2 e next a).access.length ≡ a.length
unfolding sends_next completes stops idles after_e
length_kept x1 x2 e next a h =
    by_ways x1 x2 e next a (λ t. t.done ≡ 0 → t.access.length ≡ a.length) (λ s q l z. refl) (λ s q l z. absurd (omega arith)) (λ s d z. refl)
    (λ s m z. refl) (λ s m z. refl)

pub length_most : (x1 x2 : ℕ) (e next : Bool) (a : Access) → (access_step x1 x2 e next a).access.length ≤ a.length
unfolding sends_next completes stops idles after_e
length_most x1 x2 e next a =
    by_ways x1 x2 e next a (λ t. t.access.length ≤ a.length) (λ s q l. omega arith) (λ s q l. omega arith) (λ s d. omega arith)
    (λ s m. omega arith) (λ s m. omega arith)

-- A completion. "The frame is completed when the echo of its last bit agrees", all its bits having left; it is no longer held, and D is 1
pub record Completed (x1 x2 : ℕ) (e : Bool) (a : Access) (t : AccessStep) : Type 0 where
  pub done : t.done ≡ a.held
  pub held : t.access.held ≡ 0
  pub sent : t.access.sent ≡ 0
  pub d : t.d ≡ true
  pub count : t.access.count ≡ count_after x2 e a.count

pub complete : (x1 x2 : ℕ) (e next : Bool) (a : Access) → 0 < a.sent → e ≡ a.last → a.length ≤ a.sent
    → Completed x1 x2 e a (access_step x1 x2 e next a)
unfolding completes after_e
complete x1 x2 e next a s q l =
    rw (completes_it x1 x2 e next a s q l) (record { done = refl; held = refl; sent = refl; d = refl; count = refl })

-- .. and only then
pub record LastEcho (e : Bool) (a : Access) (done : ℕ) : Type 0 where
  pub was_sending : 0 < a.sent
  pub all_sent : a.length ≤ a.sent
  pub echo : e ≡ a.last
  pub class : done ≡ a.held

pub completion_only : (x1 x2 : ℕ) (e next : Bool) (a : Access) → ((access_step x1 x2 e next a).done ≡ 0 → ⊥)
    → LastEcho e a (access_step x1 x2 e next a).done
unfolding sends_next completes stops idles after_e
completion_only x1 x2 e next a =
    by_ways x1 x2 e next a (λ t. (t.done ≡ 0 → ⊥) → LastEcho e a t.done) (λ s q l h. absurd (h refl))
    (λ s q l h. record { was_sending = s; all_sent = l; echo = q; class = refl }) (λ s d h. absurd (h refl)) (λ s m h. absurd (h refl))
    (λ s m h. absurd (h refl))

-- what is completed is nothing, or a frame of the held class
pub done_held : (x1 x2 : ℕ) (e next : Bool) (a : Access) → ((access_step x1 x2 e next a).done ≡ 0) ⊎ ((access_step x1 x2 e next a).done ≡ a.held)
unfolding sends_next completes stops idles after_e
done_held x1 x2 e next a =
    by_ways x1 x2 e next a (λ t. (t.done ≡ 0) ⊎ (t.done ≡ a.held)) (λ s q l. inl refl) (λ s q l. inr refl) (λ s d. inl refl) (λ s m. inl refl)
    (λ s m. inl refl)

-- .. which is the echo of the last bit, where no more bits have left than the image has
pub completion_last : (x1 x2 : ℕ) (e next : Bool) (a : Access) → a.sent ≤ a.length → ((access_step x1 x2 e next a).done ≡ 0 → ⊥)
    → a.sent ≡ a.length
completion_last x1 x2 e next a s h = omega (arith, completion_only x1 x2 e next a h)

-- an image of 24 bits of which some have left, the last of them a 0
abbrev leaving24 : ℕ → Access
leaving24 n = record { length = 24; sent = n; count = 0; held = 1; low1 = false; low2 = false; last = false }

-- with the closing flag's last bit to come nothing is completed; at its echo the frame is
pub closing_flag : ((access_step normal1 normal2 false false (leaving24 23)).done ≡ 0) × ((access_step normal1 normal2 false false (leaving24 24)).done ≡ 1)
unfolding access_step after_e sends_next completes
closing_flag = (refl, refl)

-- "that class then goes low", and no other: the other one follows C
pub class1_lowers : (x1 x2 : ℕ) (e next : Bool) (a : Access) → (access_step x1 x2 e next a).done ≡ 1
    → ((access_step x1 x2 e next a).access.low1 ≡ true)
    × ((access_step x1 x2 e next a).access.low2 ≡ low_after x2 (count_after x2 e a.count) a.low2)
class1_lowers x1 x2 e next a h = (access_step_low1 x1 x2 e next a ∙ rw h, access_step_low2 x1 x2 e next a ∙ rw h)

pub class2_lowers : (x1 x2 : ℕ) (e next : Bool) (a : Access) → (access_step x1 x2 e next a).done ≡ 2
    → ((access_step x1 x2 e next a).access.low2 ≡ true)
    × ((access_step x1 x2 e next a).access.low1 ≡ low_after x1 (count_after x2 e a.count) a.low1)
class2_lowers x1 x2 e next a h = (access_step_low2 x1 x2 e next a ∙ rw h, access_step_low1 x1 x2 e next a ∙ rw h)

-- a class goes low only at its completion
lowers_only : (x c n k : ℕ) (low : Bool) → low ≡ false → cond (eqb n k) true (low_after x c low) ≡ true → n ≡ k
lowers_only x c n k low l h =
    by_test (eqb n k) (λ t. eqb-true n k t) (λ t. absurd (true≢false (sym (rw (t, l) at h) ∙ level_normal x c)))

pub class1_lowers_only : (x1 x2 : ℕ) (e next : Bool) (a : Access) → a.low1 ≡ false → (access_step x1 x2 e next a).access.low1 ≡ true
    → (access_step x1 x2 e next a).done ≡ 1
class1_lowers_only x1 x2 e next a l h =
    lowers_only x1 (count_after x2 e a.count) (access_step x1 x2 e next a).done 1 a.low1 l (sym (access_step_low1 x1 x2 e next a) ∙ h)

pub class2_lowers_only : (x1 x2 : ℕ) (e next : Bool) (a : Access) → a.low2 ≡ false → (access_step x1 x2 e next a).access.low2 ≡ true
    → (access_step x1 x2 e next a).done ≡ 2
class2_lowers_only x1 x2 e next a l h =
    lowers_only x2 (count_after x2 e a.count) (access_step x1 x2 e next a).done 2 a.low2 l (sym (access_step_low2 x1 x2 e next a) ∙ h)

-- a class at the low level "returns to normal when C equals the low value", and only there
returns_only : (x c n k : ℕ) (low : Bool) → low ≡ true → cond (eqb n k) true (low_after x c low) ≡ false → c ≡ x + 1
returns_only x c n k low l h =
    by_test (eqb n k) (λ t. absurd (true≢false (rw t at h))) (λ t. level_returns_only x c (rw (t, l) at h))

pub class1_returns : (x1 x2 : ℕ) (e next : Bool) (a : Access) → count_after x2 e a.count ≡ x1 + 1
    → ((access_step x1 x2 e next a).done ≡ 1 → ⊥) → (access_step x1 x2 e next a).access.low1 ≡ false
class1_returns x1 x2 e next a c h =
    access_step_low1 x1 x2 e next a ∙ rw (ne_eqb (access_step x1 x2 e next a).done 1 h, level_returns x1 (count_after x2 e a.count) a.low1 c)

pub class1_returns_only : (x1 x2 : ℕ) (e next : Bool) (a : Access) → a.low1 ≡ true → (access_step x1 x2 e next a).access.low1 ≡ false
    → count_after x2 e a.count ≡ x1 + 1
class1_returns_only x1 x2 e next a l h =
    returns_only x1 (count_after x2 e a.count) (access_step x1 x2 e next a).done 1 a.low1 l (sym (access_step_low1 x1 x2 e next a) ∙ h)

pub class2_returns : (x1 x2 : ℕ) (e next : Bool) (a : Access) → count_after x2 e a.count ≡ x2 + 1
    → ((access_step x1 x2 e next a).done ≡ 2 → ⊥) → (access_step x1 x2 e next a).access.low2 ≡ false
class2_returns x1 x2 e next a c h =
    access_step_low2 x1 x2 e next a ∙ rw (ne_eqb (access_step x1 x2 e next a).done 2 h, level_returns x2 (count_after x2 e a.count) a.low2 c)

pub class2_returns_only : (x1 x2 : ℕ) (e next : Bool) (a : Access) → a.low2 ≡ true → (access_step x1 x2 e next a).access.low2 ≡ false
    → count_after x2 e a.count ≡ x2 + 1
class2_returns_only x1 x2 e next a l h =
    returns_only x2 (count_after x2 e a.count) (access_step x1 x2 e next a).done 2 a.low2 l (sym (access_step_low2 x1 x2 e next a) ∙ h)

-- A hand-over. Every body's image has a length that an image may have ..
pub image_fits : (body : List ℕ) → IsBody body → is_image_length (length (image body)) ≡ true
unfolding is_image_length
image_fits body b = rw (le-leb shortest_image (length (image body)) (image_least body b), le-leb (length (image body)) longest_image (image_most body b))

-- .. so that a terminal that holds no frame takes it
pub takes_body : (class : Class) (body : List ℕ) (a : Access) → IsBody body → a.held ≡ 0
    → handed class (length (image body)) a ≡ record { access = taken_up (class_number class) (length (image body)) a; reply = 0 }
unfolding handed
takes_body class body a b h = rw (image_fits body b, eq-eqb a.held 0 h)

-- "Leaving F7 drops a held frame and sets both levels to normal"
pub leaving : (a : Access)
    → ((left a).dropped ≡ a.held) × ((left a).access.held ≡ 0) × ((left a).access.low1 ≡ false) × ((left a).access.low2 ≡ false)
unfolding left
leaving a = (refl, refl, refl, refl)

-- A whole sending. One opportunity of a terminal with the image `bits` in hand
unfoldable pub step : ℕ → ℕ → List Bool → Bool → Access → AccessStep
step x1 x2 bits e a = access_step x1 x2 e (get_or bits a.sent true) a

-- over a list of E: the D bits, the completed classes, and the record after it
unfoldable pub sent_bits : ℕ → ℕ → List Bool → List Bool → Access → List Bool
sent_bits x1 x2 bits [] a = []
sent_bits x1 x2 bits (e ∷ es) a = (step x1 x2 bits e a).d ∷ sent_bits x1 x2 bits es (step x1 x2 bits e a).access

unfoldable pub dones : ℕ → ℕ → List Bool → List Bool → Access → List ℕ
dones x1 x2 bits [] a = []
dones x1 x2 bits (e ∷ es) a = (step x1 x2 bits e a).done ∷ dones x1 x2 bits es (step x1 x2 bits e a).access

unfoldable pub run : ℕ → ℕ → List Bool → List Bool → Access → Access
run x1 x2 bits [] a = a
run x1 x2 bits (e ∷ es) a = run x1 x2 bits es (step x1 x2 bits e a).access

-- while a sending is under way: the bits `past` have left, b last of them, and `ahead` are to come
record Underway (bits past ahead : List Bool) (b : Bool) (a : Access) : Type 0 where
  whole : bits ≡ past ++ ahead
  started : 0 < length past
  sent : a.sent ≡ length past
  size : a.length ≡ length bits
  last : a.last ≡ b

module _ (x1 x2 : ℕ) (bits : List Bool) where
  goes : (past ahead : List Bool) (b c : Bool) (a : Access) → Underway bits past (c ∷ ahead) b a
      → step x1 x2 bits b a ≡ sends_next c (after_e x1 x2 b a)
  unfolding step
  goes past ahead b c a u =
      goes_on x1 x2 b (get_or bits a.sent true) a (omega (arith, u.sent, u.started)) (sym u.last)
      (omega (arith, u.sent, u.size, ap length u.whole, length-append past (c ∷ ahead)))
      ∙ rw (u.whole, get_or_at past c ahead true a.sent (sym u.sent))

  goes_under : (past ahead : List Bool) (b c : Bool) (a : Access) → Underway bits past (c ∷ ahead) b a
      → Underway bits (past ++ (c ∷ [])) ahead c (sends_next c (after_e x1 x2 b a)).access
  unfolding sends_next after_e
  goes_under past ahead b c a u =
      record {
        whole = u.whole ∙ sym (append_snoc past c ahead);
        started = omega (arith, length-append past (c ∷ []));
        sent = omega (arith, u.sent, length-append past (c ∷ []));
        size = u.size;
        last = refl;
      }

  ends : (past : List Bool) (b : Bool) (a : Access) → Underway bits past [] b a → step x1 x2 bits b a ≡ completes (after_e x1 x2 b a)
  unfolding step
  ends past b a u =
      completes_it x1 x2 b (get_or bits a.sent true) a (omega (arith, u.sent, u.started)) (sym u.last)
      (omega (arith, u.sent, u.size, ap length u.whole, length-append past []))

  sent_rest : (ahead past : List Bool) (b : Bool) (a : Access) → Underway bits past ahead b a
      → sent_bits x1 x2 bits (b ∷ ahead) a ≡ ahead ++ (true ∷ [])
  unfolding sent_bits sends_next completes
  sent_rest [] past b a u = rw (ends past b a u)
  sent_rest (c ∷ ahead) past b a u =
      rw (goes past ahead b c a u)
      (ap (λ (l : List Bool). c ∷ l) (sent_rest ahead (past ++ (c ∷ [])) c (sends_next c (after_e x1 x2 b a)).access (goes_under past ahead b c a u)))

  done_rest : (ahead past : List Bool) (b : Bool) (a : Access) → Underway bits past ahead b a
      → dones x1 x2 bits (b ∷ ahead) a ≡ replicate (length ahead) 0 ++ (a.held ∷ [])
  unfolding dones sends_next completes after_e
  done_rest [] past b a u = rw (ends past b a u)
  done_rest (c ∷ ahead) past b a u =
      rw (goes past ahead b c a u)
      (ap (λ (l : List ℕ). 0 ∷ l) (done_rest ahead (past ++ (c ∷ [])) c (sends_next c (after_e x1 x2 b a)).access (goes_under past ahead b c a u)))

  -- it ends as a completion of the frame that was held
  run_rest : (ahead past : List Bool) (b : Bool) (a : Access) → Underway bits past ahead b a
      → (c : Access) × (c.held ≡ a.held) × (run x1 x2 bits (b ∷ ahead) a ≡ (completes c).access)
  unfolding run sends_next after_e
  run_rest [] past b a u = (after_e x1 x2 b a, refl, ap (λ (t : AccessStep). t.access) (ends past b a u))
  run_rest (c ∷ ahead) past b a u =
      let w = run_rest ahead (past ++ (c ∷ [])) c (sends_next c (after_e x1 x2 b a)).access (goes_under past ahead b c a u) in
      (w.0, w.1, ap (λ (t : AccessStep). run x1 x2 bits (c ∷ ahead) t.access) (goes past ahead b c a u) ∙ w.2)

-- the start of it
starts_step : (x1 x2 : ℕ) (c : Bool) (ahead : List Bool) (e : Bool) (a : Access) → Ready x1 x2 e a
    → step x1 x2 (c ∷ ahead) e a ≡ sends_next c (after_e x1 x2 e a)
unfolding step
starts_step x1 x2 c ahead e a r =
    starts_it x1 x2 e (get_or (c ∷ ahead) a.sent true) a r.free (ready_may x1 x2 e a r)
    ∙ ap (λ (n : ℕ). sends_next (get_or (c ∷ ahead) n true) (after_e x1 x2 e a)) r.free

starts_under : (x1 x2 : ℕ) (c : Bool) (ahead : List Bool) (e : Bool) (a : Access) → Ready x1 x2 e a → a.length ≡ length (c ∷ ahead)
    → Underway (c ∷ ahead) (c ∷ []) ahead c (sends_next c (after_e x1 x2 e a)).access
unfolding sends_next after_e
starts_under x1 x2 c ahead e a r l = record { whole = refl; started = omega arith; sent = omega (arith, r.free); size = l; last = refl }

-- A terminal that is ready, and from then on hears exactly the bits that it has sent, sends its bits whole, completes nothing before,
-- and completes its class at the echo of the last bit; the frame is then no longer held, and its class is low
pub record Whole (x1 x2 : ℕ) (bits : List Bool) (e : Bool) (a : Access) : Type 0 where
  pub sent_bits_lem : sent_bits x1 x2 bits (e ∷ bits) a ≡ bits ++ (true ∷ [])
  pub completions : dones x1 x2 bits (e ∷ bits) a ≡ replicate (length bits) 0 ++ (a.held ∷ [])
  pub not_held : (run x1 x2 bits (e ∷ bits) a).held ≡ 0
  pub low1 : a.held ≡ 1 → (run x1 x2 bits (e ∷ bits) a).low1 ≡ true
  pub low2 : a.held ≡ 2 → (run x1 x2 bits (e ∷ bits) a).low2 ≡ true

pub sends_whole : (x1 x2 : ℕ) (bits : List Bool) (e : Bool) (a : Access) → 0 < length bits → a.length ≡ length bits → Ready x1 x2 e a
    → Whole x1 x2 bits e a
unfolding sent_bits dones run sends_next completes after_e
sends_whole x1 x2 [] e a n l r = absurd (omega arith)
sends_whole x1 x2 (c ∷ ahead) e a n l r =
    let u : Underway (c ∷ ahead) (c ∷ []) ahead c (sends_next c (after_e x1 x2 e a)).access = starts_under x1 x2 c ahead e a r l in
    let w = run_rest x1 x2 (c ∷ ahead) ahead (c ∷ []) c (sends_next c (after_e x1 x2 e a)).access u in
    let z : run x1 x2 (c ∷ ahead) (e ∷ c ∷ ahead) a ≡ (completes w.0).access =
    ap (λ (t : AccessStep). run x1 x2 (c ∷ ahead) (c ∷ ahead) t.access) (starts_step x1 x2 c ahead e a r) ∙ w.2
    in
    record {
      sent_bits_lem =
          rw (starts_step x1 x2 c ahead e a r)
          (ap (λ (k : List Bool). c ∷ k) (sent_rest x1 x2 (c ∷ ahead) ahead (c ∷ []) c (sends_next c (after_e x1 x2 e a)).access u));
      completions =
          rw (starts_step x1 x2 c ahead e a r)
          (ap (λ (k : List ℕ). 0 ∷ k) (done_rest x1 x2 (c ∷ ahead) ahead (c ∷ []) c (sends_next c (after_e x1 x2 e a)).access u));
      not_held = ap (λ (c : Access). c.held) z;
      low1 = λ h. ap (λ (c : Access). c.low1) z ∙ rw (eq-eqb w.0.held 1 (w.1 ∙ h));
      low2 = λ h. ap (λ (c : Access). c.low2) z ∙ rw (eq-eqb w.0.held 2 (w.1 ∙ h));
    }

-- .. so it is with the image of every body
pub image_whole : (x1 x2 : ℕ) (body : List ℕ) (e : Bool) (a : Access) → a.length ≡ length (image body) → Ready x1 x2 e a
    → Whole x1 x2 (image body) e a
image_whole x1 x2 body e a l r = sends_whole x1 x2 (image body) e a (omega (arith, length_image body)) l r

-- An access at rest: an E of 1 changes nothing, nothing leaves and nothing is completed.
pub rests : (x1 x2 : ℕ) (next : Bool) (a : Access) → x1 < x2 → at_rest x2 a ≡ true → access_step x1 x2 true next a ≡ idles a
unfolding at_rest after_e count_after low_after may_start
rests x1 x2 next a l h =
    let p = and_both _ _ h in
    let q = and_both _ _ p.0 in
    let r = and_both _ _ q.0 in
    let held : a.held ≡ 0 = eqb-true _ _ r.0 in
    let count : a.count ≡ x2 + 1 = eqb-true _ _ q.1 in
    let low : a.low2 ≡ false = not-true _ p.1 in
    let end : ltb (x2 + 1) (x2 + 1) ≡ false = le-ltb (x2 + 1) (x2 + 1) (omega arith) in
    let apart : eqb (x2 + 1) (x1 + 1) ≡ false = ne_eqb (x2 + 1) (x1 + 1) (λ z. omega arith) in
    let same : eqb (x2 + 1) (x2 + 1) ≡ true = eq-eqb (x2 + 1) (x2 + 1) refl in
    idles_it x1 x2 true next a (eqb-true _ _ r.1) (rw held) ∙ rw (count, end, apart, same, low)
