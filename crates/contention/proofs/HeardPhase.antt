-- In a stretch the D channel is in one of two phases after a frame has been begun: a frame is under way, or nobody sends. Each
-- opportunity keeps this, and what the reader says to its D is told by it.
use mathlib.Core.Bool.{true, false}
use mathlib.Core.Path.{◌≡◌, refl, sym, ap, ap₂, ◌∙◌}
use mathlib.Core.List.{List}
use mathlib.Core.Logic.{◌⊎◌, inl, inr}
use Prim.Native.Nat.{ℕ, zero, suc, ◌+◌, ◌≤◌, ◌<◌}
use native.Mathlib.Omega.{arith}
use lib.Dec.{ltb}
use lib.ListN.{length, get_or, take}
use lib.Seq.{take-length}
use borrow.Author.Tests.{ltb-true, ltb-false}
use Rattle.hdlc.specs.Image.{image}
use Rattle.test_lemmas.proofs.ByCases.{by_test}
use Rattle.hdlc.specs.Reading.{Reading, said, next}
use Rattle.hdlc.specs.Reading.Said.{nothing, torn, heard}
use Rattle.hdlc.proofs.ImageLaws.{image_starts, image_least}
use Rattle.hdlc.proofs.ReadingLaws.{after, after_at, after_image, opened_fresh, Quiet, quiet_opened, quiet_one, quiet_one_silent, Within, begun_within, within_start, within_silent, within_heard}
use Rattle.hdlc.proofs.PrefixLaws.{prefix_free_bits}
use Rattle.contention.specs.Channel.{Channel}
use Rattle.contention.specs.Stretch.{contender, Completes, Begins, said_at}
use Rattle.contention.specs.Invariant.{Invariant}
use Rattle.contention.proofs.Trace.{Echo, echo_agrees, echo_idle, echo_first, Anyone, somebody, nobody, anyone}
use Rattle.contention.proofs.HeardNext.{frame, Follows}
use Rattle.contention.proofs.HeardSteps.{echo_next, same_body, reading_next, said_next, back_more, back_begins, forth_begins, forth_more, none_begins, Whole, completes_whole, whole_completes}

-- a terminal whose last bit is the last D
pub record Echoed (i : ℕ) (c : Channel) : Type 0 where
  pub sends : 1 ≤ (contender i c).access.sent
  pub agrees : (contender i c).access.last ≡ c.heard_d

-- a frame is under way: s bits of it are sent, and the reader has read them since it was at r
pub record UnderWay (s : ℕ) (r : Reading) (c : Channel) : Type 0 where
  pub some : (j : ℕ) × ((contender j c).access.sent ≡ s)
  pub positive : 1 ≤ s
  pub echo : Echo c
  pub read : (i : ℕ) → Echoed i c → c.reading ≡ after r (take s (image (contender i c).body))

-- nobody sends, and the reader is between frames
pub record Idle (c : Channel) : Type 0 where
  pub none : (i : ℕ) → (contender i c).access.sent ≡ 0
  pub quiet : Quiet c.reading

-- while a frame is under way somebody's last bit is the last D
pub echoed_some : {s : ℕ} {r : Reading} {c : Channel} → UnderWay s r c → (i : ℕ) × Echoed i c
echoed_some {s} {r} {c} u =
    let w = echo_agrees u.echo u.some.0 (omega (arith, u.some.1, u.positive)) in
    (w.0, record { sends = w.1; agrees = sym w.2 })

-- all that send have sent s bits
pub all_sent : {s x2 : ℕ} {r : Reading} {c : Channel} → Invariant x2 c → UnderWay s r c → (i : ℕ) → 1 ≤ (contender i c).access.sent
    → (contender i c).access.sent ≡ s
all_sent v u i h = (v.in_phase i u.some.0 h (omega (arith, u.some.1, u.positive))).0 ∙ u.some.1

-- two whose last bits are the last D have sent the same bits
same_bits : {x2 : ℕ} {c : Channel} → Invariant x2 c → (i j : ℕ) → Echoed i c → Echoed j c
    → (t : ℕ) → t < (contender i c).access.sent → get_or (image (contender j c).body) t true ≡ get_or (image (contender i c).body) t true
same_bits {x2} {c} v i j a b t h =
    let p = v.in_phase i j a.sends b.sends in
    by_test (ltb (t + 1) (contender i c).access.sent)
    (λ e. sym (p.1 t (ltb-true _ _ e)))
    (λ e.
    let n : (contender i c).access.sent ≡ suc t = omega (arith, ltb-false (t + 1) (contender i c).access.sent e) in
    sym ((v.sound j).last_bit t (sym p.0 ∙ n)) ∙ b.agrees ∙ sym a.agrees ∙ (v.sound i).last_bit t n)

-- so a whole frame is the one of every other
pub same_frame : {x2 : ℕ} {c : Channel} → Invariant x2 c → (i j : ℕ) → Whole i c → Echoed j c → (contender i c).body ≡ (contender j c).body
same_frame {x2} {c} v i j w b =
    prefix_free_bits (contender i c).body (contender j c).body (frame (v.sound i) w.sends).body_held (frame (v.sound j) b.sends).body_held
    (λ t h. same_bits v i j (record { sends = w.sends; agrees = w.echoed }) b t (rw w.all h))

module _ {x1 x2 : ℕ} {c c' : Channel} (f : Follows x1 x2 c c') where
  -- where a frame is begun, it is under way at the next opportunity, with its first bit sent
  pub begins_next : (j : ℕ) → Begins x1 x2 j c → UnderWay 1 c.reading c'
  unfolding after image
  begins_next j b =
      record {
        some = (j, one);
        positive = omega arith;
        echo = echo_next f;
        read = λ i w. reading_next f ∙ ap (next c.reading) low;
      }
    where
      one : (contender j c').access.sent ≡ 1
      one = forth_begins f j b

      low : c'.heard_d ≡ false
      low = echo_first (echo_next f) j (f.now.sound j) one

  -- what the reader does with the D of an opportunity at which a sending goes on: it reads that bit of the image
  record Bit (s : ℕ) (k : ℕ) : Type 0 where
    was : Echoed k c
    bit : c'.heard_d ≡ get_or (image (contender k c).body) s true
    more : s < length (image (contender k c).body)
    body : (contender k c').body ≡ (contender k c).body

  bit_of_lem : (s k : ℕ) → 1 ≤ s → (contender k c').access.sent ≡ suc s → Echoed k c' → Bit s k
  bit_of_lem s k h e w =
      let b = back_more f k s h e in
      let same = same_body f k w.sends in
      record {
        was = record { sends = omega (arith, b.sent); agrees = b.echoed };
        bit = sym w.agrees ∙ (f.now.sound k).last_bit s e ∙ ap (λ (l : List ℕ). get_or (image l) s true) same;
        more = b.more;
        body = same;
      }

  -- a sending that goes on
  pub goes_next : {s : ℕ} {r : Reading} → UnderWay s r c → (i : ℕ) → Echoed i c → s < length (image (contender i c).body) → UnderWay (suc s) r c'
  goes_next {s} {r} u i a h =
      record { some = (i, next_sent); positive = omega arith; echo = echo_next f; read = reads }
    where
      next_sent : (contender i c').access.sent ≡ suc s
      next_sent =
          let e = all_sent f.before u i a.sends in
          forth_more f i a.sends a.agrees (rw e h) ∙ ap suc e

      reads : (k : ℕ) → Echoed k c' → c'.reading ≡ after r (take (suc s) (image (contender k c').body))
      reads k w =
          let b = bit_of_lem s k u.positive ((f.now.in_phase k i w.sends (omega (arith, next_sent))).0 ∙ next_sent) w in
          reading_next f
          ∙ ap₂ next (u.read k b.was) b.bit
          ∙ sym (after_at (image (contender k c).body) r s true b.more)
          ∙ ap (λ (l : List ℕ). after r (take (suc s) (image l))) (sym b.body)

  -- what is said where a sending goes on, for each whose last bit is then the last D
  pub said_bit : {s : ℕ} {r : Reading} → UnderWay s r c → (k : ℕ) → Echoed k c' → (contender k c').access.sent ≡ suc s
      → said_at x1 x2 c ≡ said (after r (take s (image (contender k c').body))) (get_or (image (contender k c').body) s true)
  said_bit {s} {r} u k w e =
      let b = bit_of_lem s k u.positive e w in
      said_next f
      ∙ ap₂ said (u.read k b.was) b.bit
      ∙ ap (λ (l : List ℕ). said (after r (take s (image l))) (get_or (image l) s true)) (sym b.body)

  -- where nobody sends, the reader reads a 1
  idle_next : ((i : ℕ) → (contender i c').access.sent ≡ 0) → Quiet c.reading → Idle c' × (said_at x1 x2 c ≡ nothing)
  idle_next none q =
      let one = echo_idle (echo_next f) none in (
        record { none = none; quiet = rw (reading_next f ∙ ap (next c.reading) one) (quiet_one c.reading q) },
        said_next f ∙ ap (said c.reading) one ∙ quiet_one_silent c.reading q,
      )

  -- a sending whose frame is completed: nobody else goes on, and nobody starts
  pub completes_next : {s : ℕ} {r : Reading} → 8 ≤ x1 → x1 + 2 ≤ x2 → UnderWay s r c → (i : ℕ) → Whole i c → Idle c' × (said_at x1 x2 c ≡ nothing)
  completes_next {s} {r} h1 h2 u i w = idle_next none quiet
    where
      is : Echoed i c
      is = record { sends = w.sends; agrees = w.echoed }

      opened : c.reading ≡ opened_fresh
      opened =
          u.read i is
          ∙ ap (λ (n : ℕ). after r (take n (image (contender i c).body))) (sym (all_sent f.before u i w.sends) ∙ w.all)
          ∙ ap (after r) (take-length (image (contender i c).body))
          ∙ after_image (contender i c).body r

      quiet : Quiet c.reading
      quiet = rw opened quiet_opened

      none : (k : ℕ) → (contender k c').access.sent ≡ 0
      none k = go (contender k c').access.sent refl
        where
          go : (n : ℕ) → (contender k c').access.sent ≡ n → (contender k c').access.sent ≡ 0
          go zero e = e
          go (suc zero) e = absurd (none_begins f h1 h2 i k w.sends w.echoed e)
          go (suc (suc n)) e =
              let b = back_more f k (suc n) (omega arith) e in
              let there : Echoed k c = record { sends = omega (arith, b.sent); agrees = b.echoed } in
              let same : length (image (contender i c).body) ≡ length (image (contender k c).body) =
              ap (λ (l : List ℕ). length (image l)) (same_frame f.before i k w there)
              in absurd (omega (arith, b.more, b.sent, w.all, (f.before.in_phase i k w.sends there.sends).0))

  -- where nobody sends, whoever sends at the next opportunity has begun
  begun_one : Idle c → (j : ℕ) → 1 ≤ (contender j c').access.sent → (contender j c').access.sent ≡ 1
  begun_one q j h = go (contender j c').access.sent refl
    where
      go : (n : ℕ) → (contender j c').access.sent ≡ n → (contender j c').access.sent ≡ 1
      go zero e = absurd (omega arith)
      go (suc zero) e = e
      go (suc (suc n)) e = absurd (omega (arith, (back_more f j (suc n) (omega arith) e).sent, q.none j))

  -- where nobody sends: nobody begins, or a frame is begun
  pub idle_goes : Idle c → (Idle c' ⊎ UnderWay 1 c.reading c') × (said_at x1 x2 c ≡ nothing)
  idle_goes q = go (anyone c')
    where
      go : Anyone c' → (Idle c' ⊎ UnderWay 1 c.reading c') × (said_at x1 x2 c ≡ nothing)
      go (nobody none) = let r = idle_next none q.quiet in (inl r.0, r.1)
      go (somebody j h) =
          let one = begun_one q j h in
          let body = (contender j c').body in
          let is = (frame (f.now.sound j) h).body_held in (
            inr (begins_next j (back_begins f j one)),
            said_next f
                ∙ ap (said c.reading) (echo_first (echo_next f) j (f.now.sound j) one ∙ sym (image_starts body))
                ∙ within_silent is (within_start body c.reading q.quiet) (omega (arith, image_least body is)),
          )

  -- what is heard at c's D is what is completed at the next E
  pub record Told : Type 0 where
    pub heard_completed : (body : List ℕ) → said_at x1 x2 c ≡ heard body →
        (j : ℕ) × (k : ℕ) × (1 ≤ k) × Completes x1 x2 k j c' × ((contender j c').body ≡ body)
    pub completed_heard : (j k : ℕ) → 1 ≤ k → Completes x1 x2 k j c' → said_at x1 x2 c ≡ heard (contender j c').body
    pub not_torn : said_at x1 x2 c ≡ torn → ⊥

  -- nothing said, and nothing completed
  told_nothing : said_at x1 x2 c ≡ nothing → ((j : ℕ) → Whole j c' → ⊥) → Told
  told_nothing e n =
      record {
        heard_completed = λ body h. absurd (let z : ◌≡◌ {A = ℕ} 0 1 = cc in omega arith);
        completed_heard = λ j k h w. absurd (n j (completes_whole f.now j k h w));
        not_torn = λ h. let z : ◌≡◌ {A = ℕ} 0 1 = cc in omega arith;
      }

  -- a body said, and a frame with it completed
  told_heard : (j : ℕ) → Whole j c' → said_at x1 x2 c ≡ heard (contender j c').body → Told
  told_heard j w e =
      let done = whole_completes {x1 = x1} f.now j w in
      record {
        heard_completed = λ body h. (j, (contender j c').access.held, done.0, done.1, (let z : (contender j c').body ≡ body = cc in z));
        completed_heard = λ i k h v.
            e ∙ ap heard (sym (same_frame f.now i j (completes_whole f.now i k h v) (record { sends = w.sends; agrees = w.echoed })));
        not_torn = λ h. let z : ◌≡◌ {A = ℕ} 0 1 = cc in omega arith;
      }

  -- the reader has read the first s bits of an image since it was between frames, or since its flag
  within : {s : ℕ} {r : Reading} (body : List ℕ) → (8 ≤ s) ⊎ Quiet r → Within body s (after r (take s (image body)))
  within {s} {r} body (inl h) = begun_within (record { start = r; is = refl }) h
  within {s} {r} body (inr q) = record { start = r; quiet = q; is = refl }

  told_going : {s : ℕ} {r : Reading} → UnderWay s r c → (8 ≤ s) ⊎ Quiet r → UnderWay (suc s) r c' → Told
  told_going {s} {r} u h u' =
      let w = echoed_some u' in
      let k = w.0 in
      let body = (contender k c').body in
      let has = frame (f.now.sound k) w.1.sends in
      let sent = all_sent f.now u' k w.1.sends in
      let say = said_bit u k w.1 sent in
      by_test (ltb (suc s) (length (image body)))
      (λ l.
      told_nothing (say ∙ within_silent has.body_held (within body h) (omega (arith, ltb-true (suc s) (length (image body)) l)))
      (λ j v.
      let same : length (image (contender j c').body) ≡ length (image body) =
      ap (λ (b : List ℕ). length (image b)) (same_frame f.now j k v w.1)
      in omega (arith, v.all, ltb-true (suc s) (length (image body)) l, all_sent f.now u' j v.sends)))
      (λ l.
      let all : s + 1 ≡ length (image body) = omega (arith, ltb-false (suc s) (length (image body)) l, has.part, sent) in
      told_heard k (record { sends = w.1.sends; echoed = w.1.agrees; all = omega (arith, all, sent) })
      (say ∙ within_heard has.body_held (within body h) all))

-- the phase at opportunity t, the first flag having been begun at p: a frame under way was begun at or after p, and it is the first
-- or the reader was between frames before it
pub data Phase (p t : ℕ) (c : Channel) : Type 0 where
  under_way : (s : ℕ) (r : Reading) → UnderWay s r c → s + p ≤ t → (s + p ≡ t) ⊎ Quiet r → Phase p t c
  idle : p ≤ t → Idle c → Phase p t c

-- the first frame, or one before which the reader was between frames: with one more bit sent, and past the flag
one_more : (s p t : ℕ) (r : Reading) → (s + p ≡ t) ⊎ Quiet r → (suc s + p ≡ suc t) ⊎ Quiet r
one_more s p t r (inl e) = inl (omega arith)
one_more s p t r (inr q) = inr q

past_flag : (s p t : ℕ) (r : Reading) → p + 7 < t → (s + p ≡ t) ⊎ Quiet r → (8 ≤ s) ⊎ Quiet r
past_flag s p t r h (inl e) = inl (omega arith)
past_flag s p t r h (inr q) = inr q

module _ {x1 x2 : ℕ} (h1 : 8 ≤ x1) (h2 : x1 + 2 ≤ x2) {c c' : Channel} (f : Follows x1 x2 c c') where
  -- the phase at the next opportunity, and what is told where the first flag has gone by
  pub record Advance (p t : ℕ) : Type 0 where
    pub phase : Phase p (suc t) c'
    pub told : p + 7 < t → Told f

  advance_still : (p t : ℕ) → p ≤ t → Idle c' → said_at x1 x2 c ≡ nothing → Advance p t
  advance_still p t h i e =
      record { phase = idle (omega arith) i; told = λ l. told_nothing f e (λ j w. omega (arith, w.sends, i.none j)) }

  advance_idle : (p t : ℕ) → p ≤ t → Quiet c.reading → Idle c' ⊎ UnderWay 1 c.reading c' → said_at x1 x2 c ≡ nothing → Advance p t
  advance_idle p t h q (inl i) e = advance_still p t h i e
  advance_idle p t h q (inr u) e =
      record {
        phase = under_way 1 c.reading u (omega arith) (inr q);
        told = λ l.
            told_nothing f e
            (λ j w.
            omega (
              arith,
              w.all,
              all_sent f.now u j w.sends,
              image_least (contender j c').body (frame (f.now.sound j) w.sends).body_held,
            ));
      }

  pub advance : (p t : ℕ) → Phase p t c → Advance p t
  advance p t (idle h q) = let w = idle_goes f q in advance_idle p t h q.quiet w.0 w.1
  advance p t (under_way s r u h k) =
      let w = echoed_some u in
      let i = w.0 in
      let sent = all_sent f.before u i w.1.sends in
      by_test (ltb s (length (image (contender i c).body)))
      (λ l.
      let u' = goes_next f u i w.1 (ltb-true s (length (image (contender i c).body)) l) in
      record { phase = under_way (suc s) r u' (omega arith) (one_more s p t r k); told = λ m. told_going f u (past_flag s p t r m k) u' })
      (λ l.
      let all : Whole i c =
      record {
        sends = w.1.sends;
        echoed = w.1.agrees;
        all = omega (arith, sent, ltb-false s (length (image (contender i c).body)) l, (frame (f.before.sound i) w.1.sends).part);
      }
      in
      let v = completes_next f h1 h2 u i all in
      advance_still p t (omega arith) v.0 v.1)
