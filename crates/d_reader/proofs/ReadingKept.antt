-- The reader's record and the lent octets stand for a reading of raw bits: so they do at first, and after every call; and the answer means
-- what the reader over raw bits says.
use mathlib.Core.Bool.{Bool, true, false, cond}
use mathlib.Core.List.{List, [], ◌∷◌, ◌++◌, append_assoc}
use mathlib.Core.Path.{◌≡◌, refl, ap, sym, subst, ◌∙◌}
use Prim.Native.Nat.{ℕ, ◌+◌, ◌-◌, ◌*◌, ◌/◌, ◌%◌, ◌≤◌, ◌<◌}
use native.Mathlib.Omega.{arith}
use lib.Dec.{ltb, leb, eqb}
use lib.ListN.{length, take, drop, replicate, length-append, length-take, length-set}
use lib.Seq.{get_or-take, ext_get_or}
use borrow.Author.Tests.{lt-ltb, le-ltb, ltb-true, ltb-false, lt-leb, leb-true, eqb-true}
use Rattle.test_lemmas.proofs.ByCases.{by_test, both, clash, below}
use Rattle.hdlc.specs.Bits.{octets}
use Rattle.hdlc.specs.Image.{longest_body}
use Rattle.hdlc.specs.Ones.{leading}
use Rattle.hdlc.specs.Reading.{Reading, unstuff, reversed, rest, torn, cleared, starts_with, contents, between, aborted, said, next}
use Rattle.hdlc.proofs.OctetLaws.{length_octets, get_d_octets}
use Rattle.hdlc.proofs.RawLaws.{data_of, data_one, data_zero, data_inserted, data_leading, contents_drop}
use Rattle.hdlc.proofs.ReadingLaws.{after, bit_adds, bit_silent, waiting_silent}
use Rattle.packing.specs.Octets.{WholeOctets}
use Rattle.packing.proofs.KeptLaws.{eighth, kept_none, kept_stored, kept_on_lem, whole_before}
use Rattle.d_reader.specs.Counters.{Read, most_bits, fresh_reader, one_more, take_up, after_bit, is_data, fills, store_whole, between_flags, aborted_after, answer_to, read_bit, read_octets}
use Rattle.d_reader.specs.StandsFor.{ones_since_zero, zero_counts, capped, FrameRead, StandsFor, reader_says, reader_meaning, ReadsOn}
use Rattle.d_reader.specs.Calls.{reader_after, octets_after}
use Rattle.d_reader.proofs.RawOnes.{ones_leading, leading_since, data_flag, next_zero, next_flag, next_seven, said_flag, said_seven}
use Rattle.std.specs.Prelude.{Ok}
use Rattle.d_reader.specs.declared.Reader.{Reader}
use Rattle.d_reader.specs.declared.ReaderAnswer.TheVariants.{Nothing}

-- A fresh reader stands for a cleared reading, with any octets.
pub stands_fresh : (buf : List ℕ) → StandsFor fresh_reader buf cleared
unfolding ones_since_zero
stands_fresh buf = record { same_state = refl; ones_is = refl; frame = λ x. clash false x refl }

capped_more : (n : ℕ) → one_more (capped n) ≡ capped (n + 1)
unfolding one_more capped
capped_more n =
    by_test (ltb n most_bits)
    (λ e. by_test (ltb (n + 1) most_bits) (λ f. simp (e, f)) (λ f. simp (e, f) (omega (arith, ltb-true n most_bits e, ltb-false (n + 1) most_bits f))))
    (λ e. simp (e, le-ltb (n + 1) most_bits (omega (arith, ltb-false n most_bits e))))

-- counted so far or not, the same bits are the eighth of an octet that is stored
eighth_capped : (n : ℕ) → eighth longest_body (capped n) ≡ eighth longest_body n
unfolding capped eighth
eighth_capped n =
    by_test (ltb n most_bits)
    (λ e. simp e)
    (λ e. let l : most_bits ≤ n = ltb-false n most_bits e in
    by_test (eqb (n % 8) 7) (λ f. simp (e, f, le-ltb n (8 * longest_body) (omega arith))) (λ f. simp (e, f)))

-- where an octet is stored, the count is that of the bits
eighth_place : (n : ℕ) → eighth longest_body n ≡ true → capped n ≡ n
unfolding capped eighth
eighth_place n e =
    simp (lt-ltb n most_bits (omega (arith, ltb-true n (8 * longest_body) (both (eqb (n % 8) 7) (ltb n (8 * longest_body)) e).1)))

-- the record after a step
module _ (r : Reader) (buf : List ℕ) (s : Reading) (long : longest_body ≤ length buf) (h : StandsFor r buf s) where
  opened_too : s.opened ≡ true → r.opened ≡ true
  opened_too o = h.same_state ∙ o

  few_leading : r.ones ≤ 5 → leading s.raw ≤ 5
  few_leading l = omega (arith, h.ones_is, ones_leading s.raw (omega (arith, h.ones_is)))

  -- what has been read since the flag
  module _ (o : s.opened ≡ true) where
    leading_is : leading (h.frame o).since ≡ r.ones
    leading_is =
        let f : FrameRead r buf s.raw = h.frame o in
        let l : leading s.raw ≡ leading f.since = ap leading f.raw_is ∙ leading_since f.since in
        omega (arith, h.ones_is, f.few, ones_leading s.raw (omega (arith, h.ones_is, f.few)))

    contents_is : contents s.raw ≡ data_of (h.frame o).since
    contents_is = ap contents (h.frame o).raw_is ∙ contents_drop 0 (h.frame o).since

    contents_more : (b : Bool) → contents (b ∷ s.raw) ≡ data_of (b ∷ (h.frame o).since)
    contents_more b = ap (λ (l : List Bool). contents (b ∷ l)) (h.frame o).raw_is ∙ contents_drop 0 (b ∷ (h.frame o).since)

    -- a data bit
    data_frame : (b : Bool) (n : ℕ) (z : Bool) → is_data b r.ones ≡ true → n ≤ 6 → z ≡ zero_counts (b ∷ (h.frame o).since)
        → data_of (b ∷ (h.frame o).since) ≡ data_of (h.frame o).since ++ (b ∷ [])
        → FrameRead (take_up b n z r) (store_whole b r buf) (b ∷ s.raw)
    unfolding store_whole fills eighth
    data_frame b n z k few e d =
        let f : FrameRead r buf s.raw = h.frame o in
        let D : List Bool = contents s.raw in
        let d' : contents (b ∷ s.raw) ≡ D ++ (b ∷ []) = contents_more b ∙ (d ∙ ap (λ (l : List Bool). l ++ (b ∷ [])) (sym contents_is)) in
        let p : b ∷ s.raw ≡ b ∷ (f.since ++ (false ∷ [])) = ap (λ (x : List Bool). b ∷ x) f.raw_is in
        let c : one_more r.bits ≡ capped (length (contents (b ∷ s.raw))) = rw (f.bits_is, d', length-append) (capped_more (length D)) in
        let x : eighth longest_body r.bits ≡ eighth longest_body (length D) = ap (λ (i : ℕ). eighth longest_body i) f.bits_is ∙ eighth_capped (length D) in
        by_test (eighth longest_body (length D))
        (λ t. let m : r.bits ≡ length D = f.bits_is ∙ eighth_place (length D) t in
        simp (opened_too o, k, x ∙ t)
        (record { since = b ∷ f.since; raw_is = p; few = few; zero_is = e; bits_is = c; kept = rw (d', m) (kept_stored longest_body D b f.kept long t) }))
        (λ t. simp (opened_too o, k, x ∙ t)
        (record { since = b ∷ f.since; raw_is = p; few = few; zero_is = e; bits_is = c; kept = rw d' (kept_on_lem longest_body D b f.kept t) }))

  keeps_one : ltb r.ones 6 ≡ true → StandsFor (after_bit true r) (store_whole true r buf) (next s true)
  unfolding after_bit is_data ones_since_zero zero_counts
  keeps_one t =
      let l : r.ones < 6 = ltb-true r.ones 6 t in
      simp t
      (rw (bit_adds s.opened s.raw true (few_leading (omega arith)))
      (record {
        same_state = h.same_state;
        ones_is = simp (rw h.ones_is at t) (ap (λ (k : ℕ). k + 1) h.ones_is);
        frame = λ o. data_frame o true (r.ones + 1) r.zero t (omega arith) (h.frame o).zero_is (data_one (h.frame o).since);
      }))

  keeps_seven : ltb r.ones 6 ≡ false → StandsFor (after_bit true r) (store_whole true r buf) (next s true)
  unfolding after_bit ones_since_zero next starts_with
  keeps_seven t =
      let c : after_bit true r ≡ fresh_reader = simp t in
      let l : 6 ≤ ones_since_zero s.raw = omega (arith, ltb-false r.ones 6 t, h.ones_is) in
      by_test s.opened
      (λ o. rw (c, next_seven s (omega (arith, (h.frame o).few, h.ones_is))) (stands_fresh (store_whole true r buf)))
      (λ o. by_test (starts_with (replicate 6 true) s.raw)
      (λ e. rw c (simp e (stands_fresh (store_whole true r buf))))
      (λ e. rw c (simp e
      (record { same_state = sym o; ones_is = simp (le-ltb (ones_since_zero s.raw) 6 l); frame = λ x. clash s.opened x o }))))

  keeps_flag : eqb r.ones 6 ≡ true → StandsFor (after_bit false r) (store_whole false r buf) (next s false)
  unfolding after_bit ones_since_zero zero_counts contents reversed rest unstuff capped
  keeps_flag t =
      simp t
      (rw (next_flag s (sym h.ones_is ∙ eqb-true r.ones 6 t))
      (record {
        same_state = refl;
        ones_is = refl;
        frame = λ x.
            record {
              since = [];
              raw_is = refl;
              few = omega arith;
              zero_is = refl;
              bits_is = refl;
              kept = kept_none longest_body (store_whole false r buf);
            };
      }))

  keeps_inserted : eqb r.ones 6 ≡ false → eqb r.ones 5 ≡ true → StandsFor (after_bit false r) (store_whole false r buf) (next s false)
  unfolding after_bit is_data ones_since_zero zero_counts store_whole fills
  keeps_inserted t e =
      simp (t, e)
      (rw (next_zero s (rw h.ones_is at t))
      (record {
        same_state = h.same_state;
        ones_is = refl;
        frame = λ o.
            let f : FrameRead r buf s.raw = h.frame o in
            let five : eqb (leading f.since) 5 ≡ true = rw (leading_is o) e in
            let d : contents (false ∷ s.raw) ≡ contents s.raw = contents_more o false ∙ (data_inserted f.since five ∙ sym (contents_is o)) in
            simp (opened_too o)
            (record {
              since = false ∷ f.since;
              raw_is = ap (λ (x : List Bool). false ∷ x) f.raw_is;
              few = omega arith;
              zero_is = simp five;
              bits_is = rw d f.bits_is;
              kept = rw d f.kept;
            });
      }))

  keeps_zero : eqb r.ones 6 ≡ false → eqb r.ones 5 ≡ false → StandsFor (after_bit false r) (store_whole false r buf) (next s false)
  unfolding after_bit is_data ones_since_zero zero_counts
  keeps_zero t e =
      simp (t, e)
      (rw (next_zero s (rw h.ones_is at t))
      (record {
        same_state = h.same_state;
        ones_is = refl;
        frame = λ o.
            let five : eqb (leading (h.frame o).since) 5 ≡ false = rw (leading_is o) e in
            data_frame o false 0 r.opened (simp (t, e)) (omega arith) (simp five (opened_too o)) (data_zero (h.frame o).since five);
      }))

  keeps : (b : Bool) → StandsFor (after_bit b r) (store_whole b r buf) (next s b)
  keeps true = by_test (ltb r.ones 6) keeps_one keeps_seven
  keeps false = by_test (eqb r.ones 6) keeps_flag (λ t. by_test (eqb r.ones 5) (keeps_inserted t) (keeps_zero t))

-- whole octets in the buffer are heard
taken_octets : (n : ℕ) (bs : List Bool) (buf : List ℕ) → n ≤ longest_body → longest_body ≤ length buf → 8 * n ≤ length bs
    → WholeOctets longest_body buf bs → take n buf ≡ octets n bs
taken_octets n bs buf few long fit whole =
    ext_get_or 0 (take n buf) (octets n bs) (rw (length-take, length_octets) (omega arith))
    (λ i l. let l' : i < n = omega (arith, simp length-take at l) in
    get_or-take n buf i 0 l' ∙ (whole i (omega arith) (omega arith) ∙ sym (get_d_octets n bs i l')))

-- what lies between two flags, for the count as it is
means_between : (bs : List Bool) (buf : List ℕ) → longest_body ≤ length buf → WholeOctets longest_body buf bs
    → reader_meaning (Ok (between_flags (length bs))) buf ≡ reader_says (between bs)
unfolding between_flags between reader_meaning
means_between bs buf long whole =
    by_test (ltb (length bs) 8)
    (λ e. simp e)
    (λ e. by_test (eqb (length bs % 8) 0)
    (λ f. by_test (leb (length bs) (8 * longest_body))
    (λ g. let m : length bs ≤ 8 * longest_body = leb-true (length bs) (8 * longest_body) g in
    simp (e, f, g, taken_octets (length bs / 8) bs buf (omega arith) long (omega arith) whole))
    (λ g. simp (e, f, g)))
    (λ f. simp (e, f)))

between_torn : (bs : List Bool) → 8 * longest_body < length bs → between bs ≡ torn
unfolding between
between_torn bs l =
    by_test (eqb (length bs % 8) 0)
    (λ f. simp (le-ltb (length bs) 8 (omega arith), f, lt-leb (length bs) (8 * longest_body) l))
    (λ f. simp (le-ltb (length bs) 8 (omega arith), f))

-- the same for the count as the reader has it, with the flag's z + 6 bits
means_flag : (bs : List Bool) (z : Bool) (n bits : ℕ) (buf : List ℕ) → longest_body ≤ length buf → WholeOctets longest_body buf bs
    → n ≡ length bs + cond z 7 6 → bits ≡ capped n → reader_meaning (Ok (between_flags (bits - cond z 7 6))) buf ≡ reader_says (between bs)
unfolding capped between_flags reader_meaning
means_flag bs z n bits buf long whole e c =
    by_test (ltb n most_bits)
    (λ t. let b : bits ≡ n = c ∙ simp t in
    let equal : bits - cond z 7 6 ≡ length bs = rw (b, e) (omega arith) in
    rw equal (means_between bs buf long whole))
    (λ t. let b : bits ≡ most_bits = c ∙ simp t in
    rw b (full z e (ltb-false n most_bits t)))
  where
    full : (z : Bool) → n ≡ length bs + cond z 7 6 → most_bits ≤ n
        → reader_meaning (Ok (between_flags (most_bits - cond z 7 6))) buf ≡ reader_says (between bs)
    full true e m = rw (between_torn bs (omega arith))
    full false e m = rw (between_torn bs (omega arith))

-- .. and for what seven 1s break off
means_aborted : (bs : List Bool) (n bits : ℕ) (buf : List ℕ) → n ≡ length bs + 6 → bits ≡ capped n
    → reader_meaning (Ok (aborted_after (bits - 6))) buf ≡ reader_says (aborted bs)
unfolding capped aborted_after aborted reader_meaning
means_aborted bs n bits buf e c =
    by_test (ltb n most_bits)
    (λ t. let d : bits ≡ n = c ∙ simp t in
    let b : bits - 6 ≡ length bs = omega arith in
    rw b (by_test (ltb (length bs) 8) (λ f. simp f) (λ f. simp f)))
    (λ t. let b : bits ≡ most_bits = c ∙ simp t in
    simp (b, le-ltb (length bs) 8 (omega (arith, ltb-false n most_bits t))))

-- the answer to a step
module _ (r : Reader) (buf : List ℕ) (s : Reading) (long : longest_body ≤ length buf) (h : StandsFor r buf s) where
  -- six 1s before the bit: what is before them, and before the 0 before them
  module _ (o : s.opened ≡ true) (six : r.ones ≡ 6) where
    before_ones : (l : leading (h.frame o).since ≡ 6)
        → contents s.raw ≡ data_of (drop 6 (h.frame o).since) ++ replicate 6 true
    before_ones l = contents_is r buf s long h o ∙ (rw l at (data_leading (h.frame o).since))

    means_seven : reader_meaning (Ok (aborted_after (r.bits - 6))) (store_whole true r buf) ≡ reader_says (aborted (contents (drop 6 s.raw)))
    means_seven =
        let f : FrameRead r buf s.raw = h.frame o in
        let l : leading f.since ≡ 6 = leading_is r buf s long h o ∙ six in
        let D : List Bool = data_of (drop 6 f.since) in
        let n : length (contents s.raw) ≡ length D + 6 = ap length (before_ones l) ∙ length-append D (replicate 6 true) in
        let c : contents (drop 6 s.raw) ≡ D = ap (λ (x : List Bool). contents (drop 6 x)) f.raw_is ∙ contents_drop 6 f.since in
        rw c (means_aborted D (length (contents s.raw)) r.bits (store_whole true r buf) n f.bits_is)

    means_closing : reader_meaning (Ok (between_flags (r.bits - cond r.zero 7 6))) buf ≡ reader_says (between (contents (drop 7 s.raw)))
    means_closing =
        let f : FrameRead r buf s.raw = h.frame o in
        let l : leading f.since ≡ 6 = leading_is r buf s long h o ∙ six in
        let D : List Bool = data_of (drop 7 f.since) in
        let Z : List Bool = cond (zero_counts f.since) (false ∷ []) [] in
        let q : data_of (drop 6 f.since) ≡ D ++ Z = rw l at (data_flag f.since) in
        let t : contents s.raw ≡ D ++ (Z ++ replicate 6 true) = before_ones l ∙ (rw q (append_assoc D Z (replicate 6 true))) in
        let n : length (contents s.raw) ≡ length D + cond r.zero 7 6 =
        ap length t ∙ (length-append D (Z ++ replicate 6 true) ∙ rw f.zero_is (flag_length D (zero_counts f.since))) in
        let c : contents (drop 7 s.raw) ≡ D = ap (λ (x : List Bool). contents (drop 7 x)) f.raw_is ∙ contents_drop 7 f.since in
        let w : WholeOctets longest_body buf D =
        whole_before longest_body D (Z ++ replicate 6 true) buf (subst (λ (d : List Bool). WholeOctets longest_body buf d) t f.kept.whole) in
        rw c (means_flag D r.zero (length (contents s.raw)) r.bits buf long w n f.bits_is)
      where
        flag_length : (D : List Bool) (z : Bool) → length D + length (cond z (false ∷ []) [] ++ replicate 6 true) ≡ length D + cond z 7 6
        flag_length D true = refl
        flag_length D false = refl

    means_six : (b : Bool) → reader_meaning (Ok (answer_to b r)) (store_whole b r buf) ≡ reader_says (said s b)
    unfolding answer_to store_whole fills is_data
    means_six true =
        let e : answer_to true r ≡ aborted_after (r.bits - 6) = simp (h.same_state ∙ o, six) in
        rw (e, said_seven s (sym h.ones_is ∙ six) o) means_seven
    means_six false =
        let e : answer_to false r ≡ between_flags (r.bits - cond r.zero 7 6) = simp (h.same_state ∙ o, six) in
        let f : store_whole false r buf ≡ buf = simp (h.same_state ∙ o, six) in
        rw (e, f, said_flag s (sym h.ones_is ∙ six) o) means_closing

  means : (b : Bool) → reader_meaning (Ok (answer_to b r)) (store_whole b r buf) ≡ reader_says (said s b)
  unfolding answer_to reader_meaning
  means b =
      by_test s.opened
      (λ o. by_test (eqb r.ones 6)
      (λ t. means_six o (eqb-true r.ones 6 t) b)
      (λ t. let e : answer_to b r ≡ Nothing = simp (h.same_state ∙ o, t) in
      let l : leading s.raw ≤ 5 = few_leading r buf s long h (omega (arith, below r.ones 6 (h.frame o).few t)) in
      rw (e, bit_silent s.opened s.raw b l)))
      (λ o. let e : answer_to b r ≡ Nothing = simp (h.same_state ∙ o) in
      rw (e, waiting_silent s b o))

length_stored : (b : Bool) (r : Reader) (buf : List ℕ) → length (store_whole b r buf) ≡ length buf
unfolding store_whole
length_stored b r buf = by_test (fills b r) (λ e. simp (e, length-set)) (λ e. simp e)

-- a step of the call, where the buffer is long enough
module _ (b : Bool) (r : Reader) (buf : List ℕ) (long : longest_body ≤ length buf) where
  pub read_is : read_bit b buf r ≡ record { reader = after_bit b r; answer = Ok (answer_to b r) }
  unfolding read_bit
  read_is = simp (le-ltb (length buf) longest_body long)

  pub octets_is : read_octets b r buf ≡ store_whole b r buf
  unfolding read_octets
  octets_is = simp (le-ltb (length buf) longest_body long)

pub length_read_octets : (b : Bool) (r : Reader) (buf : List ℕ) → length (read_octets b r buf) ≡ length buf
unfolding read_octets
length_read_octets b r buf = by_test (ltb (length buf) longest_body) (λ t. simp t) (λ t. simp t (length_stored b r buf))

-- A call is a step of the reader over raw bits.
pub reads_on : (r : Reader) (buf : List ℕ) (b : Bool) (after : Read) (left : List ℕ) → after ≡ read_bit b buf r → left ≡ read_octets b r buf
    → ReadsOn r buf b after left
reads_on r buf b after left e f s long h =
    rw (e ∙ read_is b r buf long, f ∙ octets_is b r buf long) (means r buf s long h b, keeps r buf s long h b)

-- Calls one after the other, from any record and octets that stand for a reading.
pub stands_after : (bs : List Bool) (r : Reader) (buf : List ℕ) (s : Reading) → longest_body ≤ length buf → StandsFor r buf s
    → StandsFor (reader_after bs r buf) (octets_after bs r buf) (after s bs) × (longest_body ≤ length (octets_after bs r buf))
unfolding after reader_after octets_after
stands_after [] r buf s long h = (h, long)
stands_after (b ∷ bs) r buf s long h =
    rw (read_is b r buf long, octets_is b r buf long)
    (stands_after bs (after_bit b r) (store_whole b r buf) (next s b) (rw (length_stored b r buf) long) (keeps r buf s long h b))

-- For every list of bits, from the fresh reader, with any buffer that is long enough: the answer to the next bit means what the reader
-- over raw bits says.
pub counters_say : (bs : List Bool) (b : Bool) (buf : List ℕ) → longest_body ≤ length buf
    → reader_meaning
    (read_bit b (octets_after bs fresh_reader buf) (reader_after bs fresh_reader buf)).answer
    (read_octets b (reader_after bs fresh_reader buf) (octets_after bs fresh_reader buf))
    ≡ reader_says (said (after cleared bs) b)
counters_say bs b buf long =
    let x : StandsFor (reader_after bs fresh_reader buf) (octets_after bs fresh_reader buf) (after cleared bs) × (longest_body ≤ length (octets_after bs fresh_reader buf)) =
    stands_after bs fresh_reader buf cleared long (stands_fresh buf) in
    (reads_on (reader_after bs fresh_reader buf) (octets_after bs fresh_reader buf) b _ _ refl refl (after cleared bs) x.1 x.0).0
