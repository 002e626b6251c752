-- What a bit more leaves of what the reader has said, by its answer; and four 1s, where it waits (`four_ones`).
use mathlib.Core.Bool.{Bool, true, false, not, beq, ◌&&◌}
use mathlib.Core.List.{List}
use mathlib.Core.Path.{◌≡◌, refl}
use Prim.Native.Nat.{ℕ}
use lib.Dec.{eqb, ltb}
use lib.ListN.{length}
use borrow.Author.Tests.{eqb-true, not-true}
use Rattle.test_lemmas.proofs.ByCases.{by_test}
use Rattle.test_lemmas.proofs.Operators.{and_both}
use Rattle.std.proofs.Common.{arith}
use Rattle.std.proofs.lemmas.Grind.{common_steps}
use Rattle.std.specs.Prelude.{Result, Ok, Err}
use Rattle.refusals.specs.declared.Refusal.{Refusal}
use Rattle.hdlc.specs.Image.{longest_body}
use Rattle.frame.specs.Four.{all_four}
use Rattle.frame.specs.declared.fields.Four.{Four}
use Rattle.d_reader.specs.Counters.{Read, fresh_reader, after_bit, answer_to, fills, store_whole, read_bit, read_octets}
use Rattle.d_reader.specs.declared.Reader.{Reader}
use Rattle.d_reader.specs.declared.ReaderAnswer.{ReaderAnswer}
use Rattle.d_reader.specs.declared.ReaderAnswer.TheVariants.{Nothing, Heard, Torn}
use Rattle.bus_record.specs.Reading.{quiet_reading, said_with, spoken_to, octets_to, spoken_to_four, octets_to_four, reader_waits}
use Rattle.bus_record.specs.declared.reading.Spoken.{Spoken}

module _ (b : Bool) (buf : List ℕ) (s : Spoken) (x : Read) (e : x ≡ read_bit b buf s.reader) where
  answered : spoken_to b buf s ≡ said_with x.answer x.reader s
  unfolding spoken_to
  answered = rw e

  pub heard_said : (n : ℕ) → x.answer ≡ Ok (Heard n) → ◌≡◌ {A = Spoken} (record { reader = x.reader; said = Heard n }) (spoken_to b buf s)
  unfolding said_with
  heard_said n a = rw (answered, a)

  pub torn_said : x.answer ≡ Ok Torn → ◌≡◌ {A = Spoken} (record { reader = x.reader; said = Torn }) (spoken_to b buf s)
  unfolding said_with
  torn_said a = rw (answered, a)

  -- where neither a frame was heard nor one torn, nothing is said
  silent : (a : Result ReaderAnswer Refusal) → ((n : ℕ) → a ≡ Ok (Heard n) → ⊥) → (a ≡ Ok Torn → ⊥)
      → ◌≡◌ {A = Spoken} (record { reader = x.reader; said = s.said }) (said_with a x.reader s)
  unfolding said_with
  silent (Ok Nothing) h t = refl
  silent (Ok (Heard n)) h t = absurd (h n refl)
  silent (Ok Torn) h t = absurd (t refl)
  silent (Err k) h t = refl

  pub none_said : ((n : ℕ) → x.answer ≡ Ok (Heard n) → ⊥) → (x.answer ≡ Ok Torn → ⊥)
      → ◌≡◌ {A = Spoken} (record { reader = x.reader; said = s.said }) (spoken_to b buf s)
  none_said h t = rw answered (silent x.answer h t)

-- four bits one after the other
pub four_read_lem : (ds : Four) (buf b1 b2 b3 b4 : List ℕ) (s s1 s2 s3 s4 : Spoken)
    → s1 ≡ spoken_to ds.first buf s → b1 ≡ octets_to ds.first s buf
    → s2 ≡ spoken_to ds.second b1 s1 → b2 ≡ octets_to ds.second s1 b1
    → s3 ≡ spoken_to ds.third b2 s2 → b3 ≡ octets_to ds.third s2 b2
    → s4 ≡ spoken_to ds.fourth b3 s3 → b4 ≡ octets_to ds.fourth s3 b3
    → (s4 ≡ spoken_to_four ds buf s) × (b4 ≡ octets_to_four ds s buf)
unfolding spoken_to_four octets_to_four
four_read_lem ds buf b1 b2 b3 b4 s s1 s2 s3 s4 e1 f1 e2 f2 e3 f3 e4 f4 =
    (simp (e4, f3, e3, f2, e2, f1, e1), simp (f4, f3, e3, f2, e2, f1, e1))

-- ---- The reader: 1s after seven 1s.
module _ (buf : List ℕ) where
  one_said : spoken_to true buf (quiet_reading fresh_reader) ≡ quiet_reading fresh_reader
  unfolding spoken_to read_bit after_bit answer_to said_with
  one_said = by_test (ltb (length buf) longest_body) (λ t. rw t) (λ t. rw t)

  one_stored : octets_to true (quiet_reading fresh_reader) buf ≡ buf
  unfolding octets_to read_octets store_whole fills
  one_stored = by_test (ltb (length buf) longest_body) (λ t. rw t) (λ t. rw t)

  four_said : spoken_to_four (all_four true) buf (quiet_reading fresh_reader) ≡ quiet_reading fresh_reader
  unfolding spoken_to_four
  four_said = rw (one_stored, one_said, one_stored, one_said, one_stored, one_said, one_said)

  four_stored : octets_to_four (all_four true) (quiet_reading fresh_reader) buf ≡ buf
  unfolding octets_to_four
  four_stored = rw (one_stored, one_said, one_stored, one_said, one_stored, one_said, one_stored)

waits_fresh : (r : Reader) → reader_waits r ≡ true → r ≡ fresh_reader
unfolding reader_waits
waits_fresh r h =
    let a = and_both _ (not r.zero) h in
    let b = and_both _ (not r.opened) a.0 in
    let c = and_both _ (eqb r.octet 0) b.0 in
    let d = and_both (eqb r.bits 0) (eqb r.ones 7) c.0 in
    made (eqb-true _ _ d.0) (eqb-true _ _ d.1) (eqb-true _ _ c.1) (not-true _ b.1) (not-true _ a.1)
  where
    made : {bits ones octet : ℕ} {opened zero : Bool} → bits ≡ 0 → ones ≡ 7 → octet ≡ 0 → opened ≡ false → zero ≡ false
        → record { bits = bits; ones = ones; octet = octet; opened = opened; zero = zero } ≡ fresh_reader
    made p q r s t = cc

-- so a reader that waits reads four 1s as if nothing came
pub four_ones : (buf : List ℕ) (r : Reader) → reader_waits r ≡ true
    → (spoken_to_four (all_four true) buf (quiet_reading r) ≡ quiet_reading r) × (octets_to_four (all_four true) (quiet_reading r) buf ≡ buf)
four_ones buf r h = let w = waits_fresh r h in (rw w (four_said buf), rw w (four_stored buf))

-- as the code finds it
pub ones_read : (buf : List ℕ) (r : Reader) (ds : Four) → (reader_waits r && (((ds.first && ds.second) && ds.third) && ds.fourth)) ≡ true
    → (spoken_to_four ds buf (quiet_reading r) ≡ quiet_reading r) × (octets_to_four ds (quiet_reading r) buf ≡ buf)
ones_read buf r ds h =
    let p = and_both (reader_waits r) (((ds.first && ds.second) && ds.third) && ds.fourth) h in
    let q = and_both ((ds.first && ds.second) && ds.third) ds.fourth p.1 in
    let s = and_both (ds.first && ds.second) ds.third q.0 in
    let t = and_both ds.first ds.second s.0 in
    let all : ds ≡ all_four true = four t.0 t.1 s.1 q.1 in
    rw all (four_ones buf r p.0)
  where
    four : {a b c d : Bool} → a ≡ true → b ≡ true → c ≡ true → d ≡ true → record { first = a; second = b; third = c; fourth = d } ≡ all_four true
    four a b c d = cc

-- ---- The comparison with a fresh reader, field by field, as the derived `==` has it.
is_off : (b : Bool) → beq b false ≡ not b
is_off true = refl
is_off false = refl

other_order : (a b c d e : Bool) → (a && (b && (c && (d && e)))) ≡ ((((a && b) && c) && d) && e)
other_order a b c d e = grind (arith, common_steps)

pub by_fields : (r f : Reader) → f ≡ fresh_reader
    → (eqb r.bits f.bits && (eqb r.ones f.ones && (eqb r.octet f.octet && (beq r.opened f.opened && beq r.zero f.zero)))) ≡ reader_waits r
unfolding reader_waits
by_fields r f e = simp (e, is_off) (other_order (eqb r.bits 0) (eqb r.ones 7) (eqb r.octet 0) (not r.opened) (not r.zero))
