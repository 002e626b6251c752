-- Every method keeps every field in its range, of every record in range.
use mathlib.Core.Bool.{Bool, true, false}
use mathlib.Core.List.{List}
use mathlib.Core.Path.{◌≡◌, refl}
use Prim.Native.Nat.{ℕ, ◌≤◌}
use native.Mathlib.Omega.{arith}
use lib.Dec.{ltb, leb, eqb}
use lib.ListN.{length}
use borrow.Author.Tests.{le-ltb, ltb-true, ltb-false, le-leb}
use Rattle.test_lemmas.proofs.ByCases.{by_test, neither}
use Rattle.hdlc.specs.Image.{longest_body}
use Rattle.d_reader.specs.Counters.{most_bits, fresh_reader, one_more, after_bit, read_bit}
use Rattle.d_reader.specs.ReaderRange.{reader_in_range}
use Rattle.d_reader.specs.declared.Reader.{Reader}

pub in_range : (r : Reader) → r.bits ≤ most_bits → r.ones ≤ 7 → reader_in_range r ≡ true
unfolding reader_in_range
in_range r most few = simp (le-ltb most_bits r.bits most) (le-leb r.ones 7 few)

-- so many bits as the range says
pub bits_most : (r : Reader) → reader_in_range r ≡ true → r.bits ≤ most_bits
unfolding reader_in_range
bits_most r h = ltb-false most_bits r.bits (neither (ltb most_bits r.bits) (leb r.ones 7) h).0

pub fresh_in_range : reader_in_range fresh_reader ≡ true
unfolding reader_in_range
fresh_in_range = refl

more_most : (n : ℕ) → one_more n ≤ most_bits
unfolding one_more
more_most n = by_test (ltb n most_bits) (λ t. simp t (omega (arith, ltb-true n most_bits t))) (λ t. simp t (omega arith))

module _ (r : Reader) (h : reader_in_range r ≡ true) where
  after_in_range : (b : Bool) → reader_in_range (after_bit b r) ≡ true
  unfolding after_bit
  after_in_range true =
      by_test (ltb r.ones 6)
      (λ t. simp t (in_range _ (more_most r.bits) (omega (arith, ltb-true r.ones 6 t))))
      (λ t. simp t fresh_in_range)
  after_in_range false =
      by_test (eqb r.ones 6)
      (λ t. simp t (in_range _ (omega arith) (omega arith)))
      (λ t. by_test (eqb r.ones 5)
      (λ e. simp (t, e) (in_range _ (bits_most r h) (omega arith)))
      (λ e. simp (t, e) (in_range _ (more_most r.bits) (omega arith))))

  pub read_in_range : (b : Bool) (buf : List ℕ) → reader_in_range (read_bit b buf r).reader ≡ true
  unfolding read_bit
  read_in_range b buf = by_test (ltb (length buf) longest_body) (λ t. simp t h) (λ t. simp t (after_in_range b))
