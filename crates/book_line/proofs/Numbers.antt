-- Decimal numbers of at most seven digits: they fit, and how the loop over their digits comes on.
use mathlib.Core.Path.{◌≡◌, refl}
use mathlib.Core.Bool.{Bool, true, false, ◌&&◌}
use mathlib.Core.List.{List}
use Prim.Native.Nat.{ℕ, ◌+◌, ◌-◌, ◌*◌, ◌≤◌, ◌<◌, ◌^◌}
use native.Mathlib.Nat.{pow-suc, pow-le-pow_right}
use native.Mathlib.Numerals.{add-one}
use native.Mathlib.Omega.{arith}
use lib.Dec.{leb}
use lib.ListN.{length, get_or, drop, drop_of_length-le}
use lib.Seq.{drop-cons}
use borrow.Author.Tests.{leb-true}
use Rattle.std.specs.Prelude.{Ok, Err}
use Rattle.refusals.specs.declared.Refusal.TheVariants.{WrongLine}
use Rattle.test_lemmas.proofs.ByCases.{and_right_false}
use Rattle.test_lemmas.proofs.Operators.{and_both}
use Rattle.symbols.proofs.Scan.{Rest, rest_start}
use Rattle.text.specs.Text.{all, is_digit, onward, number}
use Rattle.text.proofs.Pieces.{all_go}
use Rattle.book_line.specs.Line.{most_digits, is_number}
use Rattle.book_line.specs.Judging.{number_of}

-- what the digits before i wrote, with those from i on, is the whole number
pub record Reading (f : List ℕ) (n i : ℕ) : Type 0 where
  pub digits : Rest (all is_digit) f i
  pub small : n < 10 ^ i
  pub reads : onward n (drop i f) ≡ number f

-- none has been read
pub reading_start : {f : List ℕ} → Reading f 0 0
reading_start = record { digits = rest_start; small = omega arith; reads = refl }

pub digit_range : (c : ℕ) → is_digit c ≡ true → (48 ≤ c) × (c ≤ 57)
digit_range c e = let b = and_both (leb 48 c) (leb c 57) e in (leb-true 48 c b.0, leb-true c 57 b.1)

module _ {f : List ℕ} {n i : ℕ} (r : Reading f n i) where
  pub reading_next : i < length f → is_digit (get_or f i 0) ≡ true → Reading f (n * 10 + (get_or f i 0 - 48)) (i + 1)
  unfolding onward
  reading_next h e =
      let d = digit_range (get_or f i 0) e in
      let w : onward n (drop i f) ≡ onward (n * 10 + (get_or f i 0 - 48)) (drop (i + 1) f) = rw (drop-cons f i 0 h, add-one i) in
      record { digits = all_go is_digit r.digits h e; small = rw (add-one i, pow-suc 10 i) (omega (arith, r.small)); reads = cc }

  pub reading_done : length f ≤ i → number f ≡ n
  unfolding onward
  reading_done h = let w : onward n (drop i f) ≡ n = rw (drop_of_length-le f h) in cc

  -- a further digit can be taken
  pub reading_small : i < most_digits → n < 1000000
  reading_small k =
      let p : 10 ^ i ≤ 10 ^ 6 = pow-le-pow_right {n = 10} (omega arith) {i = i} {j = 6} (omega arith) in omega (arith, r.small)

-- ---- The ways out.
module _ (f : List ℕ) where
  -- the code's test of a field's length has gone well
  abbrev pub sized : Bool
  sized = leb 1 (length f) && leb (length f) most_digits

  pub few : sized ≡ true → length f ≤ most_digits
  few e = leb-true (length f) most_digits (and_both (leb 1 (length f)) (leb (length f) most_digits) e).1

  pub number_unsized : sized ≡ false → Err WrongLine ≡ number_of f
  unfolding number_of is_number
  number_unsized e = rw e

  pub number_wrong : all is_digit f ≡ false → Err WrongLine ≡ number_of f
  unfolding number_of is_number
  number_wrong e = rw (and_right_false sized (all is_digit f) e)

  pub number_is : {n : ℕ} → sized ≡ true → all is_digit f ≡ true → number f ≡ n → Ok n ≡ number_of f
  unfolding number_of is_number
  number_is s e v = rw (s, e, v)
