-- Bits and the numbers that they are.
use mathlib.Core.Path.{◌≡◌, refl}
use mathlib.Core.Bool.{Bool, true, false}
use mathlib.Core.List.{List, [], ◌∷◌, ◌++◌}
use Prim.Native.Nat.{ℕ, suc, ◌+◌, ◌*◌, ◌/◌, ◌%◌, ◌^◌, ◌<◌}
use native.Mathlib.Nat.{two-pow-succ, pow-suc, add-mul, mul_assoc, mul-one, mul-lt-mul_of_pos_right}
use native.Mathlib.Omega.{arith}
use borrow.Author.Tests.{eqb-true, eq-eqb, ne_eqb}
use lib.Dec.{eqb}
use mir.Val.{bool_byte}
use lib.ListN.{length, length-append}
use lib.Pow.{pow-add, pow_pos}
use lib.Count.{ones, ones_cat}
use Rattle.frame.specs.Bits.{bit, number_high_first, octet_bits, zeros}
use Rattle.frame.specs.Word.{top, top_bits}
use Rattle.test_lemmas.proofs.ByCases.{at_each_below}

pub bit_lt : (b : Bool) → bit b < 2
bit_lt true = omega arith
bit_lt false = omega arith

pub number_lt : (bs : List Bool) → number_high_first bs < 2 ^ length bs
unfolding number_high_first
number_lt [] = omega arith
number_lt (true ∷ bs) = omega (arith, number_lt bs, two-pow-succ (length bs))
number_lt (false ∷ bs) = omega (arith, number_lt bs, two-pow-succ (length bs))

-- An octet is the number that its bits are.
pub octet_number : (x : ℕ) → x < 256 → number_high_first (octet_bits x) ≡ x
unfolding number_high_first octet_bits
octet_number x h = eqb-true (number_high_first (octet_bits x)) x (at_each_below (λ k. eqb (number_high_first (octet_bits k)) k) 256 x refl h)

pub number_append : (xs ys : List Bool) → number_high_first (xs ++ ys) ≡ number_high_first xs * 2 ^ length ys + number_high_first ys
unfolding number_high_first
number_append [] ys = omega arith
number_append (x ∷ xs) ys =
    let p : bit x * 2 ^ length (xs ++ ys) ≡ bit x * 2 ^ length xs * 2 ^ length ys = rw (length-append, pow-add, ← mul_assoc) in
    let q : (bit x * 2 ^ length xs + number_high_first xs) * 2 ^ length ys ≡ bit x * 2 ^ length xs * 2 ^ length ys + number_high_first xs * 2 ^ length ys = rw add-mul in
    omega (arith, number_append xs ys)

pub number_last : (xs : List Bool) (b : Bool) → number_high_first (xs ++ (b ∷ [])) ≡ number_high_first xs * 2 + bit b
unfolding number_high_first
number_last xs b = omega (arith, number_append xs (b ∷ []))

-- The 1s of a number and the 0s of its bits are all the bits.
pub ones_zeros : (bs : List Bool) → ones (number_high_first bs) + zeros bs ≡ length bs
unfolding number_high_first zeros ones
ones_zeros [] = refl
ones_zeros (true ∷ bs) = omega (arith, ones_zeros bs, ones_cat (length bs) 1 (number_high_first bs) (number_lt bs))
ones_zeros (false ∷ bs) = omega (arith, ones_zeros bs, ones_cat (length bs) 0 (number_high_first bs) (number_lt bs))

-- The highest of 46 bits, taken off.
taken : (b : Bool) (r : ℕ) → r < top → (eqb ((bit b * top + r) / top) 1 ≡ b) × ((bit b * top + r) % top ≡ r)
taken true r h = (eq-eqb ((1 * top + r) / top) 1 (omega arith), omega arith)
taken false r h = (ne_eqb ((0 * top + r) / top) 1 (omega arith), omega arith)

-- The highest bits of a number, moved to the top, are its bits.
top_bits_at : (bs : List Bool) (m : ℕ) → length bs + m ≡ 46 → top_bits (length bs) (number_high_first bs * 2 ^ m) ≡ bs
unfolding top_bits number_high_first
top_bits_at [] m h = refl
top_bits_at (b ∷ bs) m h =
    let long : length bs + m ≡ 45 = omega arith in
    let whole : 2 ^ length bs * 2 ^ m ≡ top = rw (← pow-add, long) in
    let less : number_high_first bs * 2 ^ m < top = rw (← whole) (mul-lt-mul_of_pos_right (number_lt bs) (pow_pos m)) in
    let next : number_high_first bs * 2 ^ m * 2 ≡ number_high_first bs * 2 ^ suc m = rw (pow-suc, ← mul_assoc) in
    let t = taken b (number_high_first bs * 2 ^ m) less in
    rw (add-mul, mul_assoc, whole, t.0, t.1, next, top_bits_at bs (suc m) (omega arith))

pub top_bits_lem : (bs : List Bool) → length bs ≡ 46 → top_bits 46 (number_high_first bs) ≡ bs
top_bits_lem bs h = rw (h, mul-one) at (top_bits_at bs 0 (omega arith))

pub byte_bit : (b : Bool) → bool_byte b ≡ bit b
byte_bit true = refl
byte_bit false = refl
