-- Laws of octets and of the bits that they stand for.
use mathlib.Core.Bool.{Bool, true, false, cond}
use mathlib.Core.List.{List, [], ◌∷◌, ◌++◌}
use mathlib.Core.Path.{◌≡◌, refl, ◌∙◌}
use Prim.Native.Nat.{ℕ, zero, suc, ◌+◌, ◌*◌, ◌/◌, ◌%◌, ◌^◌, ◌<◌}
use native.Mathlib.Nat.{two-pow-succ, div-div-eq-div-mul, div-one, zero-div, pow-succ'}
use native.Mathlib.Omega.{arith}
use lib.ListN.{length, take, drop, get_or, replicate}
use lib.Seq.{drop-drop, drop-nil}
use borrow.Author.Tests.{eq-eqb, ne_eqb}
use Rattle.hdlc.specs.Bits.{low_bits, number_low_first, octets, bit_of}

-- one more bit adds its power of two
pub number_snoc : (bs : List Bool) (b : Bool) → number_low_first (bs ++ (b ∷ [])) ≡ number_low_first bs + cond b (2 ^ length bs) 0
unfolding number_low_first
number_snoc [] true = refl
number_snoc [] false = refl
number_snoc (x ∷ xs) true = rw (number_snoc xs true) (omega (arith, two-pow-succ (length xs)))
number_snoc (x ∷ xs) false = rw (number_snoc xs false) (omega arith)

-- 0s at the end add nothing to a number
number_zeros : (n k : ℕ) → number_low_first (take n (replicate k false)) ≡ 0
unfolding number_low_first
number_zeros zero k = refl
number_zeros (suc n) zero = refl
number_zeros (suc n) (suc k) = rw (number_zeros n k)

take_zeros : (n : ℕ) (bs : List Bool) (k : ℕ) → number_low_first (take n (bs ++ replicate k false)) ≡ number_low_first (take n bs)
unfolding number_low_first
take_zeros zero bs k = refl
take_zeros (suc n) [] k = number_zeros (suc n) k
take_zeros (suc n) (b ∷ bs) k = rw (take_zeros n bs k)

pub window_zeros : (d n : ℕ) (bs : List Bool) (k : ℕ)
    → number_low_first (take n (drop d (bs ++ replicate k false))) ≡ number_low_first (take n (drop d bs))
window_zeros zero n bs k = take_zeros n bs k
window_zeros (suc d) n [] zero = refl
window_zeros (suc d) n [] (suc k) = window_zeros d n [] k ∙ rw (drop-nil d)
window_zeros (suc d) n (b ∷ bs) k = window_zeros d n bs k

pub length_octets : (n : ℕ) (bs : List Bool) → length (octets n bs) ≡ n
unfolding octets
length_octets zero bs = refl
length_octets (suc n) bs = rw (length_octets n (drop 8 bs))

-- an octet stands for eight bits
pub get_d_octets : (n : ℕ) (bs : List Bool) (i : ℕ) → i < n → get_or (octets n bs) i 0 ≡ number_low_first (take 8 (drop (8 * i) bs))
unfolding octets
get_d_octets zero bs i h = absurd (omega arith)
get_d_octets (suc n) bs zero h = refl
get_d_octets (suc n) bs (suc i) h =
    let e : 8 * suc i ≡ 8 + 8 * i = omega arith in
    rw (e, ← drop-drop (8 * i) 8 bs) (get_d_octets n (drop 8 bs) i (omega arith))

-- the low-order bits of a number are the bits of an octet
pub low_bit : (n y k : ℕ) → k < n → get_or (low_bits n y) k false ≡ bit_of y k
unfolding low_bits bit_of
low_bit zero y k h = absurd (omega arith)
low_bit (suc n) y zero h = simp div-one
low_bit (suc n) y (suc k) h = low_bit n (y / 2) k (omega arith) ∙ simp (div-div-eq-div-mul, pow-succ')

-- the bits of a number are those that it stands for
pub number_bit : (bs : List Bool) (k : ℕ) → bit_of (number_low_first bs) k ≡ get_or bs k false
unfolding number_low_first bit_of
number_bit [] k = simp zero-div
number_bit (true ∷ bs) zero = rw (div-one (1 + 2 * number_low_first bs)) (eq-eqb ((1 + 2 * number_low_first bs) % 2) 1 (omega arith))
number_bit (false ∷ bs) zero = rw (div-one (0 + 2 * number_low_first bs)) (ne_eqb ((0 + 2 * number_low_first bs) % 2) 1 (λ z. omega arith))
number_bit (true ∷ bs) (suc k) =
    let e : (1 + 2 * number_low_first bs) / 2 ≡ number_low_first bs = omega arith in
    rw (pow-succ' 2 k, ← div-div-eq-div-mul (1 + 2 * number_low_first bs) 2 (2 ^ k), e) (number_bit bs k)
number_bit (false ∷ bs) (suc k) =
    let e : (0 + 2 * number_low_first bs) / 2 ≡ number_low_first bs = omega arith in
    rw (pow-succ' 2 k, ← div-div-eq-div-mul (0 + 2 * number_low_first bs) 2 (2 ^ k), e) (number_bit bs k)
