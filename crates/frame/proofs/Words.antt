-- The 46 bits of a frame as one number: what the parts of the code's sums are.
use mathlib.Core.Path.{◌≡◌, refl, ◌∙◌}
use mathlib.Core.Bool.{Bool, true, false, not}
use mathlib.Core.List.{List, [], ◌∷◌, ◌++◌, append_assoc}
use Prim.Native.Nat.{ℕ, ◌+◌, ◌*◌, ◌%◌, ◌<◌}
use native.Mathlib.Omega.{arith}
use borrow.Author.Tests.{eqb-true, eqb-false, eq-eqb, ne_eqb}
use lib.Dec.{eqb}
use lib.ListN.{length, drop, length-append}
use lib.Count.{ones}
use Rattle.frame.specs.Bits.{bit, number_high_first, octet_bits, zeros, balance, balanced}
use Rattle.frame.specs.Down.{down_body, down_bits}
use Rattle.frame.specs.Up.{up_bits, single}
use Rattle.frame.specs.Word.{top_bits}
use Rattle.frame.specs.declared.fields.DownFields.{DownFields}
use Rattle.frame.specs.declared.fields.UpFields.{UpFields}
use Rattle.test_lemmas.proofs.ByCases.{by_test}
use Rattle.frame.proofs.Bits.{number_append, number_last, octet_number, ones_zeros, top_bits_lem, byte_bit}
use Rattle.std.specs.Int.{from_bool}

-- An octet and three bits.
pub part_number : (x : ℕ) (a b c : Bool) → x < 256 → x * 8 + from_bool a * 4 + from_bool b * 2 + from_bool c ≡ number_high_first (octet_bits x ++ (a ∷ b ∷ c ∷ []))
unfolding number_high_first
part_number x a b c h = omega (arith, number_append (octet_bits x) (a ∷ b ∷ c ∷ []), octet_number x h, byte_bit a, byte_bit b, byte_bit c)

-- Whether a count is even, from the count of the rest.
even_of_even : (o z : ℕ) → o + z ≡ 8 → eqb (o % 2) 0 ≡ eqb (z % 2) 0
even_of_even o z h =
    by_test (eqb (z % 2) 0) (λ t. rw t (eq-eqb (o % 2) 0 (omega (arith, eqb-true (z % 2) 0 t))))
    (λ t. rw t (ne_eqb (o % 2) 0 (λ e. eqb-false (z % 2) 0 t (omega arith))))

odd_of_even : (o z : ℕ) → o + z ≡ 45 → bit (eqb (z % 2) 0) ≡ o % 2
odd_of_even o z h =
    by_test (eqb (z % 2) 0) (λ t. rw t (omega (arith, eqb-true (z % 2) 0 t)))
    (λ t. rw t (omega (arith, eqb-false (z % 2) 0 t)))

single_is : (d : Bool) → single d ≡ d ∷ d ∷ []
unfolding zeros
single_is true = refl
single_is false = refl

octet_long : (x : ℕ) → length (octet_bits x) ≡ 8
unfolding octet_bits
octet_long x = refl

-- An octet with its L and a D bit with its L.
pub group_bits : (x : ℕ) (d : Bool) → x < 256 → balanced (octet_bits x) ++ single d ≡ octet_bits x ++ (eqb (ones x % 2) 0 ∷ d ∷ d ∷ [])
group_bits x d h =
    let count : ones x + zeros (octet_bits x) ≡ 8 = rw (octet_number x h) at (ones_zeros (octet_bits x)) ∙ octet_long x in
    rw (single_is, append_assoc, even_of_even (ones x) (zeros (octet_bits x)) count)

-- The parts of a frame, joined.
pub joined_number : (p q r s t : List Bool) → length q ≡ 2 → length r ≡ 11 → length s ≡ 11 → length t ≡ 11
    → number_high_first (p ++ (q ++ (r ++ (s ++ t)))) ≡ (((number_high_first p * 4 + number_high_first q) * 2048 + number_high_first r) * 2048 + number_high_first s) * 2048 + number_high_first t
joined_number p q r s t hq hr hs ht =
    let a : length (s ++ t) ≡ 22 = rw (length-append, hs, ht) in
    let b : length (r ++ (s ++ t)) ≡ 33 = rw (length-append, hr, a) in
    let c : length (q ++ (r ++ (s ++ t))) ≡ 35 = rw (length-append, hq, b) in
    omega (
      arith,
      rw c at (number_append p (q ++ (r ++ (s ++ t)))),
      rw b at (number_append q (r ++ (s ++ t))),
      rw a at (number_append r (s ++ t)),
      rw ht at (number_append s t),
    )

zeros_last : (xs : List Bool) → zeros (xs ++ (false ∷ [])) ≡ zeros xs + 1
unfolding zeros
zeros_last [] = refl
zeros_last (x ∷ xs) = omega (arith, zeros_last xs)

-- The downward frame: N is the inverse of FA, and L is added to the number whose last bit is 0.
pair_number : (fa : Bool) → 1 + from_bool fa ≡ number_high_first (fa ∷ not fa ∷ [])
unfolding number_high_first
pair_number true = refl
pair_number false = refl

down_long : (f : DownFields) → length (balanced (down_body f)) ≡ 46
unfolding down_body octet_bits
down_long f = refl

-- The number of the bits with L at 0, and L added to it.
down_last : (f : DownFields) (n : ℕ) → n ≡ number_high_first (down_body f ++ (false ∷ [])) → top_bits 46 (n + ones n % 2) ≡ drop 2 (down_bits f)
unfolding down_bits
down_last f n e =
    let body = down_body f in
    let long : length (body ++ (false ∷ [])) ≡ 46 = rw length-append (rw length-append at (down_long f)) in
    let count : ones n + zeros body ≡ 45 = omega (arith, rw (← e, long) at (ones_zeros (body ++ (false ∷ []))), zeros_last body) in
    let sum : n + ones n % 2 ≡ number_high_first (balanced body) =
    omega (arith, number_last body false, number_last body (balance body), odd_of_even (ones n) (zeros body) count) in
    rw sum (top_bits_lem (balanced body) (down_long f))

pub down_bits_lem : (f : DownFields) (n first pair second third fourth : ℕ)
    → first ≡ number_high_first (octet_bits f.b1first ++ (f.e.first ∷ f.d.first ∷ f.a ∷ []))
    → pair ≡ 1 + from_bool f.fa
    → second ≡ number_high_first (octet_bits f.b2first ++ (f.e.second ∷ f.d.second ∷ f.m ∷ []))
    → third ≡ number_high_first (octet_bits f.b1second ++ (f.e.third ∷ f.d.third ∷ f.s ∷ []))
    → fourth ≡ number_high_first (octet_bits f.b2second ++ (f.e.fourth ∷ f.d.fourth ∷ false ∷ []))
    → n ≡ (((first * 4 + pair) * 2048 + second) * 2048 + third) * 2048 + fourth
    → top_bits 46 (n + ones n % 2) ≡ drop 2 (down_bits f)
unfolding down_body octet_bits
down_bits_lem f n first pair second third fourth h q k l m e =
    let p = octet_bits f.b1first ++ (f.e.first ∷ f.d.first ∷ f.a ∷ []) in
    let r = octet_bits f.b2first ++ (f.e.second ∷ f.d.second ∷ f.m ∷ []) in
    let s = octet_bits f.b1second ++ (f.e.third ∷ f.d.third ∷ f.s ∷ []) in
    let t = octet_bits f.b2second ++ (f.e.fourth ∷ f.d.fourth ∷ false ∷ []) in
    let joined : number_high_first (p ++ ((f.fa ∷ not f.fa ∷ []) ++ (r ++ (s ++ t)))) ≡ (((number_high_first p * 4 + number_high_first (f.fa ∷ not f.fa ∷ [])) * 2048 + number_high_first r) * 2048 + number_high_first s) * 2048 + number_high_first t =
    joined_number p (f.fa ∷ not f.fa ∷ []) r s t refl refl refl refl in
    let sum : n ≡ number_high_first (p ++ ((f.fa ∷ not f.fa ∷ []) ++ (r ++ (s ++ t)))) = omega (arith, pair_number f.fa) in
    down_last f n sum

-- The upward frame: FA and its L are alike.
alike_number : (fa : Bool) → 3 * from_bool fa ≡ number_high_first (single fa)
unfolding number_high_first zeros
alike_number true = refl
alike_number false = refl

pub up_bits_lem : (f : UpFields) (n first pair second third fourth : ℕ)
    → first ≡ number_high_first (balanced (octet_bits f.b1first) ++ single f.d.first)
    → pair ≡ 3 * from_bool f.fa
    → second ≡ number_high_first (balanced (octet_bits f.b2first) ++ single f.d.second)
    → third ≡ number_high_first (balanced (octet_bits f.b1second) ++ single f.d.third)
    → fourth ≡ number_high_first (balanced (octet_bits f.b2second) ++ single f.d.fourth)
    → n ≡ (((first * 4 + pair) * 2048 + second) * 2048 + third) * 2048 + fourth
    → top_bits 46 n ≡ drop 2 (up_bits f)
unfolding up_bits octet_bits
up_bits_lem f n first pair second third fourth h q k l m e =
    let p = balanced (octet_bits f.b1first) ++ single f.d.first in
    let r = balanced (octet_bits f.b2first) ++ single f.d.second in
    let s = balanced (octet_bits f.b1second) ++ single f.d.third in
    let t = balanced (octet_bits f.b2second) ++ single f.d.fourth in
    let joined : number_high_first (p ++ (single f.fa ++ (r ++ (s ++ t)))) ≡ (((number_high_first p * 4 + number_high_first (single f.fa)) * 2048 + number_high_first r) * 2048 + number_high_first s) * 2048 + number_high_first t =
    joined_number p (single f.fa) r s t refl refl refl refl in
    let sum : n ≡ number_high_first (p ++ (single f.fa ++ (r ++ (s ++ t)))) = omega (arith, alike_number f.fa) in
    rw sum (top_bits_lem (drop 2 (up_bits f)) refl)
