-- The bits of a lent image one by one, and operators on bools.
use mathlib.Core.Path.{◌≡◌, refl}
use mathlib.Core.Bool.{Bool, true, false, cond, not, ◌&&◌, beq}
use mathlib.Core.List.{List}
use Prim.Native.Nat.{ℕ, zero, suc, ◌+◌, ◌*◌}
use native.Mathlib.Omega.{arith}
use lib.Dec.{ltb, leb-zero, leb-suc-zero, leb-suc-suc}
use lib.ListN.{get_or}
use Rattle.test_lemmas.proofs.ByCases.{by_test}
use Rattle.packing.specs.Packing.{packed_bit}
use Rattle.bus_rules.specs.Bus.{terminals}
use Rattle.exchange.specs.Part.{image_bits, bits_from, image_of, image_bit}

-- `!a`
pub not_cond : (a : Bool) → not a ≡ cond a false true
not_cond true = refl
not_cond false = refl

-- `!a & !b`
pub neither_cond : (a b : Bool) → (not a && not b) ≡ cond a false (cond b false true)
neither_cond true b = refl
neither_cond false b = not_cond b

-- `a ^ b`
pub xor_cond : (a b : Bool) → not (beq a b) ≡ cond b (not a) a
xor_cond true true = refl
xor_cond true false = refl
xor_cond false true = refl
xor_cond false false = refl

bits_at : (images : List ℕ) (at n k : ℕ) → get_or (bits_from images at n) k true ≡ cond (ltb k n) (packed_bit images (at + k)) true
unfolding bits_from
bits_at images at zero k = rw (leb-suc-zero k)
bits_at images at (suc n) zero =
    let same : at + 0 ≡ at = omega arith in
    rw (leb-suc-suc 0 n, leb-zero n, same)
bits_at images at (suc n) (suc k) =
    let same : suc at + k ≡ at + suc k = omega arith in
    rw (leb-suc-suc (suc k) n, ← same) (bits_at images (suc at) n k)

-- the bit that is sent next
pub image_at : (images : List ℕ) (i sent : ℕ) → get_or (image_of images i) sent true ≡ image_bit images i sent
unfolding image_of image_bit
image_at images i sent =
    by_test (ltb i terminals) (λ t. rw t (bits_at images (i * image_bits) image_bits sent)) (λ t. rw t)
