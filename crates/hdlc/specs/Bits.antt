-- Rules: bits and octets. A bit is a Bool, true for 1. Octets go low-order bit first (document 01,
-- "D access (6.1)").
-- Interface: every name. Assumes nothing.
use Rattle.std.specs.Prelude.{Bool, true, false, cond, not, List, [], ◌∷◌, ◌++◌, ℕ, zero, suc, ◌+◌, ◌*◌, ◌/◌, ◌%◌, ◌^◌, eqb, take, drop}

-- whether two bits are equal
abbrev pub same_bit : Bool → Bool → Bool
same_bit true b = b
same_bit false b = not b

-- the first n bits of a number, low-order bit first
unfoldable pub low_bits : ℕ → ℕ → List Bool
low_bits zero y = []
low_bits (suc n) y = eqb (y % 2) 1 ∷ low_bits n (y / 2)

-- the bits of a body: eight for each octet
unfoldable pub body_bits : List ℕ → List Bool
body_bits [] = []
body_bits (o ∷ os) = low_bits 8 o ++ body_bits os

-- the number that bits stand for, the first bit being the low-order one
unfoldable pub number_low_first : List Bool → ℕ
number_low_first [] = 0
number_low_first (b ∷ bs) = cond b 1 0 + 2 * number_low_first bs

-- the first n octets of a list of bits
unfoldable pub octets : ℕ → List Bool → List ℕ
octets zero bs = []
octets (suc n) bs = number_low_first (take 8 bs) ∷ octets n (drop 8 bs)

-- bit k of an octet, from the low-order one
unfoldable pub bit_of : ℕ → ℕ → Bool
bit_of o k = eqb (o / (2 ^ k) % 2) 1
