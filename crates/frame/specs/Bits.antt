-- Rules: bits, octets and counts of 0s (document 01, "The line": B octets, and what L is taken
-- over). A bit is true for 1 and false for 0.
-- Interface: `bit`, `number_high_first`, `octet_bits`, `zeros`, `balanced`, `bit_at_position`,
-- `octet_at`, `four_at`, `d_bits`, `fa_bit`, `fa_index`. Assumes nothing.
use Rattle.std.specs.Prelude.{Bool, true, false, List, [], ◌∷◌, ◌++◌, ℕ, ◌+◌, ◌-◌, ◌*◌, ◌/◌, ◌%◌, ◌^◌, eqb, length, get_or, take, drop}
use Rattle.frame.specs.declared.fields.Four.{Four}

-- A bit as a number.
abbrev pub bit : Bool → ℕ
bit true = 1
bit false = 0

-- The number that bits stand for, the first bit being the highest.
unfoldable pub number_high_first : List Bool → ℕ
number_high_first [] = 0
number_high_first (b ∷ bs) = bit b * 2 ^ length bs + number_high_first bs

-- The eight bits of an octet, the high bit first, as they stand on the line.
unfoldable pub octet_bits : ℕ → List Bool
octet_bits n =
    eqb (n / 128 % 2) 1
    ∷ eqb (n / 64 % 2) 1
    ∷ eqb (n / 32 % 2) 1
    ∷ eqb (n / 16 % 2) 1
    ∷ eqb (n / 8 % 2) 1
    ∷ eqb (n / 4 % 2) 1
    ∷ eqb (n / 2 % 2) 1
    ∷ eqb (n % 2) 1
    ∷ []

-- How many 0s a list of bits holds.
unfoldable pub zeros : List Bool → ℕ
zeros [] = 0
zeros (b ∷ bs) = (1 - bit b) + zeros bs

-- The L of some bits: 0 exactly if they hold an odd number of 0s, so that with L the 0s are even in
-- number.
abbrev pub balance : List Bool → Bool
balance bs = eqb (zeros bs % 2) 0

-- Bits with the L that makes their number of 0s even.
abbrev pub balanced : List Bool → List Bool
balanced bs = bs ++ (balance bs ∷ [])

-- The bit at position n, and the octet at positions n to n + 7. Positions are numbered from 1.
abbrev pub bit_at_position : ℕ → List Bool → Bool
bit_at_position n bits = get_or bits (n - 1) true

abbrev pub octet_at : ℕ → List Bool → ℕ
octet_at n bits = number_high_first (take 8 (drop (n - 1) bits))

-- The four bits at positions i, j, k and l.
abbrev pub four_at : ℕ → ℕ → ℕ → ℕ → List Bool → Four
four_at i j k l bits =
    record {
      first = bit_at_position i bits;
      second = bit_at_position j bits;
      third = bit_at_position k bits;
      fourth = bit_at_position l bits;
    }

-- The four D bits stand at the same positions in both directions (tables 5-1 and 5-2).
abbrev pub d_bits : List Bool → Four
d_bits bits = four_at 12 25 36 47 bits

-- FA stands at the same position in both directions; its index in a line, from 0.
abbrev pub fa_bit : List Bool → Bool
fa_bit bits = bit_at_position 14 bits

abbrev pub fa_index : ℕ
fa_index = 13

-- The index in a line, from 0, of the D at place k: the D bits have the places 0 to 3.
abbrev pub d_index : ℕ → ℕ
d_index k = get_or (11 ∷ 24 ∷ 35 ∷ 46 ∷ []) k 0
