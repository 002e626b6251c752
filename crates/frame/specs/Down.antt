-- Rules: the frame from the network to the terminals (document 01, "Network to terminals"; table
-- 5-2).
-- Interface: `down_body`, `down_bits`, `down_line`, `e_bits`, `a_bit`, `m_bit`, `s_bit`, `e_index`,
-- `a_index`, `s_index`, `down_fields_of`. Assumes nothing.
use Rattle.std.specs.Prelude.{Bool, false, not, List, [], ◌∷◌, ◌++◌, ℕ, get_or}
use Rattle.frame.specs.Bits.{octet_bits, balanced, bit_at_position, octet_at, four_at, d_bits, fa_bit}
use Rattle.frame.specs.Polarity.{symbols}
use Rattle.symbols.specs.Symbols.{levels}
use Rattle.frame.specs.declared.fields.Four.{Four}
use Rattle.frame.specs.declared.fields.DownFields.{DownFields}

-- Positions 3 to 47. N, at 15, is the inverse of FA.
unfoldable pub down_body : DownFields → List Bool
down_body f =
    octet_bits f.b1first  -- 3-10 B1
    ++ (f.e.first  -- 11 E
    ∷ f.d.first  -- 12 D
    ∷ f.a  -- 13 A
    ∷ f.fa  -- 14 FA
    ∷ not f.fa  -- 15 N
    ∷ (octet_bits f.b2first  -- 16-23 B2
    ++ (f.e.second  -- 24 E
    ∷ f.d.second  -- 25 D
    ∷ f.m  -- 26 M
    ∷ (octet_bits f.b1second  -- 27-34 B1
    ++ (f.e.third  -- 35 E
    ∷ f.d.third  -- 36 D
    ∷ f.s  -- 37 S
    ∷ (octet_bits f.b2second  -- 38-45 B2
    ++ (f.e.fourth  -- 46 E
    ∷ f.d.fourth  -- 47 D
    ∷ [])))))))

-- All 48: 1 F and 2 L are 0, and the L at 48 is 0 exactly if positions 3-47 hold an odd number of
-- 0s.
unfoldable pub down_bits : DownFields → List Bool
down_bits f = false ∷ false ∷ balanced (down_body f)

-- The frame as it is written.
unfoldable pub down_line : DownFields → List ℕ
down_line f = symbols (down_bits f)

-- The four E bits, A, M and S, of a downward frame's bits.
abbrev pub e_bits : List Bool → Four
e_bits bits = four_at 11 24 35 46 bits

abbrev pub a_bit : List Bool → Bool
a_bit bits = bit_at_position 13 bits

abbrev pub m_bit : List Bool → Bool
m_bit bits = bit_at_position 26 bits

abbrev pub s_bit : List Bool → Bool
s_bit bits = bit_at_position 37 bits

-- The indices in a line, from 0, of the E at place k, of A and of S: the E bits have the places 0
-- to 3.
abbrev pub e_index : ℕ → ℕ
e_index k = get_or (10 ∷ 23 ∷ 34 ∷ 45 ∷ []) k 0

abbrev pub a_index : ℕ
a_index = 12

abbrev pub s_index : ℕ
s_index = 36

-- The fields that 48 bits hold, by position.
unfoldable pub down_fields : List Bool → DownFields
down_fields bits = record {
  b1first = octet_at 3 bits;
  b2first = octet_at 16 bits;
  b1second = octet_at 27 bits;
  b2second = octet_at 38 bits;
  e = e_bits bits;
  d = d_bits bits;
  a = a_bit bits;
  fa = fa_bit bits;
  m = m_bit bits;
  s = s_bit bits;
}

-- The fields that a line holds at symbol level.
abbrev pub down_fields_of : List ℕ → DownFields
down_fields_of line = down_fields (levels line)
