-- Rules: the frame from a terminal to the network (document 01, "Terminals to network"; table 5-1).
-- Interface: `single`, `up_bits`, `up_line`, `up_fields_of`. Assumes nothing.
use Rattle.std.specs.Prelude.{Bool, false, List, [], ◌∷◌, ◌++◌, ℕ}
use Rattle.frame.specs.Bits.{octet_bits, balanced, octet_at, d_bits, fa_bit}
use Rattle.frame.specs.Polarity.{symbols}
use Rattle.symbols.specs.Symbols.{levels}
use Rattle.frame.specs.declared.fields.UpFields.{UpFields}

-- A group of one bit with its L.
abbrev pub single : Bool → List Bool
single b = balanced (b ∷ [])

-- All 48: each group is followed by the L that makes its number of 0s even. F is 0.
unfoldable pub up_bits : UpFields → List Bool
up_bits f =
    single false  -- 1-2 F L
    ++ (balanced (octet_bits f.b1first)  -- 3-11 B1 L
    ++ (single f.d.first  -- 12-13 D L
    ++ (single f.fa  -- 14-15 FA L
    ++ (balanced (octet_bits f.b2first)  -- 16-24 B2 L
    ++ (single f.d.second  -- 25-26 D L
    ++ (balanced (octet_bits f.b1second)  -- 27-35 B1 L
    ++ (single f.d.third  -- 36-37 D L
    ++ (balanced (octet_bits f.b2second)  -- 38-46 B2 L
    ++ single f.d.fourth))))))))  -- 47-48 D L

-- The frame as it is written.
unfoldable pub up_line : UpFields → List ℕ
up_line f = symbols (up_bits f)

-- The fields that 48 bits hold, by position.
unfoldable pub up_fields : List Bool → UpFields
up_fields bits = record {
  b1first = octet_at 3 bits;
  b2first = octet_at 16 bits;
  b1second = octet_at 27 bits;
  b2second = octet_at 38 bits;
  d = d_bits bits;
  fa = fa_bit bits;
}

-- The fields that a line holds at symbol level.
abbrev pub up_fields_of : List ℕ → UpFields
up_fields_of line = up_fields (levels line)
