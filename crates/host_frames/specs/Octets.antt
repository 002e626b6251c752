-- Calls: the fields of a frame (document 01, "Network to terminals" and "Terminals to network") as
-- 16 octets, with the same places in both directions: the four B octets, then bits, each an octet 0
-- or 1.
-- Interface: `fields_length`, `down_octets`, `four_from`, `down_from`, `as_down`, `up_from`, `up_part`,
-- `is_down`, `is_up`. Assumes nothing.
use Rattle.std.specs.Prelude.{Bool, false, ◌&&◌, List, [], ◌∷◌, ℕ, ◌+◌, eqb, length, take, drop, get_or}
use Rattle.symbols.specs.Symbols.{within}
use Rattle.frame.specs.Bits.{bit}
use Rattle.frame.specs.Four.{all_four}
use Rattle.frame.specs.declared.fields.Four.{Four}
use Rattle.frame.specs.declared.fields.DownFields.{DownFields}
use Rattle.frame.specs.declared.fields.UpFields.{UpFields}

abbrev pub fields_length : ℕ
fields_length = 16

-- The octets of a downward frame's fields.
unfoldable pub down_octets : DownFields → List ℕ
down_octets f =
    f.b1first  -- 0 B1
    ∷ f.b2first  -- 1 B2
    ∷ f.b1second  -- 2 B1
    ∷ f.b2second  -- 3 B2
    ∷ bit f.d.first  -- 4 D12
    ∷ bit f.d.second  -- 5 D25
    ∷ bit f.d.third  -- 6 D36
    ∷ bit f.d.fourth  -- 7 D47
    ∷ bit f.e.first  -- 8 E11
    ∷ bit f.e.second  -- 9 E24
    ∷ bit f.e.third  -- 10 E35
    ∷ bit f.e.fourth  -- 11 E46
    ∷ bit f.a  -- 12 A
    ∷ bit f.fa  -- 13 FA
    ∷ bit f.m  -- 14 M
    ∷ bit f.s  -- 15 S
    ∷ []

-- The fields that octets stand for, by place.
abbrev pub four_from : ℕ → List ℕ → Four
four_from at fs =
    record {
      first = eqb (get_or fs at 0) 1;
      second = eqb (get_or fs (at + 1) 0) 1;
      third = eqb (get_or fs (at + 2) 0) 1;
      fourth = eqb (get_or fs (at + 3) 0) 1;
    }

abbrev pub down_from : List ℕ → DownFields
down_from fs = record {
  b1first = get_or fs 0 0;
  b2first = get_or fs 1 0;
  b1second = get_or fs 2 0;
  b2second = get_or fs 3 0;
  d = four_from 4 fs;
  e = four_from 8 fs;
  a = eqb (get_or fs 12 0) 1;
  fa = eqb (get_or fs 13 0) 1;
  m = eqb (get_or fs 14 0) 1;
  s = eqb (get_or fs 15 0) 1;
}

-- An upward frame has the B octets, the D bits and FA of a downward one. Where octets are to be
-- written, every other bit is 0.
abbrev pub as_down : UpFields → DownFields
as_down f = record {
  b1first = f.b1first;
  b2first = f.b2first;
  b1second = f.b1second;
  b2second = f.b2second;
  d = f.d;
  e = all_four false;
  a = false;
  fa = f.fa;
  m = false;
  s = false;
}

abbrev pub up_part : DownFields → UpFields
up_part f = record { b1first = f.b1first; b2first = f.b2first; b1second = f.b1second; b2second = f.b2second; d = f.d; fa = f.fa }

abbrev pub up_octets : UpFields → List ℕ
up_octets f = down_octets (as_down f)

abbrev pub up_from : List ℕ → UpFields
up_from fs = up_part (down_from fs)

-- Octets that stand for the fields of a downward frame: 16, those from the first D on 0 or 1.
unfoldable pub is_down : List ℕ → Bool
is_down fs = eqb (length fs) fields_length && within 1 (drop 4 fs)

-- .. of an upward frame: those of E, A, M and S 0 as well.
abbrev pub is_up : List ℕ → Bool
is_up fs = is_down fs && (within 0 (take 5 (drop 8 fs)) && within 0 (drop 14 fs))
