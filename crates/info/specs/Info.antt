-- Rules: the INFO signals as lines (document 01, "The line": INFO 0 to INFO 4).
-- FA, M and S are as the 20-period cycle of Q and S bits sets them (document 02, 2.1).
-- Interface: `info0`, `repeated`, `info1`, `unset`, `filled_fields`, `info2_with`, `info2`, `info3_fields`,
-- `info3_with`, `info3`, `info4_with`, `info4`, `is_info1`. Assumes nothing.
use Rattle.std.specs.Prelude.{Bool, true, false, cond, List, [], ◌∷◌, ◌++◌, ℕ, zero, suc, replicate}
use Rattle.symbols.specs.Symbols.{line_length, none, plus, minus, same_symbols}
use Rattle.frame.specs.Four.{all_four}
use Rattle.frame.specs.Down.{down_line}
use Rattle.frame.specs.Up.{up_line}
use Rattle.frame.specs.declared.fields.Four.{Four}
use Rattle.frame.specs.declared.fields.CycleBits.{CycleBits}
use Rattle.frame.specs.declared.fields.DownFields.{DownFields}
use Rattle.frame.specs.declared.fields.UpFields.{UpFields}

-- INFO 0 is 48 nones.
abbrev pub info0 : List ℕ
info0 = replicate line_length none

-- A list n times over, and two symbols with six nones six times over.
abbrev pub times : ℕ → List ℕ → List ℕ
times zero l = []
times (suc n) l = l ++ times n l

abbrev pub repeated : ℕ → ℕ → List ℕ
repeated first second = times 6 (first ∷ second ∷ replicate 6 none)

-- INFO 1 is plus, minus, six nones, six times.
abbrev pub info1 : List ℕ
info1 = repeated plus minus

-- No bit of the cycle is set: so where no cycle runs.
abbrev pub unset : CycleBits
unset = record { fa = false; m = false; s = false }

-- The fields of a downward frame with A, the B octets and the D bits at b.
abbrev pub filled_fields : Bool → Four → CycleBits → DownFields
filled_fields b echo bits = record {
  b1first = cond b 255 0;
  b2first = cond b 255 0;
  b1second = cond b 255 0;
  b2second = cond b 255 0;
  e = echo;
  d = all_four b;
  a = b;
  fa = bits.fa;
  m = bits.m;
  s = bits.s;
}

-- INFO 2 has A, B, D and E at 0, and FA, M and S as the cycle sets them.
abbrev pub info2_fields : CycleBits → DownFields
info2_fields bits = record {
  b1first = 0;
  b2first = 0;
  b1second = 0;
  b2second = 0;
  e = all_four false;
  d = all_four false;
  a = false;
  fa = bits.fa;
  m = bits.m;
  s = bits.s;
}

abbrev pub info2_with : CycleBits → List ℕ
info2_with bits = down_line (info2_fields bits)

abbrev pub info2 : List ℕ
info2 = info2_with unset

-- INFO 3 is the upward frame, B at 1, with FA and the D bits d. Outside the cycle FA is 0.
abbrev pub info3_fields : Bool → Four → UpFields
info3_fields fa d = record { b1first = 255; b2first = 255; b1second = 255; b2second = 255; d = d; fa = fa }

abbrev pub info3_with : Bool → Four → List ℕ
info3_with fa d = up_line (info3_fields fa d)

abbrev pub info3 : Four → List ℕ
info3 d = info3_with false d

-- INFO 4 has A at 1, B and D at 1, E the echo e, and FA, M and S as the cycle sets them.
abbrev pub info4_fields : CycleBits → Four → DownFields
info4_fields bits e = record {
  b1first = 255;
  b2first = 255;
  b1second = 255;
  b2second = 255;
  e = e;
  d = all_four true;
  a = true;
  fa = bits.fa;
  m = bits.m;
  s = bits.s;
}

abbrev pub info4_with : CycleBits → Four → List ℕ
info4_with bits e = down_line (info4_fields bits e)

abbrev pub info4 : Four → List ℕ
info4 e = info4_with unset e

-- Whether a line is INFO 1: it has exactly INFO 1's symbols.
abbrev pub is_info1 : List ℕ → Bool
is_info1 l = same_symbols l info1
