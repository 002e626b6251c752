-- Laws: what holds of the INFO signals: the statements, each a type. `proofs/Laws.antt` proves each
-- under the same name in small letters.
-- Interface: none but for laws and proofs. Assumes nothing.
use Rattle.std.specs.Prelude.{◌≡◌, Bool, true, false, not, ◌&&◌, ◌↔◌, List, ℕ, length}
use Rattle.symbols.specs.Symbols.{line_length, levels, is_line}
use Rattle.frame.specs.Four.{all_four}
use Rattle.frame.specs.Bits.{d_bits, fa_bit}
use Rattle.frame.specs.Down.{e_bits, a_bit, m_bit, s_bit}
use Rattle.frame.specs.Up.{up_line}
use Rattle.frame.specs.declared.fields.Four.{Four}
use Rattle.frame.specs.declared.fields.CycleBits.{CycleBits}
use Rattle.frame.specs.declared.fields.UpFields.{UpFields}
use Rattle.framed.specs.Framed.{framed_down, framed_up, has_pulse}
use Rattle.info.specs.Info.{info0, info1, info2_with, info3_with, info4_with, is_info1}

-- Framed periods: INFO 2 and 4 are framed, for all their bits; INFO 3 unless its first D and its FA
-- are 1; INFO 0 and INFO 1 are not.
abbrev pub FramedInfo2 : Type 0
FramedInfo2 = (bits : CycleBits) → framed_down (info2_with bits) ≡ true

abbrev pub FramedInfo3 : Type 0
FramedInfo3 = (fa : Bool) (d : Four) → framed_up (info3_with fa d) ≡ not (d.first && fa)

abbrev pub FramedInfo4 : Type 0
FramedInfo4 = (bits : CycleBits) (e : Four) → framed_down (info4_with bits e) ≡ true

abbrev pub UnframedInfo0 : Type 0
UnframedInfo0 = (framed_down info0 ≡ false) × (framed_up info0 ≡ false)

abbrev pub UnframedInfo1 : Type 0
UnframedInfo1 = (framed_down info1 ≡ false) × (framed_up info1 ≡ false)

-- INFO 1 is INFO 1, and no upward frame is. A pulseless line is INFO 0.
abbrev pub Info1IsInfo1 : Type 0
Info1IsInfo1 = is_info1 info1 ≡ true

abbrev pub OnlyInfo1 : Type 0
OnlyInfo1 = (l : List ℕ) → is_info1 l ≡ true → l ≡ info1

abbrev pub UpNotInfo1 : Type 0
UpNotInfo1 = (f : UpFields) → is_info1 (up_line f) ≡ false

abbrev pub PulselessInfo0 : Type 0
PulselessInfo0 = (l : List ℕ) → length l ≡ line_length → (has_pulse l ≡ false) ↔ (l ≡ info0)

-- INFO 1 has a pulse, and so have INFO 2, 3 and 4, for all their bits.
abbrev pub PulseInfo1 : Type 0
PulseInfo1 = has_pulse info1 ≡ true

abbrev pub PulseInfo2 : Type 0
PulseInfo2 = (bits : CycleBits) → has_pulse (info2_with bits) ≡ true

abbrev pub PulseInfo3 : Type 0
PulseInfo3 = (fa : Bool) (d : Four) → has_pulse (info3_with fa d) ≡ true

abbrev pub PulseInfo4 : Type 0
PulseInfo4 = (bits : CycleBits) (e : Four) → has_pulse (info4_with bits e) ≡ true

-- All five are lines.
abbrev pub LineInfo0 : Type 0
LineInfo0 = is_line info0 ≡ true

abbrev pub LineInfo1 : Type 0
LineInfo1 = is_line info1 ≡ true

abbrev pub LineInfo2 : Type 0
LineInfo2 = (bits : CycleBits) → is_line (info2_with bits) ≡ true

abbrev pub LineInfo3 : Type 0
LineInfo3 = (fa : Bool) (d : Four) → is_line (info3_with fa d) ≡ true

abbrev pub LineInfo4 : Type 0
LineInfo4 = (bits : CycleBits) (e : Four) → is_line (info4_with bits e) ≡ true

-- What they hold at symbol level: E, A, FA, M and S downward, D and FA upward. INFO 0 counts as 1s.
abbrev pub EInfo0 : Type 0
EInfo0 = e_bits (levels info0) ≡ all_four true

abbrev pub EInfo2 : Type 0
EInfo2 = (bits : CycleBits) → e_bits (levels (info2_with bits)) ≡ all_four false

abbrev pub EInfo4 : Type 0
EInfo4 = (bits : CycleBits) (e : Four) → e_bits (levels (info4_with bits e)) ≡ e

abbrev pub AInfo0 : Type 0
AInfo0 = a_bit (levels info0) ≡ true

abbrev pub AInfo2 : Type 0
AInfo2 = (bits : CycleBits) → a_bit (levels (info2_with bits)) ≡ false

abbrev pub AInfo4 : Type 0
AInfo4 = (bits : CycleBits) (e : Four) → a_bit (levels (info4_with bits e)) ≡ true

abbrev pub DInfo3 : Type 0
DInfo3 = (fa : Bool) (d : Four) → d_bits (levels (info3_with fa d)) ≡ d

abbrev pub FaInfo0 : Type 0
FaInfo0 = fa_bit (levels info0) ≡ true

abbrev pub FaInfo2 : Type 0
FaInfo2 = (bits : CycleBits) → fa_bit (levels (info2_with bits)) ≡ bits.fa

abbrev pub FaInfo3 : Type 0
FaInfo3 = (fa : Bool) (d : Four) → fa_bit (levels (info3_with fa d)) ≡ fa

abbrev pub FaInfo4 : Type 0
FaInfo4 = (bits : CycleBits) (e : Four) → fa_bit (levels (info4_with bits e)) ≡ bits.fa

abbrev pub MInfo2 : Type 0
MInfo2 = (bits : CycleBits) → m_bit (levels (info2_with bits)) ≡ bits.m

abbrev pub MInfo4 : Type 0
MInfo4 = (bits : CycleBits) (e : Four) → m_bit (levels (info4_with bits e)) ≡ bits.m

abbrev pub SInfo0 : Type 0
SInfo0 = s_bit (levels info0) ≡ true

abbrev pub SInfo2 : Type 0
SInfo2 = (bits : CycleBits) → s_bit (levels (info2_with bits)) ≡ bits.s

abbrev pub SInfo4 : Type 0
SInfo4 = (bits : CycleBits) (e : Four) → s_bit (levels (info4_with bits e)) ≡ bits.s
