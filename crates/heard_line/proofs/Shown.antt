-- What the INFO lines show.
use mathlib.Core.Path.{◌≡◌, refl}
use mathlib.Core.Bool.{Bool, true, false, not, ◌&&◌}
use Rattle.symbols.specs.Symbols.{same_symbols}
use Rattle.frame.specs.declared.fields.Four.{Four}
use Rattle.frame.specs.declared.fields.CycleBits.{CycleBits}
use Rattle.frame.proofs.Laws.{a_down}
use Rattle.framed.specs.Framed.{first_pulse, framed_in, has_pulse}
use Rattle.info.specs.Info.{info0, info1, info2_with, info3_with, info4_with, info2_fields, info3_fields, info4_fields}
use Rattle.info.proofs.Laws.{pulse_info2, pulse_info3, pulse_info4, framed_info2, framed_info3, framed_info4, up_not_info1}
use Rattle.heard_line.specs.Sensing.{shown_up, shown_down}

-- Upward.
pub shown_up_info0 : shown_up info0 ≡ record { pulse = false; framed = false; info1 = false }
unfolding shown_up has_pulse first_pulse framed_in same_symbols
shown_up_info0 = refl

pub shown_info1 : shown_up info1 ≡ record { pulse = true; framed = false; info1 = true }
unfolding shown_up has_pulse first_pulse framed_in same_symbols
shown_info1 = refl

pub shown_info3 : (fa : Bool) (d : Four) → shown_up (info3_with fa d) ≡ record { pulse = true; framed = not (d.first && fa); info1 = false }
unfolding shown_up
shown_info3 fa d = rw (pulse_info3 fa d, framed_info3 fa d, up_not_info1 (info3_fields fa d))

-- Downward: A at symbol level is 1 where no pulse stands.
pub shown_down_info0 : shown_down info0 ≡ record { pulse = false; framed = false; a = true }
unfolding shown_down has_pulse first_pulse framed_in
shown_down_info0 = refl

pub shown_info2 : (bits : CycleBits) → shown_down (info2_with bits) ≡ record { pulse = true; framed = true; a = false }
unfolding shown_down
shown_info2 bits = rw (pulse_info2 bits, framed_info2 bits, a_down (info2_fields bits))

pub shown_info4 : (bits : CycleBits) (e : Four) → shown_down (info4_with bits e) ≡ record { pulse = true; framed = true; a = true }
unfolding shown_down
shown_info4 bits e = rw (pulse_info4 bits e, framed_info4 bits e, a_down (info4_fields bits e))
