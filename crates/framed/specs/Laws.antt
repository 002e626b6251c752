-- Laws: what holds of framed periods and pulses: the statements, each a type. `proofs/Laws.antt`
-- proves each under the same name in small letters.
-- Interface: none but for laws and proofs. Assumes nothing.
use Rattle.std.specs.Prelude.{◌≡◌, Bool, true, not, ◌&&◌, ◌<◌, eqb}
use Rattle.frame.specs.Down.{down_line}
use Rattle.frame.specs.Up.{up_line}
use Rattle.frame.specs.declared.fields.DownFields.{DownFields}
use Rattle.frame.specs.declared.fields.UpFields.{UpFields}
use Rattle.framed.specs.Framed.{framed_down, framed_up, has_pulse}

-- Every downward frame is framed.
abbrev pub FramedDown : Type 0
FramedDown = (f : DownFields) → framed_down (down_line f) ≡ true

-- Of an upward frame the positions 3 to 14 are B1 with its L, D with its L, and FA: it is framed
-- unless all of these are 1.
abbrev pub open_up : UpFields → Bool
open_up f = eqb f.b1first 255 && (f.d.first && f.fa)

abbrev pub FramedUp : Type 0
FramedUp = (f : UpFields) → f.b1first < 256 → framed_up (up_line f) ≡ not (open_up f)

-- Every frame has a pulse.
abbrev pub PulseDown : Type 0
PulseDown = (f : DownFields) → has_pulse (down_line f) ≡ true

abbrev pub PulseUp : Type 0
PulseUp = (f : UpFields) → has_pulse (up_line f) ≡ true
