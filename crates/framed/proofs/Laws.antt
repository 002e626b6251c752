-- The laws of `specs/Laws.antt`, proved under the same names in small letters.
use Rattle.frame.specs.Down.{down_bits, down_line}
use Rattle.frame.specs.Up.{up_bits, up_line}
use Rattle.framed.specs.Laws
use Rattle.framed.proofs.FirstPulse.{pulse_symbols, down_framed, up_framed}

pub framed_down_lem : Laws.FramedDown
framed_down_lem = down_framed

pub framed_up_lem : Laws.FramedUp
framed_up_lem = up_framed

pub pulse_down : Laws.PulseDown
unfolding down_line
pulse_down f = pulse_symbols (down_bits f)

pub pulse_up : Laws.PulseUp
unfolding up_line
pulse_up f = pulse_symbols (up_bits f)
