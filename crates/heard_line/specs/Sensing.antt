-- Rules: what a line of 48 symbols shows (document 01, "The line", last paragraph).
-- Interface: every name. Assumes nothing.
use Rattle.std.specs.Prelude.{List, ℕ}
use Rattle.framed.specs.Framed.{framed_down, framed_up, has_pulse}
use Rattle.info.specs.Info.{is_info1}
use Rattle.frame_reader.specs.Read.{a_level}
use Rattle.heard_line.specs.declared.heard.Downward.{Downward}
use Rattle.heard_line.specs.declared.heard.Upward.{Upward}

-- Downward: a pulse, a framed period, A.
unfoldable pub shown_down : List ℕ → Downward
shown_down line = record { pulse = has_pulse line; framed = framed_down line; a = a_level line }

-- Upward: a pulse, a framed period, exactly INFO 1's symbols.
unfoldable pub shown_up : List ℕ → Upward
shown_up line = record { pulse = has_pulse line; framed = framed_up line; info1 = is_info1 line }
