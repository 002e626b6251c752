-- Calls: what the calls that sense a lent line answer: what it shows, or refusal 2 where it is no
-- line.
-- Interface: every name. Assumes nothing.
use Rattle.std.specs.Prelude.{cond, List, ℕ, Result, Ok, Err}
use Rattle.refusals.specs.declared.Refusal.{Refusal}
use Rattle.refusals.specs.declared.Refusal.TheVariants.{WrongSlice}
use Rattle.symbols.specs.Symbols.{is_line}
use Rattle.heard_line.specs.Sensing.{shown_down, shown_up}
use Rattle.heard_line.specs.declared.heard.Downward.{Downward}
use Rattle.heard_line.specs.declared.heard.Upward.{Upward}

unfoldable pub sensed_down : List ℕ → Result Downward Refusal
sensed_down line = cond (is_line line) (Ok (shown_down line)) (Err WrongSlice)

unfoldable pub sensed_up : List ℕ → Result Upward Refusal
sensed_up line = cond (is_line line) (Ok (shown_up line)) (Err WrongSlice)
