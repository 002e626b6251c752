-- Rules: what a call of a terminal gives, and how the code answers it.
-- Interface: `TerminalStep`, `step_of`, `as_result`. Assumes nothing.
use Rattle.std.specs.Prelude.{ℕ, Result}
use Rattle.notes_and_cells.specs.declared.notes.Notes.{Notes}
use Rattle.refusals.specs.Numbers.{unless_refused}
use Rattle.refusals.specs.declared.Refusal.{Refusal}
use Rattle.terminal.specs.declared.Terminal.{Terminal}
use Rattle.terminal.specs.declared.TerminalStep as code

-- The record, the notes, and 0 or the number of the refusal with the record as it was.
pub record TerminalStep : Type 0 where
  pub terminal : Terminal
  pub notes : Notes
  pub reply : ℕ

-- The record and the notes, as the code gives them.
abbrev pub step_of : TerminalStep → code.TerminalStep
step_of s = record { terminal = s.terminal; notes = s.notes }

-- What the call answers: the record and the notes, or the reason for which it is refused.
unfoldable pub as_result : TerminalStep → Result code.TerminalStep Refusal
as_result s = unless_refused s.reply (step_of s)
