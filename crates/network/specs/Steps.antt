-- Rules: what a call of the network end gives, and how the code answers it.
-- Interface: `NetworkStep`, `step_of`, `as_result`. Assumes nothing.
use Rattle.std.specs.Prelude.{ℕ, Result}
use Rattle.notes_and_cells.specs.declared.notes.Notes.{Notes}
use Rattle.refusals.specs.Numbers.{unless_refused}
use Rattle.refusals.specs.declared.Refusal.{Refusal}
use Rattle.network.specs.declared.Network.{Network}
use Rattle.network.specs.declared.NetworkStep as code

-- The record, the notes, and 0 or the number of the refusal with the record as it was.
pub record NetworkStep : Type 0 where
  pub network : Network
  pub notes : Notes
  pub reply : ℕ

-- The record and the notes, as the code gives them.
abbrev pub step_of : NetworkStep → code.NetworkStep
step_of s = record { network = s.network; notes = s.notes }

-- What the call answers: the record and the notes, or the reason for which it is refused.
unfoldable pub as_result : NetworkStep → Result code.NetworkStep Refusal
as_result s = unless_refused s.reply (step_of s)
