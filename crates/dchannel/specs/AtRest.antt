-- How the code goes: a terminal that is at rest is passed over in a D opportunity with an E of 1
-- (crate `exchange`, specs/Rest.antt).
-- Interface: every name. Assumes nothing.
use Rattle.std.specs.Prelude.{Bool, not, ◌&&◌, ℕ, ◌+◌, eqb}
use Rattle.dchannel.specs.declared.access.Access.{Access}

-- An access that every further E of 1 leaves as it is: no frame is held, C has come to its end, and
-- class 2 is at its normal level (class 1 no longer changes there, at whichever level it is).
unfoldable pub at_rest : ℕ → Access → Bool
at_rest x2 a = ((eqb a.held 0 && eqb a.sent 0) && eqb a.count (x2 + 1)) && not a.low2
