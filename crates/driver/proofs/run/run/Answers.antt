-- What is lent is in order for the first turn (Turning.antt).
use Rattle.std.proofs.Common.{arith, refl, ap, ◌∙◌}
use Rattle.std.specs.NonZero.{non_zero_usize_get}
use Rattle.driver.proofs.Turning.{any_letters}
use Rattle.driver.proofs.SoFar.{for_most, runs_driven}
use Rattle.driver.proofs.run.run.Goals as goal

pub drive-requires-clause-letters_value : goal.drive-requires-clause-letters_value
drive-requires-clause-letters_value c = any_letters

pub returns : goal.returns
returns c =
    runs_driven c.if-room-lt-PERIOD_ROOM.false (ap non_zero_usize_get c.unwrap_or-part.ensures ∙ for_most c.args.most _ c.new.ensures _ refl) refl (omega arith) any_letters c.drive.ensures
