-- `piece::piece_end` meets its contract: the piece that is looked at from i on ends where the piece at `from` does.
use mathlib.Core.Path.{◌≡◌}
use Prim.Native.Nat.{◌+◌}
use lib.ListN.{drop}
use Rattle.text.specs.Text.{upto}
use Rattle.text.proofs.piece.piece_end.Given as goal

abbrev pub invariant-loop-i : goal.invariant-loop-i
invariant-loop-i l = l.i + upto l.sep (drop l.i l.text) ≡ l.from + upto l.sep (drop l.from l.text)
