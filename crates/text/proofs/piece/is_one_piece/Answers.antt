-- `piece::is_one_piece` meets its contract: the answer is that of the octets passed and that of the octets from there on.
use mathlib.Core.Path.{refl}
use native.Mathlib.Omega.{arith}
use Rattle.text.proofs.Pieces.{all_next, all_done}
use Rattle.text.proofs.piece.is_one_piece.Goals as goal

pub loop-c-preserved : goal.loop-c-preserved
loop-c-preserved c = all_next _ c.loop-c.invariant _ (omega arith) refl

pub returns : goal.returns
returns c = all_done _ c.loop-c.invariant (omega arith)
