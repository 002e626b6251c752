-- `piece::long_piece_end` meets its contract: the piece at `from` ends where the one at i does.
use mathlib.Core.Path.{◌∙◌}
use Rattle.text.proofs.Pieces.{upto_skip}
use Rattle.text.proofs.piece.long_piece_end.Goals as goal

pub loop-i-preserved : goal.loop-i-preserved
loop-i-preserved c = upto_skip _ 16 _ _ (c.passes.ensures.bound c.loop-i-test.true) ∙ c.loop-i.invariant
