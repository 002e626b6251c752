-- `piece::piece_end` meets its contract: the piece that is looked at from i on ends where the piece at `from` does.
use native.Mathlib.Omega.{arith}
use Rattle.text.proofs.Pieces.{upto_stop, upto_go, upto_end}
use Rattle.text.proofs.piece.piece_end.Goals as goal

pub returns-then-text-i : goal.returns-then-text-i
returns-then-text-i c =
    let args = c.args in omega (arith, upto_stop args.sep args.text.now c.loop-i.i (omega arith) c.if-text-i.true)

pub loop-i-preserved : goal.loop-i-preserved
loop-i-preserved c =
    let args = c.args in omega (arith, upto_go args.sep args.text.now c.loop-i.i (omega arith) c.if-text-i.false)

pub returns : goal.returns
returns c =
    let args = c.args in
    grind (arith, upto_end args.sep args.text.now c.loop-i.i (omega arith), upto_end args.sep args.text.now args.from)
