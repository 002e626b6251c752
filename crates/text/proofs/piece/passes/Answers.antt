-- `piece::passes` meets its contract: a block none of whose octets is the separator stands before the piece's end.
use mathlib.Core.Path.{◌≡◌, sym, ◌∙◌}
use Prim.Native.Nat.{◌+◌, ◌-◌}
use native.Mathlib.Omega.{arith}
use lib.ListN.{drop, length-drop}
use Rattle.text.proofs.Pieces.{upto_past}
use Rattle.text.proofs.piece.passes.Goals as goal

pub returns-clause-bound : goal.returns-clause-bound
returns-clause-bound c =
    let args = c.args in
    let text = args.text.now in
    let w : args.at + 16 - args.at ≡ 16 = omega arith in
    λ e. upto_past args.sep 16 (drop args.at text) (omega (arith, length-drop args.at text))
    (rw w at (sym c.is_one_piece.ensures ∙ e))
