-- `piece::is_one_piece` meets its contract: the answer is that of the octets passed and that of the octets from there on.
use Rattle.symbols.proofs.Scan.{Tested}
use Rattle.text.specs.Text.{all, is_other}
use Rattle.text.proofs.piece.is_one_piece.Given as goal

abbrev pub invariant-loop-c : goal.invariant-loop-c
invariant-loop-c l = Tested (all (is_other l.sep)) l.text l.c-index l.ok
