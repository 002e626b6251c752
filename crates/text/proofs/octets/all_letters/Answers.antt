-- `octets::all_letters` meets its contract: the answer is that of the octets passed and that of the octets from there on.
use native.Mathlib.Omega.{arith}
use Rattle.text.specs.Text.{is_letter}
use Rattle.text.proofs.Pieces.{all_next, all_done}
use Rattle.text.proofs.octets.all_letters.Goals as goal

pub loop-c-preserved : goal.loop-c-preserved
loop-c-preserved c = all_next is_letter c.loop-c.invariant _ (omega arith) c.is_letter-ok.ensures

pub returns : goal.returns
returns c = all_done is_letter c.loop-c.invariant (omega arith)
