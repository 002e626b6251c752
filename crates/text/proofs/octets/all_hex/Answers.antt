-- `octets::all_hex` meets its contract: the answer is that of the octets passed and that of the octets from there on.
use native.Mathlib.Omega.{arith}
use Rattle.text.specs.Text.{is_hex}
use Rattle.text.proofs.Pieces.{all_next, all_done}
use Rattle.text.proofs.octets.all_hex.Goals as goal

pub loop-c-preserved : goal.loop-c-preserved
loop-c-preserved c = all_next is_hex c.loop-c.invariant _ (omega arith) c.is_hex-ok.ensures

pub returns : goal.returns
returns c = all_done is_hex c.loop-c.invariant (omega arith)
