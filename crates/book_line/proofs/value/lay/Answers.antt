-- `value::lay` meets its contract: n octets have been laid, whichever they are.
use native.Mathlib.Omega.{arith}
use Rattle.book_line.proofs.Laying.{laying_next}
use Rattle.book_line.proofs.value.lay.Goals as goal

pub loop-n-preserved : goal.loop-n-preserved
loop-n-preserved g c =
    λ octets e says.
    laying_next (c.loop-n.invariant octets e says) _ (omega arith) (omega arith) (says c.loop-n.n c.octet.result (omega arith) c.octet.ensures)
