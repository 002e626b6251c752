-- `frame::write::put_bits` meets its contract.
use native.Mathlib.Omega.{arith}
use Rattle.frame.proofs.Emit.{emit_next}
use Rattle.frame.proofs.write.put_bits.Goals as goal

pub loop-place-preserved : goal.loop-place-preserved
loop-place-preserved c =
    emit_next c.loop-place.invariant (omega arith) _ _ c.symbol.ensures c.turned-next.ensures.value c.turned-next.ensures.upper_bound
