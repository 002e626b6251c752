-- `frame::write::put_bits` meets its contract.
use Rattle.frame.proofs.Emit.{Emitting}
use Rattle.frame.proofs.write.put_bits.Given as goal

abbrev pub invariant-loop-place : goal.invariant-loop-place
invariant-loop-place l = Emitting l.w l.initial.out l.out l.bits l.next l.place-index
