-- `combining::combine::senders` meets its contract.
use mathlib.Core.Path.{◌≡◌, refl}
use Prim.Native.Nat.{◌+◌, ◌-◌, ◌*◌}
use native.Mathlib.Omega.{arith}
use Rattle.symbols.specs.Symbols.{line_length}
use Rattle.combining.proofs.Sending.{sending_is, found_next, found_done}
use Rattle.combining.proofs.combine.senders.Goals as goal

pub loop-n-preserved : goal.loop-n-preserved
loop-n-preserved c =
    let n = c.loop-n.n in
    let k : n * line_length + line_length - n * line_length ≡ line_length = omega arith in
    rw (c.sends.ensures, k, ← sending_is _) (found_next c.loop-n.invariant (omega arith) _ refl)

pub returns : goal.returns
returns c = found_done c.loop-n.invariant c.loop-n-test.false
