-- `combining::combine::gather` meets its contract.
use mathlib.Core.Path.{◌≡◌, sym, ◌∙◌}
use Prim.Native.Nat.{◌+◌, ◌-◌, ◌*◌}
use native.Mathlib.Omega.{arith}
use Rattle.symbols.specs.Symbols.{line_length}
use Rattle.combining.proofs.Gather.{gather_next, gather_skip, gather_count, gather_done}
use Rattle.combining.proofs.Sending.{sender_is}
use Rattle.combining.proofs.combine.gather.Goals as goal
use Rattle.combining.proofs.combine.gather.Goals.{then-sends-n, else-sends-n}

pub loop-n-preserved : goal.loop-n-preserved
loop-n-preserved c =
    let m = c.loop-n.invariant in
    let n = c.loop-n.n in
    let k : n * line_length + line_length - n * line_length ≡ line_length = omega arith in
    let sent = sym (sender_is _ _ n c.requires.sends_value (omega arith)) in
    elim c.if-sends-n.branch [
      | then-sends-n w ↦ rw w.taken-is (gather_next m (omega arith) (sent ∙ w.if-sends-n.true) _ (w.sum-is ∙ (w.overlay.ensures ∙ rw k)))
      | else-sends-n w ↦ rw (w.sum-is, w.taken-is) (gather_skip m (omega arith) (sent ∙ w.if-sends-n.false))
    ]

pub returns-clause-taken : goal.returns-clause-taken
returns-clause-taken c = let m = c.loop-n.invariant in gather_count m c.loop-n-test.false

pub returns-clause-octets : goal.returns-clause-octets
returns-clause-octets c = let m = c.loop-n.invariant in gather_done m c.loop-n-test.false
