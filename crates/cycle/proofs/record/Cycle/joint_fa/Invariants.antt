-- `cycle::record::Cycle::joint_fa` meets its contract: the AND is that of the terminals passed.
use Rattle.std.proofs.Common.{◌≡◌}
use Rattle.cycle.specs.Cycle.{fa_below}
use Rattle.cycle.proofs.record.Cycle.joint_fa.Given as goal

abbrev pub invariant-loop-i : goal.invariant-loop-i
invariant-loop-i l = l.fa ≡ fa_below l.i l.heard l.senders l.self
