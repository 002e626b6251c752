-- `combining::combine::gather` meets its contract.
use Rattle.combining.proofs.Gather.{Gathering}
use Rattle.combining.proofs.combine.gather.Given as goal

abbrev pub invariant-loop-n : goal.invariant-loop-n
invariant-loop-n l = Gathering l.lines l.initial.sum l.sum l.taken l.n
