-- The terminals before this one are at the run's end.
use Rattle.std.proofs.Common.{◌≡◌}
use Rattle.slice_lemmas.proofs.Over.{upto}
use Rattle.lone_sender.specs.Lone.{followed}
use Rattle.lone_sender.proofs.follow.follow.Given as goal

abbrev pub invariant-loop-i : goal.invariant-loop-i
invariant-loop-i l = l.terminals ≡ upto (followed l.fn.lone) l.i 0 l.fn.terminals
