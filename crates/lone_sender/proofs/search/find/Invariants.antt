-- What is known of the terminals before this one.
use Rattle.std.proofs.Common.{◌≡◌}
use Rattle.slice_lemmas.proofs.Over.{acc}
use Rattle.lone_sender.specs.Search.{no_search, searched_one}
use Rattle.lone_sender.proofs.search.find.Given as goal

abbrev pub invariant-loop-i : goal.invariant-loop-i
invariant-loop-i l = l.search ≡ acc (searched_one l.fn.period) (no_search l.fn.most) l.i 0 l.fn.terminals
