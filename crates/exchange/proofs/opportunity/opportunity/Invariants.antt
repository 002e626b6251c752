-- The terminals before this one have heard the E, and are in the tally.
use Rattle.std.proofs.Common.{◌≡◌}
use Rattle.slice_lemmas.proofs.Over.{upto, acc}
use Rattle.exchange.specs.Part.{terminal_after_e, tally_with}
use Rattle.exchange.specs.Tally.{begun}
use Rattle.exchange.proofs.opportunity.opportunity.Given as goal

abbrev pub invariant-loop-i : goal.invariant-loop-i
invariant-loop-i l = record {
  terminals_so_far : l.terminals ≡ upto (terminal_after_e l.fn.images (begun l.fn.before).e) l.i 0 l.fn.terminals;
  tally_so_far : l.tally ≡ acc (tally_with l.fn.images) (begun l.fn.before) l.i 0 l.fn.terminals;
}
