-- The terminals before this one have heard the line: their records, their notes, and whether there was any.
use Rattle.std.proofs.Common.{◌≡◌, false}
use Rattle.slice_lemmas.proofs.Over.{upto, acc, filled}
use Rattle.period_hearing.specs.Hears.{terminal_after, notes_after, told_after}
use Rattle.period_hearing.proofs.listen.listen.Given as goal

abbrev pub invariant-loop-i : goal.invariant-loop-i
invariant-loop-i l = record {
  terminals_so_far : l.terminals ≡ upto (terminal_after l.fn.line l.fn.period) l.i 0 l.fn.terminals;
  notes_so_far : l.notes ≡ filled (notes_after l.fn.line l.fn.period) l.i 0 l.fn.terminals l.fn.notes;
  told_so_far : l.told ≡ acc (told_after l.fn.line l.fn.period) false l.i 0 l.fn.terminals;
}
