-- `symbols::same_symbols` meets its contract: after i turns the answer is that of the first i codes.
use Rattle.symbols.proofs.Comparing.{Comparing}
use Rattle.symbols.proofs.same_symbols.Given as goal

abbrev pub invariant-loop-i : goal.invariant-loop-i
invariant-loop-i l = Comparing l.a l.b l.ok l.i
