-- `info::info::info1` meets its contract.
use Rattle.symbols.proofs.Fill.{Filled}
use Rattle.info.proofs.Lines.{symbol_of_info1}
use Rattle.info.proofs.info.info1.Given as goal

abbrev pub invariant-loop-i : goal.invariant-loop-i
invariant-loop-i l = Filled symbol_of_info1 l.initial.out l.out l.i
