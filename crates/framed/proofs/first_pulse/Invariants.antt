-- `framed::first_pulse` meets its contract: the first pulse is that of the symbols from `symbol-index` on.
use Rattle.std.proofs.Common.{◌≡◌, drop}
use Rattle.framed.specs.Framed.{first_pulse}
use Rattle.framed.proofs.first_pulse.Given as goal

abbrev pub invariant-loop-symbol : goal.invariant-loop-symbol
invariant-loop-symbol l = first_pulse l.s ≡ first_pulse (drop l.symbol-index l.s)
