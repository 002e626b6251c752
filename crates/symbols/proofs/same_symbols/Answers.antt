-- `symbols::same_symbols` meets its contract: after i turns the answer is that of the first i codes.
use mathlib.Core.Path.{sym}
use native.Mathlib.Omega.{arith}
use Rattle.symbols.proofs.Scan.{same_symbols_short}
use Rattle.symbols.proofs.Comparing.{comparing_next, comparing_ends}
use Rattle.symbols.proofs.same_symbols.Goals as goal

pub returns-then-a-b : goal.returns-then-a-b
returns-then-a-b c = sym (same_symbols_short _ _ c.if-a-b.true)

pub loop-i-preserved : goal.loop-i-preserved
loop-i-preserved c = comparing_next c.loop-i.invariant (omega arith)

pub returns : goal.returns
returns c = comparing_ends c.loop-i.invariant (omega arith)
