-- `combining::combine::resolve` meets its contract.
use Prim.Native.Nat.{ℕ}
use lib.ListN.{get_or}
use Rattle.symbols.specs.Symbols.{none}
use Rattle.symbols.proofs.Fill.{Filled}
use Rattle.combining.specs.Gathering.{gathered_symbol}
use Rattle.combining.proofs.combine.resolve.Given as goal

abbrev pub invariant-loop-symbol : goal.invariant-loop-symbol
invariant-loop-symbol l = Filled (λ (j : ℕ). gathered_symbol (get_or l.initial.sum j none)) l.initial.sum l.sum l.symbol-index
