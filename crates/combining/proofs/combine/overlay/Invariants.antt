-- `combining::combine::overlay` meets its contract.
use Prim.Native.Nat.{ℕ}
use lib.ListN.{get_or}
use Rattle.symbols.specs.Symbols.{none}
use Rattle.symbols.proofs.Fill.{Filled}
use lib.Bits.{bit_or}
use Rattle.combining.proofs.combine.overlay.Given as goal

abbrev pub invariant-loop-i : goal.invariant-loop-i
invariant-loop-i l = Filled (λ (j : ℕ). bit_or (get_or l.initial.sum j none) (get_or l.line j none)) l.initial.sum l.sum l.i
