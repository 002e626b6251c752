-- `combining::hit::strike` meets its contract.
use Prim.Native.Nat.{ℕ}
use lib.ListN.{get_or}
use Rattle.symbols.specs.Symbols.{none}
use Rattle.symbols.proofs.Fill.{Filled}
use Rattle.combining.specs.Hit.{keep_letter, struck}
use Rattle.combining.proofs.hit.strike.Given as goal

abbrev pub invariant-loop-i : goal.invariant-loop-i
invariant-loop-i l = Filled (λ (j : ℕ). struck (get_or l.letters j keep_letter) (get_or l.initial.line j none)) l.initial.line l.line l.i
