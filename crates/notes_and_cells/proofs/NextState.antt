-- Rows that lead neither into a state nor out of it, and the states that a table leads to.
use mathlib.Core.Path.{◌≡◌, refl}
use mathlib.Core.Bool.{Bool, true, false, cond, not}
use mathlib.Core.List.{List}
use Prim.Native.Nat.{ℕ, ◌≤◌}
use lib.Dec.{eqb, ltb, leb}
use borrow.Author.Tests.{ltb-false, leb-true}
use Rattle.test_lemmas.proofs.ByCases.{neither}
use Rattle.notes_and_cells.specs.Cells.{cell_in}
use Rattle.notes_and_cells.specs.CellParts.{state_after}
use Rattle.notes_and_cells.specs.declared.cell.Cell.{Cell}
use Rattle.notes_and_cells.specs.declared.cell.Cell.TheVariants.{To, Stay, Impossible, Absent}
use Rattle.notes_and_cells.proofs.Everywhere.{every_state, in_row}

-- whether two tests come out the same
abbrev pub alike : Bool → Bool → Bool
alike true b = b
alike false b = not b

pub alike_is : (a b : Bool) → alike a b ≡ true → a ≡ b
alike_is true true h = refl
alike_is true false h = cc
alike_is false true h = cc
alike_is false false h = refl

itself : (a : Bool) → alike a a ≡ true
itself true = refl
itself false = refl

-- A cell leads to state k exactly from k.
abbrev pub keeps : ℕ → ℕ → Cell → Bool
keeps k state c = alike (eqb (state_after c state) k) (eqb state k)

pub row_keeps : (k : ℕ) (row : List Cell) → every_state (keeps k) row ≡ true → (s : ℕ) → eqb (state_after (cell_in row s) s) k ≡ eqb s k
row_keeps k row t s =
    alike_is (eqb (state_after (cell_in row s) s) k) (eqb s k) (in_row (keeps k) row (λ s. itself (eqb s k)) t s)

-- Every cell's next state is one of 1 to n.
abbrev pub next_to : ℕ → Cell → Bool
next_to n (To next action notes) = cond (ltb next 1) false (leb next n)
next_to n (Stay notes) = true
next_to n Impossible = true
next_to n Absent = true

pub next_fits : (n next : ℕ) → cond (ltb next 1) false (leb next n) ≡ true → (1 ≤ next) × (next ≤ n)
next_fits n next t =
    let h = neither (ltb next 1) (leb next n) t in
    (ltb-false next 1 h.0, leb-true next n h.1)
