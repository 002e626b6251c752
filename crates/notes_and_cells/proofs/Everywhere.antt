-- A test that is computed over every cell of a table holds at every event number and state number.
use mathlib.Core.Path.{◌≡◌, refl}
use mathlib.Core.Bool.{Bool, true, false, cond}
use mathlib.Core.List.{List, [], ◌∷◌}
use Prim.Native.Nat.{ℕ, zero, suc, ◌≤◌, ◌<◌}
use native.Mathlib.Omega.{arith}
use lib.ListN.{get_or, length}
use Rattle.test_lemmas.proofs.ByCases.{both}
use Rattle.notes_and_cells.specs.Cells.{cell_in, row_of, cell_of, info_in}
use Rattle.notes_and_cells.specs.declared.cell.Cell.{Cell}
use Rattle.notes_and_cells.specs.declared.cell.Cell.TheVariants.{Impossible}

-- f holds of everything in a list, with its place, from 0.
abbrev pub every : {A : Type 0} → (ℕ → A → Bool) → List A → Bool
every f [] = true
every f (x ∷ xs) = cond (f 0 x) (every (λ s. f (suc s)) xs) false

in_list : {A : Type 0} (f : ℕ → A → Bool) (xs : List A) (rest : A) → every f xs ≡ true → (s : ℕ) → (length xs ≤ s → f s rest ≡ true) → f s (get_or xs s rest) ≡ true
in_list f [] rest t s past = past (omega arith)
in_list f (x ∷ xs) rest t zero past = (both (f 0 x) (every (λ s. f (suc s)) xs) t).0
in_list f (x ∷ xs) rest t (suc s) past =
    in_list (λ s. f (suc s)) xs rest (both (f 0 x) (every (λ s. f (suc s)) xs) t).1 s (λ l. past (omega arith))

-- f holds of every cell of a row, or of the INFO sent in every state, with the state's number.
abbrev pub every_state : {A : Type 0} → (ℕ → A → Bool) → List A → Bool
every_state f row = every (λ s. f (suc s)) row

-- A test that the impossible cell passes holds at every number; any other, at every state.
pub in_row : (f : ℕ → Cell → Bool) (row : List Cell) → ((s : ℕ) → f s Impossible ≡ true) → every_state f row ≡ true → (s : ℕ) → f s (cell_in row s) ≡ true
unfolding cell_in
in_row f row i t zero = i 0
in_row f row i t (suc s) = in_list (λ s. f (suc s)) row Impossible t s (λ l. i (suc s))

pub at_state : (f : ℕ → Cell → Bool) (row : List Cell) → every_state f row ≡ true → (s : ℕ) → 1 ≤ s → s ≤ length row → f s (cell_in row s) ≡ true
unfolding cell_in
at_state f row t zero low high = absurd (omega arith)
at_state f row t (suc s) low high = in_list (λ s. f (suc s)) row Impossible t s (λ l. absurd (omega arith))

-- The same of the INFO sent, where the test holds of INFO 0 at what is no state.
pub in_sent : (f : ℕ → ℕ → Bool) (sent : List ℕ) → f 0 0 ≡ true → ((s : ℕ) → length sent < s → f s 0 ≡ true) → every_state f sent ≡ true → (s : ℕ) → f s (info_in sent s) ≡ true
unfolding info_in
in_sent f sent none past t zero = none
in_sent f sent none past t (suc s) = in_list (λ s. f (suc s)) sent 0 t s (λ l. past (suc s) (omega arith))

-- f holds of every cell of a table, with the numbers of the event and the state.
abbrev every_row : (ℕ → ℕ → Cell → Bool) → List (List Cell) → Bool
every_row f rows = every (λ e row. every_state (f e) row) rows

abbrev pub every_event : (ℕ → ℕ → Cell → Bool) → List (List Cell) → Bool
every_event f table = every_row (λ e. f (suc e)) table

row_of_lem : (f : ℕ → ℕ → Cell → Bool) (table : List (List Cell)) → every_event f table ≡ true → (e : ℕ) → every_state (f e) (row_of table e) ≡ true
row_of_lem f table t zero = refl
row_of_lem f table t (suc e) = in_list (λ e row. every_state (f (suc e)) row) table [] t e (λ l. refl)

pub in_table : (f : Cell → Bool) (table : List (List Cell)) → f Impossible ≡ true → every_event (λ e s. f) table ≡ true → (e s : ℕ) → f (cell_of table e s) ≡ true
in_table f table i t e s = in_row (λ s. f) (row_of table e) (λ s. i) (row_of_lem (λ e s. f) table t e) s

pub at_event : (f : ℕ → ℕ → Cell → Bool) (table : List (List Cell)) → every_event f table ≡ true → (e s : ℕ) → 1 ≤ s → s ≤ length (row_of table e) → f e s (cell_of table e s) ≡ true
at_event f table t e s low high = at_state (f e) (row_of table e) (row_of_lem f table t e) s low high
