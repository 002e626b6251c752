-- One law for every row of tables 6-2 and 6-3: an arm that gives the cell x is right where the arm's numbers are none of those at which
-- the row has another cell.
use mathlib.Core.Path.{◌≡◌, refl, ap, sym, ◌∙◌, subst}
use mathlib.Core.Bool.{Bool, true, false, cond}
use mathlib.Core.List.{List, [], ◌∷◌}
use Prim.Native.Nat.{ℕ, zero, suc, ◌+◌, ◌<◌, ◌≤◌}
use native.Mathlib.Nat.{add-zero, zero-add, add-suc, suc-add}
use native.Mathlib.Omega.{arith}
use lib.Dec.{eqb}
use borrow.Author.Tests.{eqb-true}
use lib.ListN.{get_or, length, get_or-eq_default}
use Rattle.test_lemmas.proofs.ByCases.{both}
use Rattle.notes_and_cells.specs.Cells.{cell_in, row_of, cell_of, info_in, impossible}
use Rattle.notes_and_cells.specs.declared.cell.Cell.{Cell}
use Rattle.notes_and_cells.specs.declared.cell.Cell.TheVariants.{To, Stay, Impossible, Absent}
use Rattle.notes_and_cells.specs.declared.notes.Notes.{Notes}

-- whether two lists of numbers are the same
abbrev pub same_numbers : List ℕ → List ℕ → Bool
same_numbers [] [] = true
same_numbers [] (y ∷ ys) = false
same_numbers (x ∷ xs) [] = false
same_numbers (x ∷ xs) (y ∷ ys) = cond (eqb x y) (same_numbers xs ys) false

pub same_numbers_lem : (xs ys : List ℕ) → same_numbers xs ys ≡ true → xs ≡ ys
same_numbers_lem [] [] t = refl
same_numbers_lem [] (y ∷ ys) t = cc
same_numbers_lem (x ∷ xs) [] t = cc
same_numbers_lem (x ∷ xs) (y ∷ ys) t =
    let h = both (eqb x y) (same_numbers xs ys) t in
    let e : x ≡ y = eqb-true x y h.0 in
    let f : xs ≡ ys = same_numbers_lem xs ys h.1 in cc

-- a cell as a list of numbers
abbrev counted : ℕ → Notes → List ℕ
counted n c = n ∷ c.0 ∷ c.1 ∷ c.2 ∷ c.3 ∷ c.4 ∷ []

abbrev numbers : Cell → List ℕ
numbers (To n t c) = 0 ∷ t ∷ counted n c
numbers (Stay c) = 1 ∷ 0 ∷ counted 0 c
numbers Impossible = 2 ∷ []
numbers Absent = 3 ∷ []

abbrev pub same_cell : Cell → Cell → Bool
same_cell c d = same_numbers (numbers c) (numbers d)

abbrev notes_from : List ℕ → Notes
notes_from l = (get_or l 3 0, get_or l 4 0, get_or l 5 0, get_or l 6 0, get_or l 7 0)

-- and back
abbrev variant : ℕ → List ℕ → Cell
variant n l = cond (eqb n 0) (To (get_or l 2 0) (get_or l 1 0) (notes_from l)) (cond (eqb n 1) (Stay (notes_from l)) (cond (eqb n 2) Impossible Absent))

abbrev of_numbers : List ℕ → Cell
of_numbers l = variant (get_or l 0 0) l

back : (c : Cell) → of_numbers (numbers c) ≡ c
back (To n t c) = refl
back (Stay c) = refl
back Impossible = refl
back Absent = refl

same_cell_lem : (c d : Cell) → same_cell c d ≡ true → c ≡ d
same_cell_lem c d t = sym (back c) ∙ ap of_numbers (same_numbers_lem (numbers c) (numbers d) t) ∙ back d

-- s is not k, where what stands at k is another
abbrev Off : Bool → ℕ → ℕ → Type 0
Off true k s = Unit {0}
Off false k s = s ≡ k → ⊥

-- s is before k, where what stands past the end is another
abbrev Before : Bool → ℕ → ℕ → Type 0
Before true k s = Unit {0}
Before false k s = s < k

-- at each number from k on at which x does not stand, s is not that number
abbrev pub Settled : {A : Type 0} → (A → A → Bool) → A → A → List A → ℕ → ℕ → Type 0
Settled alike rest x [] k s = Before (alike x rest) k s
Settled alike rest x (c ∷ cs) k s = Off (alike x c) k s × Settled alike rest x cs (suc k) s

module _ {A : Type 0} (alike : A → A → Bool) (alike_is : (x y : A) → alike x y ≡ true → x ≡ y) (rest : A) where
  past : (x : A) (b : Bool) (k j : ℕ) → (b ≡ true → x ≡ rest) → Before b k (k + j) → x ≡ rest
  past x true k j f h = f refl
  past x false k j f h = absurd (omega arith)

  found : (x c : A) (b : Bool) (k : ℕ) → (b ≡ true → x ≡ c) → Off b k (k + 0) → x ≡ c
  found x c true k f h = f refl
  found x c false k f h = absurd (h (add-zero k))

  from : (x : A) (cs : List A) (k j : ℕ) → Settled alike rest x cs k (k + j) → x ≡ get_or cs j rest
  from x [] k j h = past x (alike x rest) k j (alike_is x rest) h
  from x (c ∷ cs) k zero h = found x c (alike x c) k (alike_is x c) h.0
  from x (c ∷ cs) k (suc j) h = from x cs (suc k) j (subst (λ (n : ℕ). Settled alike rest x cs (suc k) n) (add-suc k j ∙ sym (suc-add k j)) h.1)

  pub at_every : (x : A) (cs : List A) (s : ℕ) → Settled alike rest x cs 0 s → x ≡ get_or cs s rest
  at_every x cs s h = from x cs 0 s (subst (λ (n : ℕ). Settled alike rest x cs 0 n) (sym (zero-add s)) h)

pub settled : {x : Cell} (row : List Cell) (s : ℕ) → Settled same_cell impossible x (impossible ∷ row) 0 s → x ≡ cell_in row s
unfolding cell_in
settled {x} row s h = at_every same_cell same_cell_lem impossible x (impossible ∷ row) s h

pub settled_info : {x : ℕ} (sent : List ℕ) (s : ℕ) → Settled eqb 0 x (0 ∷ sent) 0 s → x ≡ info_in sent s
unfolding info_in
settled_info {x} sent s h = at_every eqb eqb-true 0 x (0 ∷ sent) s h

pub no_cells : (s : ℕ) → Impossible ≡ cell_in [] s
unfolding cell_in
no_cells zero = refl
no_cells (suc s) = refl

-- An event past the table's rows, or 0, has impossible cells.
pub no_row : (table : List (List Cell)) (event state : ℕ) → (1 ≤ event → event ≤ length table → ⊥) → Impossible ≡ cell_of table event state
no_row table zero state h = no_cells state
no_row table (suc event) state h =
    let past : length table < suc event = omega arith in
    let e : row_of table (suc event) ≡ [] = get_or-eq_default ([] ∷ table) [] past in rw e (no_cells state)
