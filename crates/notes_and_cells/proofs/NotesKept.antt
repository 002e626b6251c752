-- Notes in order, with 0 in the places that have none; that none is cut off; and which cells have no notes.
use mathlib.Core.Path.{◌≡◌, refl, sym, ap, ◌∙◌}
use mathlib.Core.Bool.{Bool, true, false, cond}
use mathlib.Core.List.{List, [], ◌∷◌, ◌++◌}
use Prim.Native.Nat.{ℕ, ◌+◌, ◌≤◌, min}
use native.Mathlib.Nat.{min-le_left, min-le_right}
use native.Mathlib.Numerals.{add-one}
use native.Mathlib.Omega.{arith}
use lib.Dec.{eqb, ltb, leb}
use lib.ListN.{get_or, length, take, length-take}
use borrow.Author.Tests.{eqb-true, leb-true}
use Rattle.test_lemmas.proofs.ByCases.{both}
use Rattle.notes_and_cells.specs.Notes.{ph_act, mph_ii_disconnected, packed_notes, noted}
use Rattle.notes_and_cells.specs.CellParts.{cell_notes}
use Rattle.notes_and_cells.specs.declared.cell.Cell.{Cell}
use Rattle.notes_and_cells.specs.declared.notes.Notes.{Notes}
use Rattle.notes_and_cells.proofs.Rows.{same_numbers, same_numbers_lem}

-- Up to four notes are kept as they are.
pub noted_packed : (l : List ℕ) → length l ≤ 4 → noted (packed_notes l) ≡ l
unfolding noted
noted_packed [] h = refl
noted_packed (a ∷ []) h = refl
noted_packed (a ∷ b ∷ []) h = refl
noted_packed (a ∷ b ∷ c ∷ []) h = refl
noted_packed (a ∷ b ∷ c ∷ d ∷ []) h = refl
noted_packed (a ∷ b ∷ c ∷ d ∷ e ∷ l) h = absurd (omega arith)

pub noted_length : (n : Notes) → length (noted n) ≤ n.0
unfolding noted
noted_length n =
    let l = n.1 ∷ n.2 ∷ n.3 ∷ n.4 ∷ [] in
    let h : min n.0 4 ≤ n.0 = min-le_left n.0 4 in
    let e : length (take n.0 l) ≡ min n.0 4 = length-take n.0 l in
    rw e h

-- A cell has no notes; it has at most n.
abbrev pub quiet : Cell → Bool
quiet c = eqb (cell_notes c).0 0

abbrev pub at_most : ℕ → Cell → Bool
at_most n c = leb (cell_notes c).0 n

pub quiet_is : (c : Cell) → quiet c ≡ true → noted (cell_notes c) ≡ []
unfolding noted
quiet_is c t = let e : (cell_notes c).0 ≡ 0 = eqb-true (cell_notes c).0 0 t in rw e

pub at_most_is : (n : ℕ) (c : Cell) → at_most n c ≡ true → length (noted (cell_notes c)) ≤ n
at_most_is n c t = omega (arith, noted_length (cell_notes c), leb-true (cell_notes c).0 n t)

-- A cell's notes are in order.
abbrev as_list : Notes → List ℕ
as_list n = n.0 ∷ n.1 ∷ n.2 ∷ n.3 ∷ n.4 ∷ []

from_list : List ℕ → Notes
from_list l = (get_or l 0 0, get_or l 1 0, get_or l 2 0, get_or l 3 0, get_or l 4 0)

unfoldable pub tidy : Cell → Bool
tidy c = same_numbers (as_list (packed_notes (noted (cell_notes c)))) (as_list (cell_notes c))

pub tidy_is : (c : Cell) → tidy c ≡ true → packed_notes (noted (cell_notes c)) ≡ cell_notes c
unfolding from_list tidy
tidy_is c t = ap from_list (same_numbers_lem (as_list (packed_notes (noted (cell_notes c)))) (as_list (cell_notes c)) t)

-- Notes that are in order are at most four; and one more note before them.
pub few : (n : Notes) → packed_notes (noted n) ≡ n → n.0 ≤ 4
unfolding noted
few n t =
    let l = n.1 ∷ n.2 ∷ n.3 ∷ n.4 ∷ [] in
    let h : min n.0 4 ≤ 4 = min-le_right n.0 4 in
    let e : min n.0 4 ≡ n.0 = sym (length-take n.0 l) ∙ ap (λ m. m.0) t in
    rw e at h

pub put_first : (x : ℕ) (n : Notes) → packed_notes (noted n) ≡ n → (n.0 + 1, x, n.1, n.2, n.3) ≡ packed_notes ((x ∷ []) ++ noted n)
put_first x n t = put x (noted n) n t
  where
    put : (x : ℕ) (l : List ℕ) (n : Notes) → packed_notes l ≡ n → (n.0 + 1, x, n.1, n.2, n.3) ≡ packed_notes (x ∷ l)
    put x l n t = rw (← t, add-one)

-- A test of every code in a list of notes.
unfoldable pub every_note : (ℕ → Bool) → List ℕ → Bool
every_note f [] = true
every_note f (code ∷ codes) = cond (f code) (every_note f codes) false

pub every_append : (f : ℕ → Bool) (xs ys : List ℕ) → every_note f xs ≡ true → every_note f ys ≡ true → every_note f (xs ++ ys) ≡ true
unfolding every_note
every_append f [] ys p q = q
every_append f (x ∷ xs) ys p q =
    let h = both (f x) (every_note f xs) p in
    rw h.0 (every_append f xs ys h.1 q)

pub every_of : (f g : ℕ → Bool) → ((code : ℕ) → f code ≡ true → g code ≡ true) → (xs : List ℕ) → every_note f xs ≡ true → every_note g xs ≡ true
unfolding every_note
every_of f g i [] p = refl
every_of f g i (x ∷ xs) p =
    let h = both (f x) (every_note f xs) p in
    rw (i x h.0) (every_of f g i xs h.1)

-- The codes that cells may have: the standard's indications, and none of HEARD, TORN, DONE1, DONE2, DROPPED1, DROPPED2 and REFUSED.
abbrev pub is_indication : ℕ → Bool
is_indication code = cond (ltb code ph_act) false (leb code mph_ii_disconnected)

unfoldable pub indications : Cell → Bool
indications c = every_note is_indication (noted (cell_notes c))
