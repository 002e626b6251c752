-- What table 6-2 comes to: each law is one computed test over its cells.
use mathlib.Core.Path.{◌≡◌, refl, sym, ◌∙◌}
use mathlib.Core.Bool.{true, false, cond}
use mathlib.Core.List.{[], ◌∷◌, map}
use Prim.Native.Nat.{ℕ, ◌≤◌}
use native.Mathlib.Omega.{arith}
use lib.Dec.{eqb}
use lib.ListN.{length}
use borrow.Author.Tests.{eqb-true, ne_eqb}
use Rattle.notes_and_cells.specs.Notes.{packed_notes, noted}
use Rattle.notes_and_cells.specs.Cells.{row_of, cell_in, cell_of, info_in}
use Rattle.notes_and_cells.specs.CellParts.{state_after, cell_notes, is_void}
use Rattle.notes_and_cells.specs.declared.cell.Cell.{Cell}
use Rattle.notes_and_cells.specs.declared.cell.Cell.TheVariants.{To}
use Rattle.notes_and_cells.specs.declared.notes.Notes.{Notes}
use Rattle.notes_and_cells.proofs.Everywhere.{in_table, in_sent, at_state, at_event}
use Rattle.notes_and_cells.proofs.NextState.{alike, alike_is, next_to, row_keeps}
use Rattle.notes_and_cells.proofs.NotesKept.{tidy, tidy_is, at_most, at_most_is, every_note, is_indication, indications}
use Rattle.table_6_2.specs.Table62.{table62, t3_expiry, signal_received, info_sent, F1, F2, F3, F4, F5, F6, F7, F8, ar_row, t3_row, signal_row}
use Rattle.table_6_2.specs.States.{next_state, in_f6_or_f7, in_f6_or_f7_after, in_f1_after}

-- Refusal 5: "`ar` in F1, F2, F4, F5, F7" are the empty and the impossible cells of the request's row.
pub ar_barred :
    map (λ s. is_void (cell_of table62 ar_row s)) (F1 ∷ F2 ∷ F3 ∷ F4 ∷ F5 ∷ F6 ∷ F7 ∷ F8 ∷ [])
    ≡ true ∷ true ∷ false ∷ true ∷ true ∷ false ∷ true ∷ false ∷ []
unfolding cell_in
ar_barred = refl

-- T3, where it is due, leads neither into F7 nor out of it.
pub t3_keeps_f7 : (s : ℕ) → eqb (state_after (cell_of table62 t3_row s) s) F7 ≡ eqb s F7
t3_keeps_f7 s = row_keeps F7 t3_expiry refl s

-- Every cell leads to one of F1 to F8.
pub next_state_lem : (e s : ℕ) → next_to F8 (cell_of table62 e s) ≡ true
next_state_lem e s = in_table (next_to F8) table62 refl refl e s

-- A cell's notes: in order, at most three, indications only.
pub notes_in_order : (e s : ℕ) → packed_notes (noted (cell_notes (cell_of table62 e s))) ≡ cell_notes (cell_of table62 e s)
unfolding tidy noted
notes_in_order e s = tidy_is (cell_of table62 e s) (in_table tidy table62 refl refl e s)

-- The same of a cell that was found to lead to a state.
pub found_in_order : (e s : ℕ) {x : Cell} {next action : ℕ} {notes : Notes} → x ≡ cell_of table62 e s → x ≡ To next action notes → packed_notes (noted notes) ≡ notes
found_in_order e s {x} {next} {action} {notes} p q =
    let h : cell_of table62 e s ≡ To next action notes = sym p ∙ q in
    rw h at (notes_in_order e s)

pub notes_three : (e s : ℕ) → length (noted (cell_notes (cell_of table62 e s))) ≤ 3
notes_three e s = at_most_is 3 (cell_of table62 e s) (in_table (at_most 3) table62 refl refl e s)

pub notes_indications : (e s : ℕ) → every_note is_indication (noted (cell_notes (cell_of table62 e s))) ≡ true
unfolding indications every_note noted
notes_indications e s = in_table indications table62 refl refl e s

-- INFO 3 is sent in F6 and F7, INFO 1 in F4.
pub info_3_sent : (s : ℕ) → eqb (info_in info_sent s) 3 ≡ in_f6_or_f7 s
info_3_sent s =
    alike_is (eqb (info_in info_sent s) 3) (in_f6_or_f7 s)
    (in_sent (λ s info. alike (eqb info 3) (in_f6_or_f7 s)) info_sent refl (λ s l. simp (ne_eqb s F6 (omega arith), ne_eqb s F7 (omega arith))) refl s)

pub info_1_sent : (s : ℕ) → eqb (info_in info_sent s) 1 ≡ eqb s F4
info_1_sent s =
    alike_is (eqb (info_in info_sent s) 1) (eqb s F4)
    (in_sent (λ s info. alike (eqb info 1) (eqb s F4)) info_sent refl (λ s l. simp (ne_eqb s F4 (omega arith))) refl s)

-- What each event does to "in F6 or F7" and to "in F1".
module _ (e s : ℕ) (low : F1 ≤ s) (high : s ≤ length (row_of table62 e)) where
  pub in_f6_or_f7_after_lem : in_f6_or_f7 (next_state e s) ≡ in_f6_or_f7_after e s
  in_f6_or_f7_after_lem =
      alike_is (in_f6_or_f7 (next_state e s)) (in_f6_or_f7_after e s)
      (at_event (λ e s c. alike (in_f6_or_f7 (state_after c s)) (in_f6_or_f7_after e s)) table62 refl e s low high)

  pub in_f1_after_lem : eqb (next_state e s) F1 ≡ in_f1_after e s
  in_f1_after_lem =
      alike_is (eqb (next_state e s) F1) (in_f1_after e s)
      (at_event (λ e s c. alike (eqb (state_after c s) F1) (in_f1_after e s)) table62 refl e s low high)

-- A signal leads from F4 to F5, and from no other state.
pub after_signal : (s : ℕ) → F1 ≤ s → s ≤ F8 → next_state signal_row s ≡ cond (eqb s F4) F5 s
after_signal s low high =
    eqb-true (next_state signal_row s) (cond (eqb s F4) F5 s)
    (at_state (λ s c. eqb (state_after c s) (cond (eqb s F4) F5 s)) signal_received refl s low high)
