-- What table 6-3 comes to: each law is one computed test over its cells.
use mathlib.Core.Path.{◌≡◌, refl}
use mathlib.Core.Bool.{true, false}
use mathlib.Core.List.{[], ◌∷◌, map}
use Prim.Native.Nat.{ℕ, ◌≤◌}
use lib.Dec.{eqb}
use lib.ListN.{length}
use Rattle.notes_and_cells.specs.Notes.{packed_notes, noted}
use Rattle.notes_and_cells.specs.Cells.{cell_in, cell_of}
use Rattle.notes_and_cells.specs.CellParts.{state_after, cell_notes, is_void}
use Rattle.notes_and_cells.proofs.Everywhere.{in_row, in_table}
use Rattle.notes_and_cells.proofs.NextState.{next_to, row_keeps}
use Rattle.notes_and_cells.proofs.NotesKept.{quiet, quiet_is, tidy, tidy_is, at_most, at_most_is, every_note, is_indication, indications}
use Rattle.table_6_3.specs.Table63.{table63, t1_expiry, t2_expiry, info1_received, G1, G2, G3, G4, ar_row, dr_row, t1_row, t2_row, info_1_row}

-- Refusal 5: "`ar` in .. G2 or G3, `dr` in G1 or G4" are the empty and the impossible cells of the requests' rows.
pub ar_barred : map (λ s. is_void (cell_of table63 ar_row s)) (G1 ∷ G2 ∷ G3 ∷ G4 ∷ []) ≡ false ∷ true ∷ true ∷ false ∷ []
unfolding cell_in
ar_barred = refl

pub dr_barred : map (λ s. is_void (cell_of table63 dr_row s)) (G1 ∷ G2 ∷ G3 ∷ G4 ∷ []) ≡ true ∷ false ∷ false ∷ true ∷ []
unfolding cell_in
dr_barred = refl

-- No due timer leads into G3 or out of it.
pub t1_keeps_g3 : (s : ℕ) → eqb (state_after (cell_of table63 t1_row s) s) G3 ≡ eqb s G3
t1_keeps_g3 s = row_keeps G3 t1_expiry refl s

pub t2_keeps_g3 : (s : ℕ) → eqb (state_after (cell_of table63 t2_row s) s) G3 ≡ eqb s G3
t2_keeps_g3 s = row_keeps G3 t2_expiry refl s

-- Every cell leads to one of G1 to G4.
pub next_state_lem : (e s : ℕ) → next_to G4 (cell_of table63 e s) ≡ true
next_state_lem e s = in_table (next_to G4) table63 refl refl e s

-- A cell's notes: in order, at most two, indications only; the rows of T2 and INFO 1 have none.
pub notes_in_order : (e s : ℕ) → packed_notes (noted (cell_notes (cell_of table63 e s))) ≡ cell_notes (cell_of table63 e s)
unfolding tidy noted
notes_in_order e s = tidy_is (cell_of table63 e s) (in_table tidy table63 refl refl e s)

pub notes_two : (e s : ℕ) → length (noted (cell_notes (cell_of table63 e s))) ≤ 2
notes_two e s = at_most_is 2 (cell_of table63 e s) (in_table (at_most 2) table63 refl refl e s)

pub notes_indications : (e s : ℕ) → every_note is_indication (noted (cell_notes (cell_of table63 e s))) ≡ true
unfolding indications every_note noted
notes_indications e s = in_table indications table63 refl refl e s

pub t2_quiet : (s : ℕ) → noted (cell_notes (cell_of table63 t2_row s)) ≡ []
t2_quiet s = quiet_is (cell_of table63 t2_row s) (in_row (λ s. quiet) t2_expiry (λ s. refl) refl s)

pub info_1_quiet : (s : ℕ) → noted (cell_notes (cell_of table63 info_1_row s)) ≡ []
info_1_quiet s = quiet_is (cell_of table63 info_1_row s) (in_row (λ s. quiet) info1_received (λ s. refl) refl s)

-- A signal, for which table 6-3 has no row, has no notes.
pub no_event_quiet : (s : ℕ) → noted (cell_notes (cell_of table63 0 s)) ≡ []
no_event_quiet s = quiet_is (cell_of table63 0 s) (in_row (λ s. quiet) [] (λ s. refl) refl s)
