-- The rules bar a request exactly where its cell in table 6-3 is impossible or empty: the code looks at the cell.
use mathlib.Core.Path.{◌≡◌, refl}
use mathlib.Core.Bool.{true, cond, ◌||◌}
use Prim.Native.Nat.{ℕ, ◌≤◌}
use lib.Dec.{eqb}
use borrow.Author.Tests.{eqb-true}
use Rattle.test_lemmas.proofs.ByCases.{by_test, both}
use Rattle.notes_and_cells.specs.Cells.{row_of, cell_of}
use Rattle.notes_and_cells.specs.CellParts.{is_void}
use Rattle.notes_and_cells.specs.declared.cell.Cell.{Cell}
use Rattle.notes_and_cells.specs.declared.cell.Cell.TheVariants.{To, Stay, Impossible, Absent}
use Rattle.notes_and_cells.proofs.Everywhere.{at_state}
use Rattle.notes_and_cells.proofs.NextState.{alike, alike_is}
use Rattle.table_6_3.specs.Table63.{table63, G1, G4, ar_row, dr_row}
use Rattle.timing.specs.Calls.{periods_in_range}
use Rattle.timing.specs.declared.counts.Periods.{Periods}
use Rattle.network.specs.Network.{unchanged, acts, happens, bars, requests}
use Rattle.network.specs.Calls.{network_in_range, ready, checked, request_call}
use Rattle.network.specs.declared.Network.{Network}
use Rattle.network.specs.Steps.{step_of, as_result}
use Rattle.std.specs.Prelude.{Some, None}
use Rattle.std.specs.Option.{unwrap_or, ok_or}
use Rattle.refusals.specs.declared.Refusal.{Refusal}
use Rattle.network.proofs.TwoEvents.{is_request_lem, happens_reply}
use Rattle.network.proofs.RangesKept.{network_fits}

void_ar : (s : ℕ) → G1 ≤ s → s ≤ G4 → is_void (cell_of table63 ar_row s) ≡ bars ar_row s
unfolding bars
void_ar s low high = alike_is _ _ (at_state (λ s c. alike (is_void c) (bars ar_row s)) (row_of table63 ar_row) refl s low high)

void_dr : (s : ℕ) → G1 ≤ s → s ≤ G4 → is_void (cell_of table63 dr_row s) ≡ bars dr_row s
unfolding bars
void_dr s low high = alike_is _ _ (at_state (λ s c. alike (is_void c) (bars dr_row s)) (row_of table63 dr_row) refl s low high)

pub void_barred : (event s : ℕ) → (eqb event ar_row || eqb event dr_row) ≡ true → G1 ≤ s → s ≤ G4 → is_void (cell_of table63 event s) ≡ bars event s
void_barred event s k low high =
    by_test (eqb event ar_row)
    (λ t. rw (eqb-true event ar_row t) (void_ar s low high))
    (λ t. rw (eqb-true event dr_row (rw t at k)) (void_dr s low high))

-- ---- an event that is no request changes nothing at a cell that is impossible or empty
acts_void : (c : Cell) (now : ℕ) (n : Network) →
    unwrap_or (cond (is_void c) None (Some (step_of (acts c now n)))) (step_of (unchanged 0 n)) ≡ step_of (acts c now n)
unfolding acts
acts_void (To next action notes) now n = refl
acts_void (Stay notes) now n = refl
acts_void Impossible now n = refl
acts_void Absent now n = refl

pub happened : (e now : ℕ) (n : Network) →
    unwrap_or (cond (is_void (cell_of table63 e n.state)) None (Some (step_of (happens e now n)))) (step_of (unchanged 0 n)) ≡ step_of (happens e now n)
unfolding happens
happened e now n = acts_void (cell_of table63 e n.state) now n

-- ---- a request, where record and period are in range: its cell is void exactly where it is barred
ready_fits : (now : Periods) (n : Network) → ready now n ≡ true → network_in_range n ≡ true
unfolding ready
ready_fits now n h = (both (network_in_range n) (periods_in_range now) h).0

pub asked : (event : ℕ) (now : Periods) (n : Network) → ready now n ≡ true → (eqb event ar_row || eqb event dr_row) ≡ true →
    ok_or (cond (is_void (cell_of table63 event n.state)) None (Some (step_of (happens event now.0 n)))) Refusal.Barred ≡ as_result (request_call event now n)
unfolding checked requests as_result
asked event now n ok k =
    let f = network_fits n (ready_fits now n ok) in
    rw (ok, is_request_lem event, k, void_barred event n.state k f.from_g1 f.to_g4)
    (by_test (bars event n.state) (λ b. rw b) (λ b. rw (b, happens_reply event now.0 n)))
