-- The rules bar a terminal's `ar` exactly where its cell in table 6-2 is impossible or empty: the code looks at the cell.
use mathlib.Core.Path.{◌≡◌, refl}
use mathlib.Core.Bool.{true, cond}
use Prim.Native.Nat.{ℕ, ◌≤◌}
use lib.Dec.{eqb}
use Rattle.std.specs.Prelude.{Ok, Err, Some, None}
use Rattle.std.specs.Option.{unwrap_or, ok_or}
use Rattle.test_lemmas.proofs.ByCases.{by_test, both}
use Rattle.notes_and_cells.specs.Cells.{row_of, cell_of}
use Rattle.notes_and_cells.specs.CellParts.{is_void}
use Rattle.notes_and_cells.specs.declared.cell.Cell.{Cell}
use Rattle.notes_and_cells.specs.declared.cell.Cell.TheVariants.{To, Stay, Impossible, Absent}
use Rattle.notes_and_cells.proofs.Everywhere.{at_state}
use Rattle.notes_and_cells.proofs.NextState.{alike, alike_is}
use Rattle.table_6_2.specs.Table62.{table62, F1, F8, on_row, off_row, ar_row, t3_row}
use Rattle.refusals.specs.declared.Refusal.TheVariants as Refusal
use Rattle.timing.specs.Timers.{due}
use Rattle.timing.specs.Calls.{periods_in_range}
use Rattle.timing.specs.declared.counts.Periods.{Periods}
use Rattle.alignment.specs.Alignment.{framed_to_gain, unframed_to_lose, followed}
use Rattle.alignment.specs.Alignment as alignment
use Rattle.heard_line.specs.declared.heard.Downward.{Downward}
use Rattle.terminal.specs.Terminal.{unchanged, acts, happens, aligned, no_timer, bars, switches_on, switches_off, requests, timer, heard_as, hears}
use Rattle.terminal.specs.Calls.{terminal_in_range, ready, checked, request_call}
use Rattle.terminal.specs.Steps.{step_of, as_result}
use Rattle.terminal.specs.declared.Terminal.{Terminal}
use Rattle.terminal.proofs.RangesKept.{terminal_fits}

pub void_ar : (s : ℕ) → F1 ≤ s → s ≤ F8 → is_void (cell_of table62 ar_row s) ≡ bars ar_row s
unfolding bars
void_ar s low high = alike_is _ _ (at_state (λ s c. alike (is_void c) (bars ar_row s)) (row_of table62 ar_row) refl s low high)

-- ---- an event that is no request changes nothing at a cell that is impossible or empty
acts_void : (c : Cell) (now : ℕ) (t : Terminal) →
    unwrap_or (cond (is_void c) None (Some (step_of (acts c now t)))) (step_of (unchanged 0 t)) ≡ step_of (acts c now t)
unfolding acts
acts_void (To next action notes) now t = refl
acts_void (Stay notes) now t = refl
acts_void Impossible now t = refl
acts_void Absent now t = refl

pub happened : (e now : ℕ) (t : Terminal) →
    unwrap_or (cond (is_void (cell_of table62 e t.state)) None (Some (step_of (happens e now t)))) (step_of (unchanged 0 t)) ≡ step_of (happens e now t)
unfolding happens
happened e now t = acts_void (cell_of table62 e t.state) now t

acts_reply : (c : Cell) (now : ℕ) (t : Terminal) → (acts c now t).reply ≡ 0
unfolding acts
acts_reply (To next action notes) now t = refl
acts_reply (Stay notes) now t = refl
acts_reply Impossible now t = refl
acts_reply Absent now t = refl

-- No event is refused where it happens.
pub happens_given : (e now : ℕ) (t : Terminal) → as_result (happens e now t) ≡ Ok (step_of (happens e now t))
unfolding happens as_result
happens_given e now t = rw (acts_reply (cell_of table62 e t.state) now t)

-- A call with a record or a period out of range.
pub refused_by_1 : (t : Terminal) → as_result (unchanged 1 t) ≡ Err Refusal.OutOfRange
unfolding as_result
refused_by_1 t = refl

-- ---- the steps, as the code goes through them
module _ (now : ℕ) (t : Terminal) where
  pub switched_on : as_result (switches_on now t) ≡ cond (eqb t.state F1) (Ok (step_of (happens on_row now (aligned alignment.fresh t)))) (Err Refusal.Barred)
  unfolding switches_on bars as_result
  switched_on = by_test (eqb t.state F1) (λ e. rw e (happens_given on_row now (aligned alignment.fresh t))) (λ e. rw e)

  pub switched_off : as_result (switches_off now t) ≡ cond (eqb t.state F1) (Err Refusal.Barred) (Ok (step_of (happens off_row now (no_timer t))))
  unfolding switches_off bars as_result
  switched_off = by_test (eqb t.state F1) (λ e. rw e) (λ e. rw e (happens_given off_row now (no_timer t)))

  pub timed : as_result (timer now t) ≡ cond (due t.t3 now) (Ok (step_of (happens t3_row now (no_timer t)))) (Ok (step_of (unchanged 0 t)))
  unfolding timer as_result
  timed = by_test (due t.t3 now) (λ e. rw e (happens_given t3_row now (no_timer t))) (λ e. rw e)

  pub heard : (line : Downward) → as_result (hears line now t)
      ≡ cond (eqb t.state F1) (Ok (step_of (unchanged 0 t)))
      (Ok (step_of (heard_as line (followed framed_to_gain unframed_to_lose line.pulse line.framed t.alignment) now t)))
  unfolding hears heard_as as_result
  heard line = by_test (eqb t.state F1) (λ e. rw e) (λ e. rw e (happens_given _ now _))

-- ---- `ar`, where record and period are in range: its cell is void exactly where it is barred
ready_fits : (now : Periods) (t : Terminal) → ready now t ≡ true → terminal_in_range t ≡ true
unfolding ready
ready_fits now t h = (both (terminal_in_range t) (periods_in_range now) h).0

pub asked : (now : Periods) (t : Terminal) → ready now t ≡ true →
    ok_or (cond (is_void (cell_of table62 ar_row t.state)) None (Some (step_of (happens ar_row now.0 t)))) Refusal.Barred ≡ as_result (request_call now t)
unfolding checked requests
asked now t ok =
    let f = terminal_fits t (ready_fits now t ok) in
    rw (ok, void_ar t.state f.from_f1 f.to_f8)
    (by_test (bars ar_row t.state) (λ b. unfold as_result in rw b) (λ b. rw (b, happens_given ar_row now.0 t)))
