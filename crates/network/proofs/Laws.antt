-- What the definitions of the network end come to, for their readers and for the crates above.
use mathlib.Core.Path.{◌≡◌, refl}
use mathlib.Core.Bool.{true}
use mathlib.Core.List.{◌++◌}
use Prim.Native.Nat.{ℕ, zero, suc, ◌≤◌}
use native.Mathlib.Omega.{arith}
use lib.Dec.{eqb}
use lib.ListN.{length, length-append}
use borrow.Author.Tests.{le-leb}
use Rattle.test_lemmas.proofs.ByCases.{by_test}
use Rattle.notes_and_cells.specs.Notes.{noted}
use Rattle.notes_and_cells.specs.Cells.{cell_in, cell_of}
use Rattle.notes_and_cells.specs.CellParts.{state_after}
use Rattle.notes_and_cells.specs.declared.cell.Cell.{Cell}
use Rattle.notes_and_cells.specs.declared.cell.Cell.TheVariants.{To, Stay, Impossible, Absent}
use Rattle.notes_and_cells.proofs.NotesKept.{noted_packed, every_note, every_append, is_indication}
use Rattle.table_6_3.specs.Table63.{table63, G3, t1_row, t2_row, info_1_row, loss_row}
use Rattle.table_6_3.proofs.Laws.{notes_two, notes_indications, t1_keeps_g3, t2_keeps_g3}
use Rattle.timing.specs.Counts.{most_periods}
use Rattle.timing.specs.Calls.{at_period}
use Rattle.timing.specs.Timers.{due, started_by, timer_after}
use Rattle.alignment.specs.Alignment.{framed_to_gain, unframed_to_lose, followed}
use Rattle.heard_line.specs.Heard.{upward_event, loss_up}
use Rattle.alignment.specs.declared.Alignment.{Alignment}
use Rattle.heard_line.specs.declared.heard.Upward.{Upward}
use Rattle.network.specs.Network.{unchanged, acts, moved, happens, and_then, aligned, is_request, bars, requests, t1_due, t2_due, timers, heard_as, hears}
use Rattle.network.specs.Calls.{network_in_range, ready, checked, request_call, timer_call, hear_call}
use Rattle.network.specs.declared.Network.{Network}
use Rattle.network.specs.Steps.{NetworkStep}
use Rattle.network.proofs.TwoEvents.{happens_notes}

-- ---- the calls, where the record is in range and the period one that a bus runs
checked_called : (step : ℕ → Network → NetworkStep) (now : ℕ) (n : Network) → now ≤ most_periods → network_in_range n ≡ true → checked step (at_period now) n ≡ step now n
unfolding checked ready
checked_called step now n l h = rw (h, le-leb now most_periods l)

module _ (now : ℕ) (n : Network) (l : now ≤ most_periods) (h : network_in_range n ≡ true) where
  pub requested_called : (event : ℕ) → request_call event (at_period now) n ≡ requests event now n
  requested_called event = checked_called (requests event) now n l h

  pub timer_due_called : timer_call (at_period now) n ≡ timers now n
  timer_due_called = checked_called timers now n l h

  pub heard_called : (line : Upward) → hear_call line (at_period now) n ≡ hears line now n
  heard_called line = checked_called (hears line) now n l h

-- ---- states
acts_state : (c : Cell) (now : ℕ) (n : Network) → (acts c now n).network.state ≡ state_after c n.state
unfolding acts moved
acts_state (To next action notes) now n = refl
acts_state (Stay notes) now n = refl
acts_state Impossible now n = refl
acts_state Absent now n = refl

pub happens_state : (e now : ℕ) (n : Network) → (happens e now n).network.state ≡ state_after (cell_of table63 e n.state) n.state
unfolding happens
happens_state e now n = acts_state (cell_of table63 e n.state) now n

t1_due_g3 : (now : ℕ) (n : Network) → eqb (t1_due now n).network.state G3 ≡ eqb n.state G3
unfolding t1_due
t1_due_g3 now n = by_test (due n.t1 now) (λ t. rw (t, happens_state t1_row now _) (t1_keeps_g3 n.state)) (λ t. rw t)

t2_due_g3 : (now : ℕ) (n : Network) → eqb (t2_due now n).network.state G3 ≡ eqb n.state G3
unfolding t2_due
t2_due_g3 now n = by_test (due n.t2 now) (λ t. rw (t, happens_state t2_row now _) (t2_keeps_g3 n.state)) (λ t. rw t)

-- No timer that is due leads into G3 or out of it.
pub timers_keep_g3 : (now : ℕ) (n : Network) → eqb (timers now n).network.state G3 ≡ eqb n.state G3
unfolding timers and_then
timers_keep_g3 now n = rw (t2_due_g3 now (t1_due now n).network) (t1_due_g3 now n)

-- ---- notes
pub happens_two : (e now : ℕ) (n : Network) → length (noted (happens e now n).notes) ≤ 2
happens_two e now n = rw (happens_notes e now n) (notes_two e n.state)

t1_two : (now : ℕ) (n : Network) → length (noted (t1_due now n).notes) ≤ 2
unfolding t1_due noted
t1_two now n = by_test (due n.t1 now) (λ t. rw t (happens_two t1_row now _)) (λ t. rw t (omega arith))

t2_two : (now : ℕ) (n : Network) → length (noted (t2_due now n).notes) ≤ 2
unfolding t2_due noted
t2_two now n = by_test (due n.t2 now) (λ t. rw t (happens_two t2_row now _)) (λ t. rw t (omega arith))

joined : (s : NetworkStep) (f : Network → NetworkStep) → length (noted s.notes) ≤ 2 → length (noted (f s.network).notes) ≤ 2 →
    noted (and_then s f).notes ≡ noted s.notes ++ noted (f s.network).notes
unfolding and_then
joined s f p q = noted_packed (noted s.notes ++ noted (f s.network).notes) (simp length-append (omega arith))

-- Of the timers' notes none is cut off: they are T1's and then T2's.
pub timers_notes : (now : ℕ) (n : Network) → noted (timers now n).notes ≡ noted (t1_due now n).notes ++ noted (t2_due now (t1_due now n).network).notes
unfolding timers
timers_notes now n = joined (t1_due now n) (t2_due now) (t1_two now n) (t2_two now (t1_due now n).network)

-- Nor of those of a heard line: they are the loss's and then the line's.
abbrev loss_heard : Upward → ℕ → Network → NetworkStep
loss_heard line now n =
    happens (loss_up (followed framed_to_gain unframed_to_lose line.pulse line.framed n.alignment)) now
    (aligned (followed framed_to_gain unframed_to_lose line.pulse line.framed n.alignment).alignment n)

abbrev line_heard : Upward → ℕ → Network → NetworkStep
line_heard line now n = happens (upward_event line (followed framed_to_gain unframed_to_lose line.pulse line.framed n.alignment)) now (loss_heard line now n).network

pub hears_notes : (line : Upward) (now : ℕ) (n : Network) → noted (hears line now n).notes ≡ noted (loss_heard line now n).notes ++ noted (line_heard line now n).notes
unfolding hears heard_as
hears_notes line now n =
    joined (loss_heard line now n) (happens (upward_event line (followed framed_to_gain unframed_to_lose line.pulse line.framed n.alignment)) now) (happens_two _ now _) (happens_two _ now _)

-- Every note is an indication of table 6-3.
abbrev Told : NetworkStep → Type 0
Told s = every_note is_indication (noted s.notes) ≡ true

pub happens_told : (e now : ℕ) (n : Network) → Told (happens e now n)
happens_told e now n = rw (happens_notes e now n) (notes_indications e n.state)

pub requests_told : (event now : ℕ) (n : Network) → Told (requests event now n)
unfolding requests every_note noted
requests_told event now n = by_test (is_request event)
    (λ t. rw t (by_test (bars event n.state) (λ u. rw u) (λ u. rw u (happens_told event now n))))
    (λ t. rw t)

t1_told : (now : ℕ) (n : Network) → Told (t1_due now n)
unfolding t1_due every_note noted
t1_told now n = by_test (due n.t1 now) (λ t. rw t (happens_told t1_row now _)) (λ t. rw t)

t2_told : (now : ℕ) (n : Network) → Told (t2_due now n)
unfolding t2_due every_note noted
t2_told now n = by_test (due n.t2 now) (λ t. rw t (happens_told t2_row now _)) (λ t. rw t)

pub timers_told_lem : (now : ℕ) (n : Network) → Told (timers now n)
timers_told_lem now n = rw (timers_notes now n) (every_append is_indication (noted (t1_due now n).notes) _ (t1_told now n) (t2_told now (t1_due now n).network))

pub hears_told : (line : Upward) (now : ℕ) (n : Network) → Told (hears line now n)
hears_told line now n = rw (hears_notes line now n) (every_append is_indication (noted (loss_heard line now n).notes) _ (happens_told _ now _) (happens_told _ now _))

-- ---- events
-- A signal, for which table 6-3 has no row, changes nothing.
pub no_event : (now : ℕ) (n : Network) → happens 0 now n ≡ unchanged 0 n
unfolding happens acts cell_in
no_event now n = from n.state
  where
    from : (s : ℕ) → acts (cell_of table63 0 s) now n ≡ unchanged 0 n
    from zero = refl
    from (suc s) = refl

-- Where INFO 1 and the event of loss fall together, their order does not matter.
pub loss_and_info_1 : (now t1 t2 state : ℕ) (a : Alignment) →
    and_then (happens loss_row now (record { t1 = t1; t2 = t2; state = state; alignment = a })) (happens info_1_row now)
    ≡ and_then (happens info_1_row now (record { t1 = t1; t2 = t2; state = state; alignment = a })) (happens loss_row now)
unfolding happens acts cell_in and_then moved noted timer_after started_by
loss_and_info_1 now t1 t2 zero a = refl
loss_and_info_1 now t1 t2 (suc zero) a = refl
loss_and_info_1 now t1 t2 (suc (suc zero)) a = refl
loss_and_info_1 now t1 t2 (suc (suc (suc zero))) a = refl
loss_and_info_1 now t1 t2 (suc (suc (suc (suc zero)))) a = refl
loss_and_info_1 now t1 t2 (suc (suc (suc (suc (suc s))))) a = refl
