-- Every call leaves every field of the network end in its range.
use mathlib.Core.Path.{◌≡◌, refl}
use mathlib.Core.Bool.{true}
use Prim.Native.Nat.{ℕ, ◌+◌, ◌≤◌}
use native.Mathlib.Omega.{arith}
use lib.Dec.{ltb}
use borrow.Author.Tests.{le-ltb, ltb-false, leb-true}
use Rattle.test_lemmas.proofs.ByCases.{by_test, both, neither}
use Rattle.notes_and_cells.specs.Cells.{start_t2, cell_of}
use Rattle.notes_and_cells.specs.declared.cell.Cell.{Cell}
use Rattle.notes_and_cells.specs.declared.cell.Cell.TheVariants.{To, Stay, Impossible, Absent}
use Rattle.notes_and_cells.proofs.NextState.{next_to, next_fits}
use Rattle.table_6_3.specs.Table63.{table63, G1, G4, t1_row, t2_row}
use Rattle.table_6_3.proofs.Laws.{next_state_lem}
use Rattle.timing.specs.Counts.{most_periods}
use Rattle.timing.specs.Calls.{periods_in_range}
use Rattle.timing.specs.Timers.{T1, T2, due}
use Rattle.timing.specs.declared.counts.Periods.{Periods}
use Rattle.timing.proofs.RangesKept.{started_at_most, timer_at_most}
use Rattle.alignment.specs.Alignment.{unframed_to_lose, alignment_in_range}
use Rattle.heard_line.specs.declared.heard.Upward.{Upward}
use Rattle.alignment.proofs.Alignments.{followed_in_range}
use Rattle.network.specs.Network.{fresh, acts, moved, happens, and_then, aligned, is_request, bars, requests, t1_due, t2_due, timers, heard_as, hears}
use Rattle.network.specs.Calls.{network_in_range, ready, checked, request_call, timer_call, hear_call}
use Rattle.network.specs.declared.Network.{Network}
use Rattle.network.specs.Steps.{NetworkStep}

-- What the range of the record says, field by field.
pub record NetworkFits (n : Network) : Type 0 where
  pub from_g1 : G1 ≤ n.state
  pub to_g4 : n.state ≤ G4
  pub t1_fits : n.t1 ≤ most_periods + T1
  pub t2_fits : n.t2 ≤ most_periods + T2
  pub alignment_fits : alignment_in_range n.alignment ≡ true

pub network_fits : (n : Network) → network_in_range n ≡ true → NetworkFits n
unfolding network_in_range
network_fits n h =
    let a = neither (ltb n.state G1) _ h in
    let b = neither (ltb G4 n.state) _ a.1 in
    let c = neither (ltb (most_periods + T1) n.t1) _ b.1 in
    let d = neither (ltb (most_periods + T2) n.t2) _ c.1 in
    record {
      from_g1 = ltb-false n.state G1 a.0;
      to_g4 = ltb-false G4 n.state b.0;
      t1_fits = ltb-false (most_periods + T1) n.t1 c.0;
      t2_fits = ltb-false (most_periods + T2) n.t2 d.0;
      alignment_fits = d.1;
    }

pub fits_network : (n : Network) → NetworkFits n → network_in_range n ≡ true
unfolding network_in_range
fits_network n f =
    simp (
      le-ltb n.state G1 f.from_g1,
      le-ltb G4 n.state f.to_g4,
      le-ltb (most_periods + T1) n.t1 f.t1_fits,
      le-ltb (most_periods + T2) n.t2 f.t2_fits,
      f.alignment_fits,
    )

pub fresh_in_range : network_in_range fresh ≡ true
unfolding network_in_range
fresh_in_range = refl

abbrev StepFits : NetworkStep → Type 0
StepFits s = NetworkFits s.network

-- The steps, in a period of the bus.
module _ (now : ℕ) (l : now ≤ most_periods) where
  acts_fits : (c : Cell) (n : Network) → next_to G4 c ≡ true → NetworkFits n → StepFits (acts c now n)
  unfolding acts moved
  acts_fits (To next action notes) n t f =
      record {
        from_g1 = (next_fits G4 next t).0;
        to_g4 = (next_fits G4 next t).1;
        t1_fits = timer_at_most (most_periods + T1) T1 action now n.t1 (omega arith) f.t1_fits;
        t2_fits = started_at_most (most_periods + T2) start_t2 T2 action now n.t2 (omega arith) f.t2_fits;
        alignment_fits = f.alignment_fits;
      }
  acts_fits (Stay notes) n t f = f
  acts_fits Impossible n t f = f
  acts_fits Absent n t f = f

  happens_fits : (event : ℕ) (n : Network) → NetworkFits n → StepFits (happens event now n)
  unfolding happens
  happens_fits event n f = acts_fits (cell_of table63 event n.state) n (next_state_lem event n.state) f

  requests_fits : (event : ℕ) (n : Network) → NetworkFits n → StepFits (requests event now n)
  unfolding requests
  requests_fits event n f = by_test (is_request event)
      (λ t. rw t (by_test (bars event n.state) (λ u. rw u f) (λ u. rw u (happens_fits event n f))))
      (λ t. rw t f)

  t1_due_fits : (n : Network) → NetworkFits n → StepFits (t1_due now n)
  unfolding t1_due
  t1_due_fits n f =
      by_test (due n.t1 now)
      (λ t. rw t (happens_fits t1_row _
      (record { from_g1 = f.from_g1; to_g4 = f.to_g4; t1_fits = omega arith; t2_fits = f.t2_fits; alignment_fits = f.alignment_fits })))
      (λ t. rw t f)

  t2_due_fits : (n : Network) → NetworkFits n → StepFits (t2_due now n)
  unfolding t2_due
  t2_due_fits n f =
      by_test (due n.t2 now)
      (λ t. rw t (happens_fits t2_row _
      (record { from_g1 = f.from_g1; to_g4 = f.to_g4; t1_fits = f.t1_fits; t2_fits = omega arith; alignment_fits = f.alignment_fits })))
      (λ t. rw t f)

  timers_fits : (n : Network) → NetworkFits n → StepFits (timers now n)
  unfolding timers and_then
  timers_fits n f = t2_due_fits (t1_due now n).network (t1_due_fits n f)

  hears_fits : (line : Upward) (n : Network) → NetworkFits n → StepFits (hears line now n)
  unfolding hears heard_as and_then aligned
  hears_fits line n f =
      happens_fits _ _
      (happens_fits _ _
      (record {
        from_g1 = f.from_g1;
        to_g4 = f.to_g4;
        t1_fits = f.t1_fits;
        t2_fits = f.t2_fits;
        alignment_fits = followed_in_range unframed_to_lose (omega arith) n.alignment line.pulse line.framed;
      }))

-- A record that is ready has a period in range.
pub ready_now : (now : Periods) (n : Network) → ready now n ≡ true → now.0 ≤ most_periods
unfolding ready
ready_now now n h = leb-true now.0 most_periods (both (network_in_range n) (periods_in_range now) h).1

-- Every call.
checked_in_range : (step : ℕ → Network → NetworkStep) → ((now : ℕ) → now ≤ most_periods → (n : Network) → NetworkFits n → StepFits (step now n)) →
    (now : Periods) (n : Network) → network_in_range n ≡ true → network_in_range (checked step now n).network ≡ true
unfolding checked
checked_in_range step fits now n h =
    by_test (ready now n)
    (λ t. rw t (fits_network (step now.0 n).network (fits now.0 (ready_now now n t) n (network_fits n h))))
    (λ t. rw t h)

module _ (now : Periods) (n : Network) (h : network_in_range n ≡ true) where
  pub requested_in_range : (event : ℕ) → network_in_range (request_call event now n).network ≡ true
  requested_in_range event = checked_in_range (requests event) (λ now l. requests_fits now l event) now n h

  pub timer_due_in_range : network_in_range (timer_call now n).network ≡ true
  timer_due_in_range = checked_in_range timers timers_fits now n h

  pub heard_in_range : (line : Upward) → network_in_range (hear_call line now n).network ≡ true
  heard_in_range line = checked_in_range (hears line) (λ now l. hears_fits now l line) now n h
