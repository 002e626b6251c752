-- Every call leaves every field of a terminal in its range.
use mathlib.Core.Path.{◌≡◌, refl}
use mathlib.Core.Bool.{true}
use Prim.Native.Nat.{ℕ, ◌+◌, ◌≤◌}
use native.Mathlib.Omega.{arith}
use lib.Dec.{ltb, eqb}
use borrow.Author.Tests.{le-ltb, ltb-false, leb-true}
use Rattle.test_lemmas.proofs.ByCases.{by_test, both, neither}
use Rattle.notes_and_cells.specs.Cells.{cell_of}
use Rattle.notes_and_cells.specs.declared.cell.Cell.{Cell}
use Rattle.notes_and_cells.specs.declared.cell.Cell.TheVariants.{To, Stay, Impossible, Absent}
use Rattle.notes_and_cells.proofs.NextState.{next_to, next_fits}
use Rattle.table_6_2.specs.Table62.{table62, F1, F7, F8, on_row, off_row, ar_row, t3_row}
use Rattle.table_6_2.proofs.Laws.{next_state_lem}
use Rattle.timing.specs.Counts.{most_periods}
use Rattle.timing.specs.Calls.{periods_in_range}
use Rattle.timing.specs.Timers.{T3, due}
use Rattle.timing.specs.declared.counts.Periods.{Periods}
use Rattle.timing.proofs.RangesKept.{timer_at_most}
use Rattle.alignment.specs.Alignment.{unframed_to_lose, alignment_in_range}
use Rattle.alignment.specs.Alignment as alignment
use Rattle.alignment.specs.declared.Alignment.{Alignment}
use Rattle.heard_line.specs.declared.heard.Downward.{Downward}
use Rattle.alignment.proofs.Alignments.{followed_in_range}
use Rattle.dchannel.specs.Access.{normal2}
use Rattle.dchannel.specs.Calls.{handed}
use Rattle.dchannel.specs.Ranges.{access_in_range}
use Rattle.dchannel.specs.declared.access.Access.{Access}
use Rattle.dchannel.specs.declared.access.Class.{Class}
use Rattle.dchannel.proofs.RangesKept as dchannel
use Rattle.terminal.specs.Terminal.{fresh, with_access, access_after, acts, moved, happens, aligned, no_timer, bars, switches_on, switches_off, requests, timer, heard_as, hears}
use Rattle.terminal.specs.Calls.{terminal_in_range, ready, checked, switch_on_call, switch_off_call, request_call, timer_call, hear_call, hand_over_call, holding, hands_over}
use Rattle.terminal.specs.declared.Terminal.{Terminal}
use Rattle.terminal.specs.Steps.{TerminalStep}

-- What the range of the record says, field by field.
pub record TerminalFits (t : Terminal) : Type 0 where
  pub from_f1 : F1 ≤ t.state
  pub to_f8 : t.state ≤ F8
  pub t3_fits : t.t3 ≤ most_periods + T3
  pub alignment_fits : alignment_in_range t.alignment ≡ true
  pub access_fits : access_in_range normal2 t.access ≡ true

pub terminal_fits : (t : Terminal) → terminal_in_range t ≡ true → TerminalFits t
unfolding terminal_in_range
terminal_fits t h =
    let a = neither (ltb t.state F1) _ h in
    let b = neither (ltb F8 t.state) _ a.1 in
    let c = neither (ltb (most_periods + T3) t.t3) _ b.1 in
    let d = both (alignment_in_range t.alignment) _ c.1 in
    record {
      from_f1 = ltb-false t.state F1 a.0;
      to_f8 = ltb-false F8 t.state b.0;
      t3_fits = ltb-false (most_periods + T3) t.t3 c.0;
      alignment_fits = d.0;
      access_fits = d.1;
    }

pub fits_terminal : (t : Terminal) → TerminalFits t → terminal_in_range t ≡ true
unfolding terminal_in_range
fits_terminal t f =
    simp (
      le-ltb t.state F1 f.from_f1,
      le-ltb F8 t.state f.to_f8,
      le-ltb (most_periods + T3) t.t3 f.t3_fits,
      f.alignment_fits,
      f.access_fits,
    )

pub fresh_in_range : terminal_in_range fresh ≡ true
fresh_in_range =
    fits_terminal fresh
    (record { from_f1 = omega arith; to_f8 = omega arith; t3_fits = omega arith; alignment_fits = refl; access_fits = dchannel.fresh_in_range normal2 })

access_after_lem : (from next : ℕ) (a : Access) → access_in_range normal2 a ≡ true → access_in_range normal2 (access_after from next a).access ≡ true
unfolding access_after
access_after_lem from next a h =
    by_test (eqb from F7)
    (λ t. rw t (by_test (eqb next F7) (λ u. rw u h) (λ u. rw u (dchannel.left_in_range normal2 a))))
    (λ t. rw t (by_test (eqb next F7) (λ u. rw u (dchannel.entered_in_range normal2 a h)) (λ u. rw u h)))

abbrev StepFits : TerminalStep → Type 0
StepFits s = TerminalFits s.terminal

aligned_fits : (a : Alignment) (t : Terminal) → alignment_in_range a ≡ true → TerminalFits t → TerminalFits (aligned a t)
unfolding aligned
aligned_fits a t h f =
    record { from_f1 = f.from_f1; to_f8 = f.to_f8; t3_fits = f.t3_fits; alignment_fits = h; access_fits = f.access_fits }

no_timer_fits : (t : Terminal) → TerminalFits t → TerminalFits (no_timer t)
unfolding no_timer
no_timer_fits t f =
    record { from_f1 = f.from_f1; to_f8 = f.to_f8; t3_fits = omega arith; alignment_fits = f.alignment_fits; access_fits = f.access_fits }

-- The record with another access, as a D opportunity or a hand-over leaves it.
pub access_put : (a : Access) (t : Terminal) → access_in_range normal2 a ≡ true → TerminalFits t → TerminalFits (with_access a t)
access_put a t h f =
    record { from_f1 = f.from_f1; to_f8 = f.to_f8; t3_fits = f.t3_fits; alignment_fits = f.alignment_fits; access_fits = h }

-- The steps, in a period of the bus.
module _ (now : ℕ) (l : now ≤ most_periods) where
  acts_fits : (c : Cell) (t : Terminal) → next_to F8 c ≡ true → TerminalFits t → StepFits (acts c now t)
  unfolding acts moved
  acts_fits (To next action notes) t n f =
      record {
        from_f1 = (next_fits F8 next n).0;
        to_f8 = (next_fits F8 next n).1;
        t3_fits = timer_at_most (most_periods + T3) T3 action now t.t3 (omega arith) f.t3_fits;
        alignment_fits = f.alignment_fits;
        access_fits = access_after_lem t.state next t.access f.access_fits;
      }
  acts_fits (Stay notes) t n f = f
  acts_fits Impossible t n f = f
  acts_fits Absent t n f = f

  happens_fits : (event : ℕ) (t : Terminal) → TerminalFits t → StepFits (happens event now t)
  unfolding happens
  happens_fits event t f = acts_fits (cell_of table62 event t.state) t (next_state_lem event t.state) f

  on_fits : (t : Terminal) → TerminalFits t → StepFits (switches_on now t)
  unfolding switches_on
  on_fits t f =
      by_test (bars on_row t.state) (λ e. rw e f) (λ e. rw e (happens_fits on_row (aligned alignment.fresh t) (aligned_fits alignment.fresh t refl f)))

  off_fits : (t : Terminal) → TerminalFits t → StepFits (switches_off now t)
  unfolding switches_off
  off_fits t f = by_test (bars off_row t.state) (λ e. rw e f) (λ e. rw e (happens_fits off_row (no_timer t) (no_timer_fits t f)))

  requests_fits : (t : Terminal) → TerminalFits t → StepFits (requests now t)
  unfolding requests
  requests_fits t f = by_test (bars ar_row t.state) (λ e. rw e f) (λ e. rw e (happens_fits ar_row t f))

  timer_fits : (t : Terminal) → TerminalFits t → StepFits (timer now t)
  unfolding timer
  timer_fits t f = by_test (due t.t3 now) (λ e. rw e (happens_fits t3_row (no_timer t) (no_timer_fits t f))) (λ e. rw e f)

  hears_fits : (line : Downward) (t : Terminal) → TerminalFits t → StepFits (hears line now t)
  unfolding hears heard_as
  hears_fits line t f =
      by_test (eqb t.state F1)
      (λ e. rw e f)
      (λ e. rw e (happens_fits _ _ (aligned_fits _ t (followed_in_range unframed_to_lose (omega arith) t.alignment line.pulse line.framed) f)))

-- A record that is ready has a period in range.
pub ready_now : (now : Periods) (t : Terminal) → ready now t ≡ true → now.0 ≤ most_periods
unfolding ready
ready_now now t h = leb-true now.0 most_periods (both (terminal_in_range t) (periods_in_range now) h).1

-- Every call.
checked_in_range : (step : ℕ → Terminal → TerminalStep) → ((now : ℕ) → now ≤ most_periods → (t : Terminal) → TerminalFits t → StepFits (step now t)) →
    (now : Periods) (t : Terminal) → terminal_in_range t ≡ true → terminal_in_range (checked step now t).terminal ≡ true
unfolding checked
checked_in_range step fits now t h =
    by_test (ready now t)
    (λ e. rw e (fits_terminal (step now.0 t).terminal (fits now.0 (ready_now now t e) t (terminal_fits t h))))
    (λ e. rw e h)

module _ (now : Periods) (t : Terminal) (h : terminal_in_range t ≡ true) where
  pub switched_on_in_range : terminal_in_range (switch_on_call now t).terminal ≡ true
  switched_on_in_range = checked_in_range switches_on on_fits now t h

  pub switched_off_in_range : terminal_in_range (switch_off_call now t).terminal ≡ true
  switched_off_in_range = checked_in_range switches_off off_fits now t h

  pub requested_in_range : terminal_in_range (request_call now t).terminal ≡ true
  requested_in_range = checked_in_range requests requests_fits now t h

  pub timer_due_in_range : terminal_in_range (timer_call now t).terminal ≡ true
  timer_due_in_range = checked_in_range timer timer_fits now t h

  pub heard_in_range : (line : Downward) → terminal_in_range (hear_call line now t).terminal ≡ true
  heard_in_range line = checked_in_range (hears line) (λ now l. hears_fits now l line) now t h

pub handed_over_in_range : (class : Class) (n : ℕ) (t : Terminal) → terminal_in_range t ≡ true → terminal_in_range (hand_over_call class n t).terminal ≡ true
unfolding hand_over_call hands_over holding
handed_over_in_range class n t h =
    rw h
    (by_test (eqb t.state F7)
    (λ e. rw e (fits_terminal _ (access_put (handed class n t.access).access t (dchannel.handed_in_range normal2 t.access (terminal_fits t h).access_fits class n) (terminal_fits t h))))
    (λ e. rw e h))
