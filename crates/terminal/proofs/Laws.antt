-- What the definitions of a terminal come to, for their readers and for the crates above.
use mathlib.Core.Path.{◌≡◌, refl}
use mathlib.Core.Bool.{Bool, true, false, cond}
use mathlib.Core.List.{List, [], ◌++◌}
use Prim.Native.Nat.{ℕ, ◌≤◌}
use native.Mathlib.Omega.{arith}
use lib.Dec.{eqb}
use lib.ListN.{length, length-append}
use borrow.Author.Tests.{le-leb}
use Rattle.test_lemmas.proofs.ByCases.{by_test}
use Rattle.notes_and_cells.specs.Notes.{DROPPED1, DROPPED2, packed_notes, noted}
use Rattle.notes_and_cells.specs.Cells.{cell_of}
use Rattle.notes_and_cells.specs.CellParts.{state_after, cell_notes}
use Rattle.notes_and_cells.specs.declared.cell.Cell.{Cell}
use Rattle.notes_and_cells.specs.declared.cell.Cell.TheVariants.{To, Stay, Impossible, Absent}
use Rattle.notes_and_cells.proofs.NotesKept.{noted_packed, every_note, every_append, every_of, is_indication}
use Rattle.dchannel.specs.declared.access.Access.{Access}
use Rattle.dchannel.specs.declared.access.Class.{Class}
use Rattle.table_6_2.specs.Table62.{table62, F1, F7, on_row, off_row, ar_row, t3_row}
use Rattle.table_6_2.specs.States.{next_state}
use Rattle.table_6_2.proofs.Laws.{notes_three, notes_indications, t3_keeps_f7}
use Rattle.timing.specs.Counts.{most_periods}
use Rattle.timing.specs.Calls.{at_period}
use Rattle.timing.specs.Timers.{due}
use Rattle.alignment.specs.Alignment.{framed_to_gain, unframed_to_lose, followed}
use Rattle.heard_line.specs.Heard.{downward_event}
use Rattle.alignment.specs.declared.Followed.{Followed}
use Rattle.heard_line.specs.declared.heard.Downward.{Downward}
use Rattle.terminal.specs.Terminal.{unchanged, access_after, dropped_note, moved, acts, happens, aligned, no_timer, bars, switches_on, switches_off, requests, timer, heard_as, hears}
use Rattle.terminal.specs.Calls.{terminal_in_range, ready, checked, switch_on_call, switch_off_call, request_call, timer_call, hear_call, hand_over_call, hands_over, holding}
use Rattle.terminal.specs.declared.Terminal.{Terminal}
use Rattle.terminal.specs.Steps.{TerminalStep}

-- ---- the calls, where the record is in range and the period one that a bus runs
checked_called : (step : ℕ → Terminal → TerminalStep) (now : ℕ) (t : Terminal) → now ≤ most_periods → terminal_in_range t ≡ true → checked step (at_period now) t ≡ step now t
unfolding checked ready
checked_called step now t l h = rw (h, le-leb now most_periods l)

module _ (now : ℕ) (t : Terminal) (l : now ≤ most_periods) (h : terminal_in_range t ≡ true) where
  pub switched_on_called : switch_on_call (at_period now) t ≡ switches_on now t
  switched_on_called = checked_called switches_on now t l h

  pub switched_off_called : switch_off_call (at_period now) t ≡ switches_off now t
  switched_off_called = checked_called switches_off now t l h

  pub requested_called : request_call (at_period now) t ≡ requests now t
  requested_called = checked_called requests now t l h

  pub timer_due_called : timer_call (at_period now) t ≡ timer now t
  timer_due_called = checked_called timer now t l h

  pub heard_called : (line : Downward) → hear_call line (at_period now) t ≡ hears line now t
  heard_called line = checked_called (hears line) now t l h

pub handed_over_called : (class : Class) (n : ℕ) (t : Terminal) → terminal_in_range t ≡ true → hand_over_call class n t ≡ hands_over class n t
unfolding hand_over_call
handed_over_called class n t h = rw h

-- ---- what an event does to the fields
module _ (now : ℕ) (t : Terminal) where
  acts_state : (c : Cell) → (acts c now t).terminal.state ≡ state_after c t.state
  unfolding acts moved
  acts_state (To next action notes) = refl
  acts_state (Stay notes) = refl
  acts_state Impossible = refl
  acts_state Absent = refl

  acts_alignment : (c : Cell) → (acts c now t).terminal.alignment ≡ t.alignment
  unfolding acts moved
  acts_alignment (To next action notes) = refl
  acts_alignment (Stay notes) = refl
  acts_alignment Impossible = refl
  acts_alignment Absent = refl

  pub happens_state : (e : ℕ) → (happens e now t).terminal.state ≡ next_state e t.state
  unfolding happens
  happens_state e = acts_state (cell_of table62 e t.state)

  pub happens_alignment : (e : ℕ) → (happens e now t).terminal.alignment ≡ t.alignment
  unfolding happens
  happens_alignment e = acts_alignment (cell_of table62 e t.state)

-- who stays where it is keeps its access
stays : (s : ℕ) (a : Access) → access_after s s a ≡ record { access = a; dropped = 0 }
unfolding access_after
stays s a = by_test (eqb s F7) (λ t. rw t) (λ t. rw t)

-- The access goes by the states before and after alone, in every step.
abbrev pub AccessByState : (Terminal → TerminalStep) → Terminal → Type 0
AccessByState step t = (step t).terminal.access ≡ (access_after t.state (step t).terminal.state t.access).access

acts_access : (c : Cell) (now : ℕ) (t : Terminal) → AccessByState (acts c now) t
unfolding acts moved
acts_access (To next action notes) now t = refl
acts_access (Stay notes) now t = rw (stays t.state t.access)
acts_access Impossible now t = rw (stays t.state t.access)
acts_access Absent now t = rw (stays t.state t.access)

pub unchanged_access : (k : ℕ) (t : Terminal) → AccessByState (unchanged k) t
unchanged_access k t = rw (stays t.state t.access)

module _ (now : ℕ) (t : Terminal) where
  pub happens_access : (e : ℕ) → AccessByState (happens e now) t
  unfolding happens
  happens_access e = acts_access (cell_of table62 e t.state) now t

  pub switches_on_access : AccessByState (switches_on now) t
  unfolding switches_on happens aligned
  switches_on_access = by_test (bars on_row t.state) (λ e. rw (e, stays t.state t.access)) (λ e. rw e (acts_access _ now _))

  pub switches_off_access : AccessByState (switches_off now) t
  unfolding switches_off happens no_timer
  switches_off_access = by_test (bars off_row t.state) (λ e. rw (e, stays t.state t.access)) (λ e. rw e (acts_access _ now _))

  pub requests_access : AccessByState (requests now) t
  unfolding requests
  requests_access = by_test (bars ar_row t.state) (λ e. rw (e, stays t.state t.access)) (λ e. rw e (happens_access ar_row))

  pub timer_access : AccessByState (timer now) t
  unfolding timer happens no_timer
  timer_access = by_test (due t.t3 now) (λ e. rw e (acts_access _ now _)) (λ e. rw (e, stays t.state t.access))

  pub hears_access : (line : Downward) → AccessByState (hears line now) t
  unfolding hears heard_as happens aligned
  hears_access line = by_test (eqb t.state F1) (λ e. rw (e, stays t.state t.access)) (λ e. rw e (acts_access _ now _))

-- T3, where it is due, leads neither into F7 nor out of it, and so leaves the access alone.
pub timer_keeps_f7 : (now : ℕ) (t : Terminal) → eqb (timer now t).terminal.state F7 ≡ eqb t.state F7
unfolding timer no_timer
timer_keeps_f7 now t = by_test (due t.t3 now) (λ e. rw (e, happens_state now _ t3_row) (t3_keeps_f7 t.state)) (λ e. rw e)

kept_access : (from next : ℕ) (a : Access) → eqb next F7 ≡ eqb from F7 → access_after from next a ≡ record { access = a; dropped = 0 }
unfolding access_after
kept_access from next a h = rw h (by_test (eqb from F7) (λ t. rw t) (λ t. rw t))

pub timer_keeps_access : (now : ℕ) (t : Terminal) → (timer now t).terminal.access ≡ t.access
timer_keeps_access now t = rw (timer_access now t, kept_access t.state (timer now t).terminal.state t.access (timer_keeps_f7 now t))

-- ---- notes
dropped_length : (class : ℕ) → length (dropped_note class) ≤ 1
unfolding dropped_note
dropped_length class = by_test (eqb class 1) (λ t. rw t (omega arith)) (λ t. rw t (by_test (eqb class 2) (λ u. rw u (omega arith)) (λ u. rw u (omega arith))))

-- the note of the frame that an event drops
abbrev pub dropped_at : ℕ → Terminal → List ℕ
dropped_at e t = dropped_note (access_after t.state (next_state e t.state) t.access).dropped

none_dropped : (s : ℕ) (a : Access) → dropped_note (access_after s s a).dropped ≡ []
unfolding dropped_note
none_dropped s a = rw (stays s a)

acts_notes : (c : Cell) (now : ℕ) (t : Terminal) → length (noted (cell_notes c)) ≤ 3 →
    noted (acts c now t).notes ≡ dropped_note (access_after t.state (state_after c t.state) t.access).dropped ++ noted (cell_notes c)
unfolding acts
acts_notes (To next action notes) now t l =
    noted_packed _ (simp length-append (omega (arith, dropped_length (access_after t.state next t.access).dropped)))
acts_notes (Stay notes) now t l = rw (none_dropped t.state t.access)
acts_notes Impossible now t l = rw (none_dropped t.state t.access)
acts_notes Absent now t l = rw (none_dropped t.state t.access)

-- Of an event's notes none is cut off: they are the dropped frame's and then the cell's.
pub happens_notes : (e now : ℕ) (t : Terminal) → noted (happens e now t).notes ≡ dropped_at e t ++ noted (cell_notes (cell_of table62 e t.state))
unfolding happens
happens_notes e now t = acts_notes (cell_of table62 e t.state) now t (notes_three e t.state)

-- A powered terminal hears a line: the event that it is, with the state, the alignment and the notes.
abbrev pub following : Downward → Terminal → Followed
following line t = followed framed_to_gain unframed_to_lose line.pulse line.framed t.alignment

abbrev pub event_heard : Downward → Terminal → ℕ
event_heard line t = downward_event line (following line t)

module _ (line : Downward) (now : ℕ) (t : Terminal) (on : eqb t.state F1 ≡ false) where
  pub hears_state : (hears line now t).terminal.state ≡ next_state (event_heard line t) t.state
  unfolding hears heard_as aligned
  hears_state = rw on (happens_state now _ (event_heard line t))

  pub hears_alignment : (hears line now t).terminal.alignment ≡ (following line t).alignment
  unfolding hears heard_as aligned
  hears_alignment = rw on (happens_alignment now _ (event_heard line t))

  pub hears_notes : noted (hears line now t).notes ≡ dropped_at (event_heard line t) t ++ noted (cell_notes (cell_of table62 (event_heard line t) t.state))
  unfolding hears heard_as aligned
  hears_notes = rw on (happens_notes (event_heard line t) now _)

-- T3, where it is due, drops no frame: its notes are the cell's.
pub timer_notes_lem : (now : ℕ) (t : Terminal) → due t.t3 now ≡ true → noted (timer now t).notes ≡ noted (cell_notes (cell_of table62 t3_row t.state))
unfolding timer no_timer dropped_note
timer_notes_lem now t d =
    rw (d, happens_notes t3_row now (no_timer t), kept_access t.state (next_state t3_row t.state) t.access (t3_keeps_f7 t.state))

-- Every note is an indication of table 6-2, DROPPED1 or DROPPED2.
abbrev pub is_terminal_note : ℕ → Bool
is_terminal_note code = cond (is_indication code) true (cond (eqb code DROPPED1) true (eqb code DROPPED2))

abbrev Told : TerminalStep → Type 0
Told s = every_note is_terminal_note (noted s.notes) ≡ true

dropped_told : (class : ℕ) → every_note is_terminal_note (dropped_note class) ≡ true
unfolding dropped_note every_note
dropped_told class = by_test (eqb class 1) (λ t. rw t) (λ t. rw t (by_test (eqb class 2) (λ u. rw u) (λ u. rw u)))

pub happens_told : (e now : ℕ) (t : Terminal) → Told (happens e now t)
happens_told e now t =
    rw (happens_notes e now t)
    (every_append is_terminal_note (dropped_at e t) _ (dropped_told _)
    (every_of is_indication is_terminal_note (λ code h. rw h) (noted (cell_notes (cell_of table62 e t.state))) (notes_indications e t.state)))

module _ (now : ℕ) (t : Terminal) where
  pub on_told : Told (switches_on now t)
  unfolding switches_on every_note noted
  on_told = by_test (bars on_row t.state) (λ e. rw e) (λ e. rw e (happens_told on_row now _))

  pub off_told : Told (switches_off now t)
  unfolding switches_off every_note noted
  off_told = by_test (bars off_row t.state) (λ e. rw e) (λ e. rw e (happens_told off_row now _))

  pub requests_told : Told (requests now t)
  unfolding requests every_note noted
  requests_told = by_test (bars ar_row t.state) (λ e. rw e) (λ e. rw e (happens_told ar_row now t))

  pub timer_told : Told (timer now t)
  unfolding timer every_note noted
  timer_told = by_test (due t.t3 now) (λ e. rw e (happens_told t3_row now _)) (λ e. rw e)

  pub hears_told : (line : Downward) → Told (hears line now t)
  unfolding hears heard_as every_note noted
  hears_told line = by_test (eqb t.state F1) (λ e. rw e) (λ e. rw e (happens_told _ now _))

-- A hand-over has no notes.
pub hands_over_notes : (class : Class) (n : ℕ) (t : Terminal) → (hands_over class n t).notes ≡ packed_notes []
unfolding hands_over holding
hands_over_notes class n t = by_test (eqb t.state F7) (λ e. rw e) (λ e. rw e)
