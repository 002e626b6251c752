-- Two events of the network end, one after the other, of which one has no notes: the notes are the other's.
use mathlib.Core.Path.{◌≡◌, refl, ap, ◌∙◌}
use mathlib.Core.Bool.{Bool, true, false, cond, ◌||◌}
use mathlib.Core.List.{[], append-nil}
use Prim.Native.Nat.{ℕ}
use lib.Dec.{eqb}
use Rattle.test_lemmas.proofs.ByCases.{by_test, clash}
use Rattle.notes_and_cells.specs.Notes.{packed_notes, noted}
use Rattle.notes_and_cells.specs.Cells.{cell_of}
use Rattle.notes_and_cells.specs.CellParts.{cell_notes}
use Rattle.notes_and_cells.specs.declared.cell.Cell.{Cell}
use Rattle.notes_and_cells.specs.declared.cell.Cell.TheVariants.{To, Stay, Impossible, Absent}
use Rattle.table_6_3.specs.Table63.{table63, ar_row, dr_row, t1_row, t2_row, info_0_row, info_1_row, info_3_row}
use Rattle.table_6_3.proofs.Laws.{notes_in_order, t2_quiet, info_1_quiet, no_event_quiet}
use Rattle.timing.specs.Timers.{due}
use Rattle.alignment.specs.Alignment.{framed_to_gain, unframed_to_lose, followed}
use Rattle.heard_line.specs.Heard.{upward_event, loss_up}
use Rattle.alignment.specs.declared.Alignment.{Alignment}
use Rattle.alignment.specs.declared.Followed.{Followed}
use Rattle.heard_line.specs.declared.heard.Upward.{Upward}
use Rattle.alignment.proofs.Alignments.{framed_kept, pulseless_kept}
use Rattle.network.specs.Network.{unchanged, is_request, acts, happens, and_then, aligned, t1_due, t2_due, timers, heard_as, hears}
use Rattle.network.specs.declared.Network.{Network}
use Rattle.network.specs.Steps.{NetworkStep, step_of, as_result}
use Rattle.network.specs.declared.NetworkStep as code
use Rattle.refusals.specs.Numbers.{unless_refused}
use Rattle.refusals.specs.declared.Refusal.TheVariants.{OutOfRange}
use Rattle.std.specs.Prelude.{Ok, Err}

acts_notes : (c : Cell) (now : ℕ) (n : Network) → (acts c now n).notes ≡ cell_notes c
unfolding acts
acts_notes (To next action notes) now n = refl
acts_notes (Stay notes) now n = refl
acts_notes Impossible now n = refl
acts_notes Absent now n = refl

-- The notes of an event are its cell's.
pub happens_notes : (e now : ℕ) (n : Network) → (happens e now n).notes ≡ cell_notes (cell_of table63 e n.state)
unfolding happens
happens_notes e now n = acts_notes (cell_of table63 e n.state) now n

acts_reply : (c : Cell) (now : ℕ) (n : Network) → (acts c now n).reply ≡ 0
unfolding acts
acts_reply (To next action notes) now n = refl
acts_reply (Stay notes) now n = refl
acts_reply Impossible now n = refl
acts_reply Absent now n = refl

-- No event is refused where it happens.
pub happens_reply : (e now : ℕ) (n : Network) → (happens e now n).reply ≡ 0
unfolding happens
happens_reply e now n = acts_reply (cell_of table63 e n.state) now n

happens_tidy : (e now : ℕ) (n : Network) → packed_notes (noted (happens e now n).notes) ≡ (happens e now n).notes
happens_tidy e now n = rw (happens_notes e now n) (notes_in_order e n.state)

happens_quiet : (e now : ℕ) (n : Network) → noted (cell_notes (cell_of table63 e n.state)) ≡ [] → noted (happens e now n).notes ≡ []
happens_quiet e now n q = rw (happens_notes e now n) q

first_only : (s : NetworkStep) (f : Network → NetworkStep) → packed_notes (noted s.notes) ≡ s.notes → noted (f s.network).notes ≡ [] →
    record { network = (f s.network).network; notes = s.notes; reply = 0 } ≡ and_then s f
unfolding and_then
first_only s f t q = rw (q, append-nil, t)

second_only : (s : NetworkStep) (f : Network → NetworkStep) → noted s.notes ≡ [] → packed_notes (noted (f s.network).notes) ≡ (f s.network).notes →
    record { network = (f s.network).network; notes = (f s.network).notes; reply = 0 } ≡ and_then s f
unfolding and_then
second_only s f q t = rw (q, t)

-- A request, as the code asks for it.
pub is_request_lem : (e : ℕ) → is_request e ≡ (eqb e ar_row || eqb e dr_row)
is_request_lem e = by_test (eqb e ar_row) (λ t. rw t) (λ t. rw t)

-- A call with a record or a period out of range.
pub refused_out_of_range : (n : Network) → as_result (unchanged 1 n) ≡ Err OutOfRange
unfolding as_result
refused_out_of_range n = refl

-- T1, then T2.
pub t1_is : (now : ℕ) (n : Network) {b : Bool} → b ≡ due n.t1 now →
    cond b (happens t1_row now (record { t1 = 0; t2 = n.t2; state = n.state; alignment = n.alignment })) (unchanged 0 n) ≡ t1_due now n
unfolding t1_due
t1_is now n p = rw p

pub t2_is : (now : ℕ) (n : Network) {b : Bool} → b ≡ due n.t2 now →
    cond b (happens t2_row now (record { t1 = n.t1; t2 = 0; state = n.state; alignment = n.alignment })) (unchanged 0 n) ≡ t2_due now n
unfolding t2_due
t2_is now n p = rw p

t1_tidy : (now : ℕ) (n : Network) → packed_notes (noted (t1_due now n).notes) ≡ (t1_due now n).notes
unfolding t1_due noted
t1_tidy now n = by_test (due n.t1 now) (λ t. rw t (happens_tidy t1_row now _)) (λ t. rw t)

pub t2_without_notes : (now : ℕ) (n : Network) → noted (t2_due now n).notes ≡ []
unfolding t2_due noted
t2_without_notes now n = by_test (due n.t2 now) (λ t. rw t (happens_quiet t2_row now _ (t2_quiet n.state))) (λ t. rw t)

pub timers_are : (now : ℕ) (n : Network) {a b : code.NetworkStep} → a ≡ step_of (t1_due now n) → b ≡ step_of (t2_due now a.network) →
    Ok (record { network = b.network; notes = a.notes }) ≡ as_result (timers now n)
unfolding timers as_result
timers_are now n p q =
    rw (q, p) (ap (λ s. unless_refused s.reply (step_of s)) (first_only (t1_due now n) (t2_due now) (t1_tidy now n) (t2_without_notes now (t1_due now n).network)))

-- A line that loses alignment is INFO 1 or a signal.
lost_lines : (p framed i : Bool) (f : Followed) (a : Alignment) (s : ℕ) → f ≡ followed framed_to_gain unframed_to_lose p framed a → f.lost ≡ true →
    noted (cell_notes (cell_of table63 (cond p (cond i info_1_row (cond framed (cond f.alignment.aligned info_3_row 0) 0)) info_0_row) s)) ≡ []
lost_lines false framed i f a s e l = clash f.lost l (ap (λ g. g.lost) e ∙ pulseless_kept framed_to_gain unframed_to_lose framed a)
lost_lines true true i f a s e l = clash f.lost l (ap (λ g. g.lost) e ∙ framed_kept framed_to_gain unframed_to_lose a)
lost_lines true false true f a s e l = info_1_quiet s
lost_lines true false false f a s e l = no_event_quiet s

lost_quiet : (line : Upward) (f : Followed) (a : Alignment) (s : ℕ) → f ≡ followed framed_to_gain unframed_to_lose line.pulse line.framed a → f.lost ≡ true →
    noted (cell_notes (cell_of table63 (upward_event line f) s)) ≡ []
unfolding upward_event
lost_quiet line f a s e l = lost_lines line.pulse line.framed line.info1 f a s e l

no_loss : (f : Followed) → f.lost ≡ false → loss_up f ≡ 0
unfolding loss_up
no_loss f l = rw l

module _ (line : Upward) (now : ℕ) (n : Network) (f : Followed) (a b : NetworkStep) (m : a ≡ happens (loss_up f) now (aligned f.alignment n)) (h : b ≡ happens (upward_event line f) now a.network) where
  heard_lost : f ≡ followed framed_to_gain unframed_to_lose line.pulse line.framed n.alignment → f.lost ≡ true → record { network = b.network; notes = a.notes; reply = 0 } ≡ heard_as line f now n
  unfolding heard_as
  heard_lost e l =
      rw (h, m)
      (first_only (happens (loss_up f) now (aligned f.alignment n)) (happens (upward_event line f) now)
      (happens_tidy (loss_up f) now (aligned f.alignment n))
      (happens_quiet (upward_event line f) now (happens (loss_up f) now (aligned f.alignment n)).network
      (lost_quiet line f n.alignment (happens (loss_up f) now (aligned f.alignment n)).network.state e l)))

  heard_kept : f.lost ≡ false → record { network = b.network; notes = b.notes; reply = 0 } ≡ heard_as line f now n
  unfolding heard_as
  heard_kept l =
      rw (h, m)
      (second_only (happens (loss_up f) now (aligned f.alignment n)) (happens (upward_event line f) now)
      (happens_quiet (loss_up f) now (aligned f.alignment n) (rw (no_loss f l) (no_event_quiet (aligned f.alignment n).state)))
      (happens_tidy (upward_event line f) now (happens (loss_up f) now (aligned f.alignment n)).network))

-- A heard line, over what the calls in between gave.
module _
    (line : Upward) (now : ℕ) (n : Network)
    {f : Followed} (ef : f ≡ followed framed_to_gain unframed_to_lose line.pulse line.framed n.alignment)
    {k : ℕ} (ek : k ≡ loss_up f)
    {e : ℕ} (ee : e ≡ upward_event line f)
    {a : code.NetworkStep} (ea : a ≡ step_of (happens k now (aligned f.alignment n)))
    {b : code.NetworkStep} (eb : b ≡ step_of (happens e now a.network)) where
  abbrev first : NetworkStep
  first = happens (loss_up f) now (aligned f.alignment n)

  abbrev second : NetworkStep
  second = happens (upward_event line f) now first.network

  first_is : a ≡ step_of first
  first_is = rw (ea, ek)

  second_is : b ≡ step_of second
  second_is = rw (eb, first_is, ee)

  pub heard_with_loss : f.lost ≡ true → Ok (record { network = b.network; notes = a.notes }) ≡ as_result (hears line now n)
  unfolding hears as_result
  heard_with_loss l = rw (second_is, first_is, ← ef) (ap (λ s. unless_refused s.reply (step_of s)) (heard_lost line now n f first second refl refl ef l))

  pub heard_without : f.lost ≡ false → Ok b ≡ as_result (hears line now n)
  unfolding hears as_result
  heard_without l = rw (second_is, ← ef) (ap (λ s. unless_refused s.reply (step_of s)) (heard_kept line now n f first second refl refl l))
