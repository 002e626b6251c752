-- Periods run up to a line's: one run, and one after another.
use mathlib.Core.Path.{◌≡◌, sym, ap, ◌∙◌}
use mathlib.Core.Bool.{Bool, true, false, ◌&&◌}
use mathlib.Core.List.{List, [], ◌++◌}
use Prim.Native.Nat.{ℕ, suc, ◌+◌, ◌-◌, ◌≤◌, ◌<◌}
use native.Mathlib.Omega.{arith}
use lib.Dec.{ltb, leb}
use borrow.Author.Tests.{ltb-true, lt-ltb, leb-true, leb-false, le-leb, lt-leb}
use lib.ListN.{length, replicate-append-replicate, length-append}
use Rattle.test_lemmas.proofs.ByCases.{by_test}
use Rattle.test_lemmas.proofs.Operators.{and_both}
use Rattle.timing.specs.Counts.{most_periods}
use Rattle.bus_rules.specs.Calls.Call.{period}
use Rattle.terminal.specs.declared.Terminal.{Terminal}
use Rattle.bus_record.specs.declared.record.BusRecord.{BusRecord}
use Rattle.bus_call_specs.specs.Kept.{Kept, found, settled}
use Rattle.bus_call_specs.specs.Run.{run_answer, kept_after}
use Rattle.bus_call_specs.specs.Lists.{period_told}
use Rattle.bus_call_specs.proofs.QuietRuns.{quiet_told}
use Rattle.bus_by_value.specs.declared.HeldRun.{HeldRun}
use Rattle.note_text.specs.Room.{Put}
use Rattle.note_text.specs.NoteText.{notes_in, notes_text}
use Rattle.note_text.specs.declared.form.Form.TheVariants.{Line}
use Rattle.note_text.proofs.NoteLaws.{form_append}
use Rattle.note_text.proofs.RoomLaws.{put_put, put_none, put_length}
use Rattle.period_text.specs.PeriodText.{period_room}
use Rattle.report.specs.Told.{Ready, done_all, all_book_told, RunAsPeriods}
use Rattle.bus_call_specs.proofs.RunLeft.{run_leaves_lem}
use Rattle.report.proofs.OneRun.{one_run, run_fits}
use Rattle.report.proofs.Order.{stays_ready}
use Rattle.report.proofs.AheadLaws.{done_append, told_append}
use Rattle.book_go_on.specs.RunTo.{periods_to, RunsTo}

-- ---- One run.
module _ (bus : BusRecord) (ts : List Terminal) (images octets letters : List ℕ) (to : ℕ) (room : List ℕ) (wrote : ℕ) where
  abbrev k : Kept
  k = found bus ts images octets letters

  abbrev n : ℕ
  n = to - bus.periods.0

  abbrev k' : Kept
  k' = found (run_answer n k).bus (kept_after n k).terminals images (kept_after n k).octets letters

  module _ (r : Ready k) (more : bus.periods.0 < to) (most : to ≤ most_periods) where
    runs : RunAsPeriods k n
    runs = one_run k n r (omega arith) (omega arith)

    pub ran_some : bus.periods.0 < (run_answer n k).bus.periods.0
    ran_some = omega (arith, runs.some, runs.run)

    count_is : k'.bus.periods.0 - bus.periods.0 ≡ runs.count
    count_is = omega (arith, runs.run)

    left_is : k' ≡ settled (kept_after n k)
    unfolding settled
    left_is = let l = run_leaves_lem n k in rw (l.bus_is, l.images_stay, l.letters_stay)

    pub ran_once : wrote + period_room ≤ length room → (w : ℕ) (room' : List ℕ)
        → Put room wrote (notes_text (period_told ((run_answer n k).bus.periods.0 - 1) (run_answer n k) (kept_after n k).notes (kept_after n k).octets)) w room'
        → RunsTo k to room wrote k' w room'
    ran_once fits w room' put =
        record {
          from = omega (arith, ran_some);
          up_to = omega (arith, runs.run, runs.within);
          left = left_is ∙ (runs.left ∙ rw count_is);
          put = rw (count_is, sym runs.tells) put;
          fits = rw (count_is, sym runs.tells) (omega (arith, run_fits k n r (omega arith) (omega arith)));
        }

    -- as `advance` has it: what the run gave, and what was put
    pub advanced : wrote + period_room ≤ length room → (g : HeldRun) (octets' : List ℕ) → g.answer ≡ run_answer n k → g.terminals ≡ (kept_after n k).terminals
        → g.notes ≡ (kept_after n k).notes → octets' ≡ (kept_after n k).octets → (w : ℕ) (room' : List ℕ)
        → Put room wrote (notes_text (period_told (g.answer.bus.periods.0 - 1) g.answer g.notes octets')) w room'
        → RunsTo k to room wrote (found g.answer.bus g.terminals images octets' letters) w room' × (bus.periods.0 < g.answer.bus.periods.0)
    advanced fits g octets' e₁ e₂ e₃ e₄ w room' put =
        rw (e₁, e₂, e₄) (ran_once fits w room' (rw (e₁, e₃, e₄) at put), ran_some)

    -- a run that tells of no note puts nothing
    quiet : (octets' : List ℕ) → octets' ≡ (kept_after n k).octets → (run_answer n k).told ≡ false
        → period_told ((run_answer n k).bus.periods.0 - 1) (run_answer n k) (kept_after n k).notes octets' ≡ []
    quiet octets' e h =
        let one : n ≡ suc (n - 1) = omega arith in
        let all : (m : ℕ) → m ≡ suc (n - 1) → (run_answer m k).reply ≡ 0 → (run_answer m k).told ≡ false
        → period_told ((run_answer m k).bus.periods.0 - 1) (run_answer m k) (kept_after m k).notes (kept_after m k).octets ≡ []
        = λ m f. rw f (quiet_told (n - 1) k ((run_answer (suc (n - 1)) k).bus.periods.0 - 1)) in
        rw e (all n one runs.accepted h)

    pub advanced_quiet : wrote + period_room ≤ length room → (g : HeldRun) (octets' : List ℕ) → g.answer ≡ run_answer n k → g.terminals ≡ (kept_after n k).terminals
        → g.notes ≡ (kept_after n k).notes → octets' ≡ (kept_after n k).octets → g.answer.told ≡ false
        → RunsTo k to room wrote (found g.answer.bus g.terminals images octets' letters) wrote room × (bus.periods.0 < g.answer.bus.periods.0)
    unfolding notes_in
    advanced_quiet fits g octets' e₁ e₂ e₃ e₄ h =
        advanced fits g octets' e₁ e₂ e₃ e₄ wrote room (rw (e₁, e₃, quiet octets' e₄ (rw e₁ at h)) (put_none room wrote (omega arith)))

-- ---- None yet, and runs one after another.
pub ran_none : (k : Kept) (to : ℕ) (room : List ℕ) (wrote : ℕ) → k.bus.periods.0 ≤ to → wrote ≤ length room → RunsTo k to room wrote k wrote room
unfolding done_all all_book_told notes_in
ran_none k to room wrote h f =
    let z : k.bus.periods.0 - k.bus.periods.0 ≡ 0 = omega arith in
    record { from = omega arith; up_to = h; left = rw z; put = rw z (put_none room wrote f); fits = rw z (omega arith) }

module _ {k : Kept} {to : ℕ} {room : List ℕ} {wrote : ℕ} {k₁ : Kept} {w₁ : ℕ} {room₁ : List ℕ} {k₂ : Kept} {w₂ : ℕ} {room₂ : List ℕ}
    (a : RunsTo k to room wrote k₁ w₁ room₁) (b : RunsTo k₁ to room₁ w₁ k₂ w₂ room₂) where
  both : periods_to k k₁ ++ periods_to k₁ k₂ ≡ periods_to k k₂
  both =
      let z : (k₁.bus.periods.0 - k.bus.periods.0) + (k₂.bus.periods.0 - k₁.bus.periods.0) ≡ k₂.bus.periods.0 - k.bus.periods.0
      = omega (arith, a.from, b.from) in
      replicate-append-replicate (k₁.bus.periods.0 - k.bus.periods.0) (k₂.bus.periods.0 - k₁.bus.periods.0) period ∙ rw z

  told : notes_text (all_book_told k (periods_to k k₁)) ++ notes_text (all_book_told k₁ (periods_to k₁ k₂)) ≡ notes_text (all_book_told k (periods_to k k₂))
  told =
      rw (
        sym both,
        told_append k (periods_to k k₁) (periods_to k₁ k₂),
        form_append Line (all_book_told k (periods_to k k₁)) (all_book_told (done_all k (periods_to k k₁)) (periods_to k₁ k₂)),
        sym a.left,
      )

  pub ran_then : RunsTo k to room wrote k₂ w₂ room₂
  ran_then =
      record {
        from = omega (arith, a.from, b.from);
        up_to = b.up_to;
        left =
            b.left
            ∙ (ap (λ (x : Kept). done_all x (periods_to k₁ k₂)) a.left
            ∙ (sym (done_append k (periods_to k k₁) (periods_to k₁ k₂)) ∙ ap (done_all k) both));
        put = rw (sym told) (put_put a.put b.put);
        fits =
            let l = ap length (sym told) ∙ length-append (notes_text (all_book_told k (periods_to k k₁))) (notes_text (all_book_told k₁ (periods_to k₁ k₂))) in
            omega (arith, l, a.fits, a.put.wrote_is, b.fits, put_length a.put);
      }

pub ran_ready : {k : Kept} {to : ℕ} {room : List ℕ} {wrote : ℕ} {k' : Kept} {w : ℕ} {room' : List ℕ}
    → RunsTo k to room wrote k' w room' → Ready k → Ready k'
ran_ready {k} {k' = k'} a r = rw a.left (stays_ready k (periods_to k k') r)

-- ---- The test of `has_room`, where the room holds the notes of a period at all.
pub room_test : (needed room wrote : ℕ) → needed ≤ room → leb wrote (room - needed) ≡ leb (wrote + needed) room
room_test needed room wrote h =
    by_test (leb wrote (room - needed))
    (λ t. t ∙ sym (le-leb (wrote + needed) room (omega (arith, leb-true wrote (room - needed) t))))
    (λ t. t ∙ sym (lt-leb (wrote + needed) room (omega (arith, leb-false wrote (room - needed) t))))

-- ---- The loop of `run_to`: it goes on where there is a period to run and room for its notes.
module _ (run to wrote room : ℕ) (r : Bool) (e : r ≡ leb (wrote + period_room) room) where
  pub goes_on : (ltb run to && r) ≡ true → (run < to) × (wrote + period_room ≤ room)
  goes_on t = let both = and_both (ltb run to) r t in (ltb-true run to both.0, leb-true (wrote + period_room) room (sym e ∙ both.1))

  pub stops : (ltb run to && r) ≡ false → run < to → room < wrote + period_room
  stops t h = leb-false (wrote + period_room) room (sym e ∙ (rw (lt-ltb run to h) at t))
