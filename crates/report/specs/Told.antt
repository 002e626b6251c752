-- How the code goes: the same on the record and what is lent with it, as the program takes a book:
-- lists of calls of crate `bus_call_specs` (specs/Lists.antt) that are all lent what they must be
-- (`lend` there). The notes of a period are taken at once: no call finds any of the one before.
-- Interface: `Ready`, `done`, `done_all`, `book_told`, `all_book_told`. Assumes nothing.
use Rattle.std.specs.Prelude.{true, cond, List, [], ◌∷◌, ◌++◌, ◌≡◌, ℕ, ◌+◌, ◌-◌, ◌≤◌, eqb, length, replicate}
use Rattle.notes_and_cells.specs.Notes.{REFUSED}
use Rattle.hdlc.specs.Image.{longest_body}
use Rattle.timing.specs.Counts.{most_periods}
use Rattle.bus_rules.specs.Bus.{Note, fresh_bus}
use Rattle.bus_rules.specs.Calls.{Call}
use Rattle.bus_rules.specs.Calls.Call.{event, period}
use Rattle.bus_event.specs.Event.{images_room, are_letters}
use Rattle.bus_call_specs.specs.Kept.{Kept, settled}
use Rattle.bus_call_specs.specs.Ready.{run_reply}
use Rattle.bus_call_specs.specs.Run.{run_answer, kept_after}
use Rattle.bus_call_specs.specs.Lists.{called, replied, notes_told, period_told, fresh_found, OctetValues}
use Rattle.note_text.specs.NoteText.{notes_text}
use Rattle.period_text.specs.PeriodText.{period_room}
use Rattle.report.specs.Report.{all_book_notes}

-- nothing is refused for the record's sake or that of what is lent: 1 and 2
abbrev pub Ready : Kept → Type 0
Ready k = run_reply 0 k ≡ 0

-- what a call leaves, and what a list of them does
unfoldable pub done : Kept → Call → Kept
done k c = settled (called k c)

unfoldable pub done_all : Kept → List Call → Kept
done_all k [] = k
done_all k (c ∷ more) = done_all (done k c) more

-- what a call puts into the report
unfoldable pub refused_told : Kept → Call → List Note
refused_told k (event unit number value) =
    record { period = k.bus.periods.0; unit = unit; code = REFUSED; value = replied k (event unit number value) ∷ [] } ∷ []
refused_told k period = []

unfoldable pub book_told : Kept → Call → List Note
book_told k c = cond (eqb (replied k c) 0) (notes_told k c) (refused_told k c)

unfoldable pub all_book_told : Kept → List Call → List Note
all_book_told k [] = []
all_book_told k (c ∷ more) = book_told k c ++ all_book_told (done k c) more

-- ---- It is what document 01's rules give for the same calls (proofs/ToldRight.antt).
abbrev pub ToldRight : Type 0
ToldRight =
    (images octets letters : List ℕ) (calls : List Call)
    → length images ≡ images_room → longest_body ≤ length octets → are_letters letters ≡ true → OctetValues calls
    → all_book_told (fresh_found images octets letters) calls ≡ all_book_notes fresh_bus calls

-- ---- At first everything is in order (proofs/ToldRight.antt), and every call leaves it so for the
-- next (proofs/Order.antt).
abbrev pub FreshReady : Type 0
FreshReady =
    (images octets letters : List ℕ) → length images ≡ images_room → longest_body ≤ length octets → are_letters letters ≡ true
    → Ready (fresh_found images octets letters)

abbrev pub StaysReady : Type 0
StaysReady = (k : Kept) (calls : List Call) → Ready k → Ready (done_all k calls)

-- ---- A run of at most n periods is that many calls of one, one at least, and the notes of its
-- last period are all their notes (proofs/OneRun.antt).
pub record RunAsPeriods (k : Kept) (n : ℕ) : Type 0 where
  pub count : ℕ
  pub some : 1 ≤ count
  pub within : count ≤ n
  pub accepted : (run_answer n k).reply ≡ 0
  pub left : settled (kept_after n k) ≡ done_all k (replicate count period)
  pub run : (run_answer n k).bus.periods.0 ≡ k.bus.periods.0 + count
  pub tells : period_told ((run_answer n k).bus.periods.0 - 1) (run_answer n k) (kept_after n k).notes (kept_after n k).octets
      ≡ all_book_told k (replicate count period)

abbrev pub OneRun : Type 0
OneRun = (k : Kept) (n : ℕ) → Ready k → 1 ≤ n → k.bus.periods.0 + n ≤ most_periods → RunAsPeriods k n

-- the notes of a run, as text, fit into the room for the notes of a period (proofs/OneRun.antt)
abbrev pub RunFits : Type 0
RunFits =
    (k : Kept) (n : ℕ) → Ready k → 1 ≤ n → k.bus.periods.0 + n ≤ most_periods
    → length (notes_text (period_told ((run_answer n k).bus.periods.0 - 1) (run_answer n k) (kept_after n k).notes
    (kept_after n k).octets)) ≤ period_room
