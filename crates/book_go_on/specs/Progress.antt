-- How the code goes: how far a book has come, as the code holds it: with what is lent it is crate
-- `report`'s `BookState` (specs/Ahead.antt there).
-- Interface: `fresh_progress`, `book_state_of`, `reason`, `refusal`, `untaken`, `ended`, `turned`, `reached`,
-- `Goes`. Assumes nothing.
use Rattle.std.specs.Prelude.{Option, Some, None, cond, eqb, Bool, false, List, ℕ, ◌≤◌, length, replicate}
use Rattle.refusals.specs.Numbers.{reason_of}
use Rattle.refusals.specs.declared.Refusal.{Refusal}
use Rattle.terminal.specs.Terminal as terminal
use Rattle.bus_rules.specs.Bus.{terminals}
use Rattle.bus_record.specs.Record.{fresh_record}
use Rattle.bus_call_specs.specs.Ready.{run_reply}
use Rattle.bus_call_specs.specs.Kept.{found}
use Rattle.book_reader.specs.Step.{before_first_line}
use Rattle.report.specs.Told.{Ready}
use Rattle.report.specs.Ahead.{BookState}
use Rattle.book_go_on.specs.declared.progress.Progress.{Progress}
use Rattle.book_go_on.specs.declared.progress.GoneOn.{GoneOn}
use Rattle.book_go_on.specs.declared.run_to.BusAndRoom.{BusAndRoom}

-- a book of which nothing has been read, on a fresh bus
unfoldable pub fresh_progress : Progress
fresh_progress =
    record { bus = fresh_record; terminals = replicate terminals terminal.fresh; stage = before_first_line; begun = false; over = false }

abbrev pub book_state_of : Progress → List ℕ → List ℕ → List ℕ → BookState
book_state_of p images octets letters =
    record { kept = found p.bus p.terminals images octets letters; stage = p.stage; begun = p.begun; over = p.over }

-- The first of the reasons 1 and 2 that holds, or 0: as for a run of no periods.
unfoldable pub reason : BookState → ℕ
reason s = run_reply 0 s.kept

-- The same as a reason, if one holds.
abbrev pub refusal : BookState → Option Refusal
refusal s = cond (eqb (reason s) 0) None (Some (reason_of (reason s)))

-- Before the first step; and after the last one, with `taken` octets of the text taken.
abbrev pub untaken : Progress → GoneOn
untaken p = record { progress = p; taken = 0; wrote = 0; why = 0 }

abbrev pub ended : GoneOn → ℕ → GoneOn
ended w taken = record { progress = w.progress; taken = taken; wrote = w.wrote; why = w.why }

-- The same bus, at another stage of the book and of its report.
abbrev pub turned : GoneOn → ℕ → Bool → Bool → ℕ → ℕ → ℕ → GoneOn
turned w stage begun over taken wrote why =
    record {
      progress = record { bus = w.progress.bus; terminals = w.progress.terminals; stage = stage; begun = begun; over = over };
      taken = taken;
      wrote = wrote;
      why = why;
    }

-- Another bus and other octets written, at a stage.
abbrev pub reached : GoneOn → BusAndRoom → ℕ → ℕ → ℕ → GoneOn
reached w u stage taken why =
    record {
      progress = record { bus = u.bus; terminals = u.terminals; stage = stage; begun = w.progress.begun; over = w.progress.over };
      taken = taken;
      wrote = u.wrote;
      why = why;
    }

-- What a step is for: the record and what is lent are in order, and the room reaches as far as is
-- written.
pub record Goes (w : GoneOn) (images octets letters room : List ℕ) : Type 0 where
  pub ready : Ready (found w.progress.bus w.progress.terminals images octets letters)
  pub fits : w.wrote ≤ length room
