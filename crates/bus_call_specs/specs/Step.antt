-- How the code goes: a period as the code takes it: the exchange in a few values, the terminals'
-- hearing, the network end's side. The law `step_shown` says that this is document 01's period
-- (Period.antt).
-- Interface: `step_terminals`, `step_notes`, `step_answer`, `step_octets`. Assumes nothing.
use Rattle.std.specs.Prelude.{Bool, false, List, ◌≡◌, ℕ}
use Rattle.slice_lemmas.specs.Over.{map_from, fold_from}
use Rattle.terminal.specs.declared.Terminal.{Terminal}
use Rattle.period_hearing.specs.Hears.{terminal_after, notes_after, told_after}
use Rattle.period_hearing.specs.declared.hears.UnitNotes.{UnitNotes}
use Rattle.bus_record.specs.Echo.{step_tally, step_exchanged, step_line}
use Rattle.bus_record.specs.NetworkSide.{answer_after, octets_after}
use Rattle.bus_record.specs.declared.record.BusRecord.{BusRecord}
use Rattle.bus_record.specs.declared.side.RunAnswer.{RunAnswer}
use Rattle.bus_call_specs.specs.Kept.{Kept}
use Rattle.bus_call_specs.specs.Period.{period_answer, kept_run}
use Rattle.bus_call_specs.specs.Ready.{run_reply}

-- the terminals' hearing, after the exchange (crate `bus_record`, specs/Echo.antt)
unfoldable pub step_terminals : BusRecord → List Terminal → List ℕ → List ℕ → List Terminal
step_terminals bus ts images letters =
    map_from (terminal_after (step_line bus ts images letters) bus.periods) 0 (step_exchanged bus ts images letters)

unfoldable pub step_notes : BusRecord → List Terminal → List ℕ → List ℕ → List UnitNotes
step_notes bus ts images letters =
    map_from (notes_after (step_line bus ts images letters) bus.periods) 0 (step_exchanged bus ts images letters)

unfoldable pub step_told : BusRecord → List Terminal → List ℕ → List ℕ → Bool
step_told bus ts images letters =
    fold_from (told_after (step_line bus ts images letters) bus.periods) 0 false (step_exchanged bus ts images letters)

-- the network end's side
unfoldable pub step_answer : BusRecord → List Terminal → List ℕ → List ℕ → List ℕ → RunAnswer
step_answer bus ts images octets letters = answer_after bus (step_tally bus ts images letters) octets (step_told bus ts images letters)

unfoldable pub step_octets : BusRecord → List Terminal → List ℕ → List ℕ → List ℕ → List ℕ
step_octets bus ts images octets letters = octets_after bus (step_tally bus ts images letters) octets

-- ---- Where no reason holds, it is document 01's period (proofs/StepShown.antt).
pub record StepShows (k : Kept) : Type 0 where
  pub answer_is : step_answer k.bus k.terminals k.images k.octets k.letters ≡ period_answer k
  pub terminals_are : step_terminals k.bus k.terminals k.images k.letters ≡ (kept_run k).terminals
  pub octets_are : step_octets k.bus k.terminals k.images k.octets k.letters ≡ (kept_run k).octets
  pub notes_are : step_notes k.bus k.terminals k.images k.letters ≡ (kept_run k).notes

abbrev pub StepShown : Type 0
StepShown = (k : Kept) → run_reply 1 k ≡ 0 → StepShows k
