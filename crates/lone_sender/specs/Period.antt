-- Laws: a period of a run alone is the period over all terminals: the exchange, the terminals'
-- hearing and their timers (crate `bus_call_specs`, specs/Step.antt). The statements are types;
-- `proofs/Period.antt` proves each under the same name in small letters.
-- Interface: none but for laws and proofs. Assumes nothing.
use Rattle.std.specs.Prelude.{true, false, List, ◌≡◌, ℕ, ◌+◌, ◌<◌, length, replicate}
use Rattle.slice_lemmas.specs.Over.{map_from, fold_from}
use Rattle.heard_line.specs.declared.heard.Downward.{Downward}
use Rattle.terminal.specs.declared.Terminal.{Terminal}
use Rattle.period_hearing.specs.Hears.{terminal_after, notes_after, told_after}
use Rattle.bus_record.specs.Echo.{step_tally, step_exchanged, step_line}
use Rattle.bus_record.specs.NetworkSide.{no_notes}
use Rattle.lone_sender.specs.Lone.{lone_after_four, lone_tally, followed, lone_stations, sender_in}
use Rattle.lone_sender.specs.Alone.{goes_alone}
use Rattle.lone_sender.specs.Search.{all_hear_alike, AllClear}
use Rattle.lone_sender.specs.declared.alone.Alone.{Alone}

-- the terminals at the period's start, as the run has them, and after the exchange; and the line
-- that is heard
abbrev pub terminals_here : Alone → List Terminal → List Terminal
terminals_here a ts = map_from (followed a.lone) 0 ts

abbrev pub exchanged_here : List ℕ → List ℕ → Alone → List Terminal → List Terminal
exchanged_here images letters a ts = step_exchanged a.answer.bus (terminals_here a ts) images letters

abbrev pub line_here : List ℕ → List ℕ → Alone → List Terminal → Downward
line_here images letters a ts = step_line a.answer.bus (terminals_here a ts) images letters

pub record IsPeriod (images letters : List ℕ) (a : Alone) (ts : List Terminal) : Type 0 where
  pub tally_is : step_tally a.answer.bus (terminals_here a ts) images letters
      ≡ lone_tally images a.answer.bus.network.state a.lone
  pub terminals_are : map_from (terminal_after (line_here images letters a ts) a.answer.bus.periods) 0
      (exchanged_here images letters a ts) ≡ map_from (followed (lone_after_four images a.lone)) 0 ts
  pub notes_are : map_from (notes_after (line_here images letters a ts) a.answer.bus.periods) 0 (exchanged_here images letters a ts)
      ≡ replicate (length ts) no_notes
  pub told_is : fold_from (told_after (line_here images letters a ts) a.answer.bus.periods) 0 false (exchanged_here images letters a ts)
      ≡ false

abbrev pub PeriodAlone : Type 0
PeriodAlone =
    (images letters : List ℕ) (a : Alone) (ts : List Terminal) → goes_alone images a ≡ true
    → lone_stations a.lone.at a.lone.length 0 ts ≡ true → sender_in a.lone.at 0 ts ≡ true
    → all_hear_alike ts ≡ true → AllClear a.answer.bus.periods.0 1 ts → IsPeriod images letters a ts

-- timers that are clear for n periods are clear at each of them
abbrev pub ClearOn : Type 0
ClearOn = (now n k : ℕ) (ts : List Terminal) → k < n → AllClear now n ts → AllClear (now + k) 1 ts
