-- Calls: refusals 1, 2 and 9 of a call that runs periods (document 01, "Reasons a call is turned
-- down").
-- Interface: `eight_in_range`, `run_reason`, `run_reply`, `run_goes_on`. Assumes nothing.
use Rattle.std.specs.Prelude.{Bool, cond, not, ◌&&◌, List, ℕ, eqb, ltb, leb, length}
use Rattle.hdlc.specs.Image.{longest_body}
use Rattle.timing.specs.Calls.{all_run}
use Rattle.terminal.specs.declared.Terminal.{Terminal}
use Rattle.bus_rules.specs.Bus.{terminals}
use Rattle.period_hearing.specs.Shown.{all_in_range}
use Rattle.bus_record.specs.Record.{record_in_range}
use Rattle.bus_event.specs.Event.{images_room, are_letters}
use Rattle.bus_record.specs.declared.record.BusRecord.{BusRecord}
use Rattle.bus_record.specs.declared.side.RunAnswer.{RunAnswer}
use Rattle.bus_call_specs.specs.Kept.{Kept}

-- 1: "or the slice of terminal records is not eight long"; and each of them is in its range
unfoldable pub eight_in_range : List Terminal → Bool
eight_in_range ts = eqb (length ts) terminals && all_in_range ts

-- 2: what is lent has its length, and the letters are letters
unfoldable pub lent_fits : ℕ → ℕ → List ℕ → ℕ → Bool
lent_fits images octets letters notes = ((eqb images images_room && leb longest_body octets) && eqb notes terminals) && are_letters letters

-- "The checks run in the order below, and the first that holds gives the number"
unfoldable pub run_reason : Bool → BusRecord → ℕ → ℕ → List ℕ → ℕ → ℕ → ℕ
run_reason ready bus images octets letters notes most =
    cond (ready && record_in_range bus) (cond (lent_fits images octets letters notes) (cond (ltb 0 most && all_run bus.periods) 9 0) 2) 1

unfoldable pub run_reply : ℕ → Kept → ℕ
run_reply most k =
    run_reason (eight_in_range k.terminals) k.bus (length k.images) (length k.octets) k.letters (length k.notes) most

-- whether a run goes on with `left` periods left
unfoldable pub run_goes_on : RunAnswer → ℕ → Bool
run_goes_on last left = ((eqb last.reply 0 && not last.told) && ltb 0 left) && not (all_run last.bus.periods)
