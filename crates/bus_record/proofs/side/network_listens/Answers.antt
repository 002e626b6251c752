-- `network_listens` meets its contract: hearing, then the timers; one that rests is left as it is, and so it may be.
use Rattle.bus_record.specs.NetworkSide.{hearing_step, timer_step, network_listens}
use Rattle.bus_record.proofs.NetworkRests.{found_rests}
use mathlib.Core.Path.{◌≡◌, ◌∙◌}
use Rattle.network.specs.Calls.{hear_call, timer_call}
use Rattle.network.specs.Steps.{step_of}
use Rattle.network.proofs.Answered.{heard_given, timed_given}
use Rattle.bus_record.proofs.side.network_listens.Goals as goal

pub returns-then-network_rests-timer_due : goal.returns-then-network_rests-timer_due
returns-then-network_rests-timer_due c =
    found_rests
    c.args.line
    c.args.period
    c.args.network
    c.due.result
    c.due-2.result
    c.next_period-next.ensures
    c.due.ensures
    c.due-2.ensures
    c.network_rests.ensures
    c.if-network_rests-timer_due.true

pub returns : goal.returns
unfolding network_listens timer_step hearing_step
returns c =
    let heard : c.unwrap_or-heard.result ≡ step_of (hear_call c.args.line c.args.period c.args.network) =
    c.unwrap_or-heard.ensures ∙ rw (c.hear.ensures, c.without_notes.ensures) (heard_given c.args.line c.args.period c.args.network) in
    let timed : c.unwrap_or-timed.result ≡ step_of (timer_call c.next_period-next.result c.unwrap_or-heard.result.network) =
    c.unwrap_or-timed.ensures
    ∙ rw (c.timer_due.ensures, c.without_notes-2.ensures) (timed_given c.next_period-next.result c.unwrap_or-heard.result.network) in
    simp (timed, heard, c.next_period-next.ensures)
