-- `request` meets its contract: `ar` or `dr` of the network end.
use mathlib.Core.Path.{sym, ◌∙◌}
use Rattle.network.proofs.Answered.{asked_given, asked_refused}
use Rattle.bus_event.specs.Event.{network_asked, asked}
use Rattle.bus_record.specs.NetworkSide.{reader_after}
use Rattle.bus_record.proofs.NetworkRests.{leaves_none}
use Rattle.bus_calls.proofs.network_end.request.Goals as goal

pub returns-in-Ok : goal.returns-in-Ok
unfolding network_asked asked
returns-in-Ok c =
    let given = asked_given _ c.in-Ok.step (sym c.request.ensures ∙ c.in-Ok.is) in
    simp (c.replied.ensures, c.with_network-after.ensures, c.reader_after.ensures, ← c.request_row.ensures, given)

pub returns-in-Err : goal.returns-in-Err
unfolding network_asked asked reader_after
returns-in-Err c =
    let kept = asked_refused _ _ _ c.in-Err.refusal (sym c.request.ensures ∙ c.in-Err.is) in
    simp (c.replied-in-Err.ensures, c.number.ensures, ← c.request_row.ensures, kept, leaves_none c.args.bus.network.state)
