-- `sbus_period` meets its contract: a run of one period is a period.
use mathlib.Core.Path.{◌∙◌}
use Rattle.host_steps.proofs.Ends.{period_ended}
use Rattle.host_steps.proofs.stepping.sbus_period.Goals as goal

pub returns : goal.returns
returns c =
    let r = c.run_most.ensures in
    let w = period_ended c.args.bus.now c.args.notes.now _ _ _ (c.told_number.ensures ∙ r.value, (r.bus_after, r.notes_after)) in
    record { value = w.0; bus_after = w.1.0; notes_after = w.1.1 }
