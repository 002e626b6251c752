-- `sbus_run` meets its contract: as many periods as are left.
use mathlib.Core.Path.{◌∙◌}
use Rattle.bus_octets.specs.Layout.{shown}
use Rattle.host_steps.proofs.stepping.sbus_run.Goals as goal

pub returns : goal.returns
unfolding shown
returns c =
    let r = c.run_most.ensures in
    rw (← c.record_in-run.ensures, ← c.saturating_sub.ensures)
    (record { value = c.told_number.ensures ∙ r.value; bus_after = r.bus_after; notes_after = r.notes_after })
