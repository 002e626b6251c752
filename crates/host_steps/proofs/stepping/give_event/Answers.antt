-- `give_event` meets its contract: turned down for what is lent, turned down by the bus, or with notes.
use mathlib.Core.Path.{refl}
use Rattle.std.proofs.Common.{rules}
use Rattle.refusals.proofs.Laws.{number_some}
use Rattle.bus_rules.specs.Calls.Call.{event}
use Rattle.host_steps.proofs.Answers.{lent_bus}
use Rattle.host_steps.proofs.Ends.{event_not_lent, event_refused, event_ended}
use Rattle.host_steps.proofs.stepping.give_event.Goals as goal

pub returns-in_err-lent_reason-clause-value : goal.returns-in_err-lent_reason-clause-value
returns-in_err-lent_reason-clause-value c =
    let w = event_not_lent _ _ (event c.args.unit c.args.event c.args.value.now) _ c.in_err-lent_reason.ensures (number_some c.in_err-lent_reason.field-0.0) in
    let h = c.from_residual.ensures in
    rw (← w.0) (search rules)

pub returns-in_err-lent_reason-clause-bus_after : goal.returns-in_err-lent_reason-clause-bus_after
returns-in_err-lent_reason-clause-bus_after c =
    (event_not_lent _ _ (event c.args.unit c.args.event c.args.value.now) _ c.in_err-lent_reason.ensures (number_some c.in_err-lent_reason.field-0.0)).1.0

pub returns-in_err-lent_reason-clause-notes_after : goal.returns-in_err-lent_reason-clause-notes_after
returns-in_err-lent_reason-clause-notes_after c =
    (event_not_lent _ _ (event c.args.unit c.args.event c.args.value.now) _ c.in_err-lent_reason.ensures (number_some c.in_err-lent_reason.field-0.0)).1.1

pub give-told-requires : goal.give-told-requires
give-told-requires c = lent_bus _ _ _ 0 c.in_ok-lent_reason.ensures refl

pub returns-then-told-ne0 : goal.returns-then-told-ne0
returns-then-told-ne0 c =
    let a = c.args in
    let g = c.give-told.ensures in
    let w = event_refused a.bus.now a.notes.now a.unit a.event a.value.now _ c.event_number.ensures c.in_ok-lent_reason.ensures
    _ _ g.value g.s_after _ refl c.if-told-ne0.true in
    record { value = w.0; bus_after = w.1.0; notes_after = w.1.1 }

pub returns : goal.returns
returns c =
    let a = c.args in
    let g = c.give-told.ensures in
    let w = event_ended a.bus.now a.notes.now a.unit a.event a.value.now _ c.event_number.ensures c.in_ok-lent_reason.ensures
    _ _ g.value g.s_after c.if-told-ne0.false _ c.record_in-period.ensures _ c.put_told.ensures in
    record { value = w.0; bus_after = w.1.0; notes_after = w.1.1 }
