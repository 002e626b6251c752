-- `run_most` meets its contract: turned down for what is lent, turned down by the bus, or with notes.
use mathlib.Core.Path.{refl, ap}
use native.Mathlib.Omega.{arith}
use lib.ListN.{length}
use Rattle.std.proofs.Common.{rules}
use Rattle.refusals.proofs.Laws.{number_some}
use Rattle.host_steps.proofs.Told.{left_long}
use Rattle.host_steps.proofs.Answers.{lent_bus}
use Rattle.host_steps.proofs.Ends.{run_not_lent, run_refused, run_ended}
use Rattle.host_steps.proofs.stepping.run_most.Goals as goal

pub returns-in_err-lent_reason-clause-value : goal.returns-in_err-lent_reason-clause-value
returns-in_err-lent_reason-clause-value c =
    let w = run_not_lent _ _ c.args.most _ c.in_err-lent_reason.ensures (number_some c.in_err-lent_reason.field-0.0) in
    let h = c.from_residual.ensures in
    rw (← w.0) (search rules)

pub returns-in_err-lent_reason-clause-bus_after : goal.returns-in_err-lent_reason-clause-bus_after
returns-in_err-lent_reason-clause-bus_after c =
    (run_not_lent _ _ c.args.most _ c.in_err-lent_reason.ensures (number_some c.in_err-lent_reason.field-0.0)).1.0

pub returns-in_err-lent_reason-clause-notes_after : goal.returns-in_err-lent_reason-clause-notes_after
returns-in_err-lent_reason-clause-notes_after c =
    (run_not_lent _ _ c.args.most _ c.in_err-lent_reason.ensures (number_some c.in_err-lent_reason.field-0.0)).1.1

pub go-g-requires : goal.go-g-requires
go-g-requires c = lent_bus _ _ _ 0 c.in_ok-lent_reason.ensures refl

pub returns-then-answer-ne0 : goal.returns-then-answer-ne0
returns-then-answer-ne0 c =
    let a = c.args in
    let g = c.go-g.ensures in
    let w = run_refused a.bus.now a.notes.now a.most c.in_ok-lent_reason.ensures _ _ _ g.answer_value g.notes_value g.s_after _ refl
    c.if-answer-ne0.true in
    record { value = w.0; bus_after = w.1.0; notes_after = w.1.1 }

pub slice_bounds-put_run-end : goal.slice_bounds-put_run-end
slice_bounds-put_run-end c =
    let h = lent_bus c.args.bus.now _ _ 0 c.in_ok-lent_reason.ensures refl in
    omega (arith, ap length c.go-g.ensures.s_after, left_long c.args.bus.now h c.args.most)

pub returns : goal.returns
returns c =
    let a = c.args in
    let g = c.go-g.ensures in
    let w = run_ended a.bus.now a.notes.now a.most c.in_ok-lent_reason.ensures _ _ _ g.answer_value g.notes_value g.s_after
    c.if-answer-ne0.false _ c.put_run.ensures in
    record { value = w.0; bus_after = w.1.0; notes_after = w.1.1 }
