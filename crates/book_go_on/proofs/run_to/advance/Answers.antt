-- `advance` meets its contract (Running.antt).
use mathlib.Core.Path.{ap}
use native.Mathlib.Omega.{arith}
use borrow.Author.Tests.{not-true}
use Rattle.bus_record.specs.declared.side.RunAnswer.{RunAnswer}
use Rattle.book_go_on.proofs.Running.{ran_some, advanced, advanced_quiet}
use Rattle.book_go_on.proofs.run_to.advance.Goals as goal

pub returns-then-not-answer : goal.returns-then-not-answer
returns-then-not-answer c =
    let a = c.args in
    let r = c.requires in
    let e = c.run-g.ensures in
    let w = advanced_quiet a.u.bus a.u.terminals a.images.now a.octets.now a.letters.now a.to a.room.now a.u.wrote r.ready
    r.periods_lt_to r.to_le_most_periods r.period_room_in_bounds c.run-g.result _ e.answer_value e.terminals_value e.notes_value
    e.octets_after (not-true c.run-g.result.answer.told c.if-not-answer.true) in
    record { runs_to = w.0; periods_lt_periods = w.1 }

pub overflow_sub-bus : goal.overflow_sub-bus
overflow_sub-bus c =
    let a = c.args in
    let r = c.requires in
    omega (
      arith,
      ap (λ (x : RunAnswer). x.bus.periods.0) c.run-g.ensures.answer_value,
      ran_some a.u.bus a.u.terminals a.images.now a.octets.now a.letters.now a.to a.room.now a.u.wrote r.ready r.periods_lt_to
          r.to_le_most_periods,
    )

pub returns : goal.returns
returns c =
    let a = c.args in
    let r = c.requires in
    let e = c.run-g.ensures in
    let w = advanced a.u.bus a.u.terminals a.images.now a.octets.now a.letters.now a.to a.room.now a.u.wrote r.ready r.periods_lt_to
    r.to_le_most_periods r.period_room_in_bounds
    c.run-g.result _ e.answer_value e.terminals_value e.notes_value e.octets_after _ _ c.put_period-wrote.ensures in
    record { runs_to = w.0; periods_lt_periods = w.1 }
