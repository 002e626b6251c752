-- `put_unit` meets its contract: turned down for what is lent or for the unit, or what is shown of it.
use Rattle.std.proofs.Common.{rules}
use borrow.Author.Tests.{lt-ltb, le-ltb}
use Rattle.host_bus.specs.Looking.{unit_reply, unit_after}
use Rattle.refusals.proofs.Laws.{number_some}
use Rattle.host_bus.proofs.looking.put_unit.Goals as goal

pub returns-in_err-lent_reason-clause-value : goal.returns-in_err-lent_reason-clause-value
unfolding unit_reply
returns-in_err-lent_reason-clause-value c =
    let e = c.in_err-lent_reason.ensures in
    let h = c.from_residual.ensures in
    rw (← e, number_some c.in_err-lent_reason.field-0.0) (search rules)

pub returns-in_err-lent_reason-clause-seen_after : goal.returns-in_err-lent_reason-clause-seen_after
unfolding unit_reply unit_after
returns-in_err-lent_reason-clause-seen_after c =
    let e = c.in_err-lent_reason.ensures in
    let n = number_some c.in_err-lent_reason.field-0.0 in
    rw (← e, n, n)

pub returns-then-unit-gt-LAST_UNIT-clause-value : goal.returns-then-unit-gt-LAST_UNIT-clause-value
unfolding unit_reply
returns-then-unit-gt-LAST_UNIT-clause-value c =
    let e = c.in_ok-lent_reason.ensures in
    let above = lt-ltb _ _ c.if-unit-gt-LAST_UNIT.true in
    rw (← e, above)

pub returns-then-unit-gt-LAST_UNIT-clause-seen_after : goal.returns-then-unit-gt-LAST_UNIT-clause-seen_after
unfolding unit_reply unit_after
returns-then-unit-gt-LAST_UNIT-clause-seen_after c =
    let e = c.in_ok-lent_reason.ensures in
    let above = lt-ltb _ _ c.if-unit-gt-LAST_UNIT.true in
    rw (← e, above)

pub returns-clause-value : goal.returns-clause-value
unfolding unit_reply
returns-clause-value c =
    let e = c.in_ok-lent_reason.ensures in
    let m = le-ltb _ _ c.if-unit-gt-LAST_UNIT.false in
    rw (← e, m)

pub returns-clause-seen_after : goal.returns-clause-seen_after
unfolding unit_reply unit_after
returns-clause-seen_after c =
    let e = c.in_ok-lent_reason.ensures in
    let m = le-ltb _ _ c.if-unit-gt-LAST_UNIT.false in
    rw (← e, m, ← c.unit_seen-octets.ensures) c.put.ensures.room_is
