-- `event_for` meets its contract: whether an event is one for a unit.
use mathlib.Core.Bool.{or_assoc, or-false}
use borrow.Author.Tests.{eq-eqb, ne_eqb}
use Rattle.bus_rules.specs.Event.{event_for}
use Rattle.bus_event.proofs.event.event_for.Goals as goal

pub returns-then-unit-eq0 : goal.returns-then-unit-eq0
unfolding event_for
returns-then-unit-eq0 c = simp (eq-eqb _ _ c.if-unit-eq0.true, or_assoc, or-false)

pub returns : goal.returns
unfolding event_for
returns c = simp (ne_eqb _ _ c.if-unit-eq0.false, or_assoc, or-false)
