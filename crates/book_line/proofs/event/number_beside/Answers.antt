-- `event::number_beside` meets its contract: none of the events passed has the name.
use mathlib.Core.Path.{sym, ◌∙◌}
use native.Mathlib.Omega.{arith}
use Rattle.book_line.proofs.EventTable.{passed_none, passed_next, passed_found, passed_all}
use Rattle.book_line.proofs.event.number_beside.Goals as goal

pub loop-event-init : goal.loop-event-init
loop-event-init c = passed_none

pub returns-then-eq : goal.returns-then-eq
returns-then-eq c = passed_found c.loop-event.invariant _ (omega arith) (sym c.eq.ensures ∙ c.if-eq.true)

pub loop-event-preserved : goal.loop-event-preserved
loop-event-preserved c = passed_next c.loop-event.invariant _ (omega arith) (sym c.eq.ensures ∙ c.if-eq.false)

pub returns : goal.returns
returns c = passed_all c.loop-event.invariant (omega arith)
