-- `event::number_beside` meets its contract: none of the events passed has the name.
use Rattle.book_line.proofs.EventTable.{Passed}
use Rattle.book_line.proofs.event.number_beside.Given as goal

abbrev pub invariant-loop-event : goal.invariant-loop-event
invariant-loop-event l = Passed l.name l.events l.event-index
