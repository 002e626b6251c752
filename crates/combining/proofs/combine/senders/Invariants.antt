-- `combining::combine::senders` meets its contract.
use Rattle.combining.proofs.Sending.{Found}
use Rattle.combining.proofs.combine.senders.Given as goal

abbrev pub invariant-loop-n : goal.invariant-loop-n
invariant-loop-n l = Found l.lines l.found l.n
