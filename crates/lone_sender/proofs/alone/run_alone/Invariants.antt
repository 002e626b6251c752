-- `lone_sender::alone::run_alone` meets its contract: what holds before each turn is `Going` (AloneLoop.antt).
use Rattle.lone_sender.specs.Alone.{alone_on, octets_on}
use Rattle.lone_sender.proofs.AloneLoop.{alone_at, Going}
use Rattle.lone_sender.proofs.alone.run_alone.Given as goal

abbrev pub invariant-loop-over : goal.invariant-loop-over
invariant-loop-over l =
    let first = alone_at l.initial.answer l.initial.sender 0 in
    let end = alone_on l.images l.most first l.initial.octets in
    let left = octets_on l.images l.most first l.initial.octets in
    Going l.images l.most end left l.answer l.sender l.over l.octets
