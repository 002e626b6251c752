-- `heard_down` meets its contract: without a hit the line is not built; under one it is, and is a line.
use mathlib.Core.Path.{refl, ◌∙◌}
use borrow.Author.Tests.{not-true, not-false}
use Rattle.bus_record.specs.Echo.{heard_down}
use Rattle.bus_record.proofs.EchoLaws.{heard_under}
use Rattle.bus_record.proofs.echo.heard_down.Goals as goal

pub returns-then-not-bus : goal.returns-then-not-bus
unfolding heard_down
returns-then-not-bus c = simp (not-true c.args.bus.hit c.if-not-bus.true) c.shown_by-quick.ensures

pub returns : goal.returns
returns c =
    let struck = not-false c.args.bus.hit c.if-not-bus.false in
    let heard =
    heard_under c.args.bus c.args.ds c.args.letters.now _ _ _ struck refl c.build_down.ensures c.apply_hit.ensures.octets
    in
    rw (c.sense_down.ensures ∙ heard) at c.unwrap_or.ensures
