-- `make_fresh` meets its contract: zeros, and the fresh records laid over them.
use mathlib.Core.Path.{◌∙◌}
use borrow.Author.Tests.{eq-eqb}
use Rattle.host_bus.proofs.Making.{fresh_made}
use Rattle.host_bus.proofs.fresh.make_fresh.Goals as goal

pub returns-clause-bus_after : goal.returns-clause-bus_after
returns-clause-bus_after c =
    let z = c.if-bus-ne-BUS_LENGTH.false in
    rw (eq-eqb _ _ z) (c.lay.ensures ∙ rw (c.fill.ensures.after (λ y e. e), z) (fresh_made _ c.fresh.ensures _ c.fresh-t.ensures))
