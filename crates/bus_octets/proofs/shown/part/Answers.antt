-- `part` meets its contract: the octets are copied where there are as many as those of a bus.
use mathlib.Core.Path.{◌≡◌}
use Prim.Native.Nat.{◌+◌, ◌-◌}
use native.Mathlib.Omega.{arith}
use borrow.Author.Tests.{eq-eqb, ne_eqb}
use Rattle.bus_octets.specs.Layout.{part_read}
use Rattle.bus_octets.proofs.shown.part.Goals as goal

pub returns-then-s-eq-BUS_LENGTH : goal.returns-then-s-eq-BUS_LENGTH
unfolding part_read
returns-then-s-eq-BUS_LENGTH g c =
    let e : c.args.at + g.row.N - c.args.at ≡ g.row.N = omega arith in
    rw (eq-eqb _ _ c.if-s-eq-BUS_LENGTH.true) (rw e at c.copy_from_slice.ensures.after)

pub returns-else-s-eq-BUS_LENGTH : goal.returns-else-s-eq-BUS_LENGTH
unfolding part_read
returns-else-s-eq-BUS_LENGTH g c = rw (ne_eqb _ _ c.if-s-eq-BUS_LENGTH.false)
