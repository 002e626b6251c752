-- `is_bus` meets its contract: the length, the records written back, their ranges, the letters.
use mathlib.Core.Path.{sym}
use native.Mathlib.Omega.{arith}
use lib.Seq.{length-take-le}
use borrow.Author.Tests.{eq-eqb, ne_eqb}
use Rattle.bus_octets.specs.Layout.{is_bus, letters_at}
use Rattle.bus_octets.proofs.test.is_bus.Goals as goal

pub returns-then-s-ne-BUS_LENGTH : goal.returns-then-s-ne-BUS_LENGTH
unfolding is_bus
returns-then-s-ne-BUS_LENGTH c = rw (ne_eqb _ _ c.if-s-ne-BUS_LENGTH.true)

pub slice_bounds-is_head-end : goal.slice_bounds-is_head-end
slice_bounds-is_head-end c = sym (length-take-le letters_at c.args.s.now (omega (arith, c.if-s-ne-BUS_LENGTH.false)))

pub returns : goal.returns
unfolding is_bus
returns c =
    rw (
      eq-eqb _ _ c.if-s-ne-BUS_LENGTH.false,
      c.is_head.ensures,
      c.in_range.ensures,
      c.in_range-2.ensures,
      c.fits.ensures,
      c.record_in-bus.ensures,
      c.terminals_in-terminals.ensures,
    )
