-- `is_book` meets its contract: the length, the bus, the two flags.
use mathlib.Core.Path.{sym}
use native.Mathlib.Omega.{arith}
use lib.Seq.{length-take-le}
use borrow.Author.Tests.{eq-eqb, ne_eqb}
use Rattle.bus_octets.specs.Layout.{bus_length}
use Rattle.host_book.specs.Octets.{is_book}
use Rattle.host_book.proofs.octets.is_book.Goals as goal

pub returns-then-b-ne-BOOK_LENGTH : goal.returns-then-b-ne-BOOK_LENGTH
unfolding is_book
returns-then-b-ne-BOOK_LENGTH c = rw (ne_eqb _ _ c.if-b-ne-BOOK_LENGTH.true)

pub slice_bounds-is_bus-end : goal.slice_bounds-is_bus-end
slice_bounds-is_bus-end c = sym (length-take-le bus_length c.args.b.now (omega (arith, c.if-b-ne-BOOK_LENGTH.false)))

pub returns : goal.returns
unfolding is_book
returns c = rw (eq-eqb _ _ c.if-b-ne-BOOK_LENGTH.false, c.is_bus.ensures, c.octet_at.ensures, c.octet_at-2.ensures)
