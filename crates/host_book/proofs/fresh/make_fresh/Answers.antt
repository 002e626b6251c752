-- `make_fresh` meets its contract: a fresh bus, and three octets behind it.
use mathlib.Core.Path.{sym, ◌∙◌}
use native.Mathlib.Omega.{arith}
use lib.Seq.{length-take-le}
use borrow.Author.Tests.{eq-eqb}
use Rattle.bus_octets.specs.Layout.{bus_length}
use Rattle.host_book.proofs.Made.{fresh_made}
use Rattle.host_book.proofs.fresh.make_fresh.Goals as goal

pub slice_bounds-sbus_fresh-end-2 : goal.slice_bounds-sbus_fresh-end-2
slice_bounds-sbus_fresh-end-2 c = sym (length-take-le bus_length c.args.book.now (omega (arith, c.if-book-ne-BOOK_LENGTH.false)))

pub returns-clause-book_after : goal.returns-clause-book_after
returns-clause-book_after c =
    let z = c.if-book-ne-BOOK_LENGTH.false in
    rw (eq-eqb _ _ z) (c.put.ensures.room_is ∙ fresh_made c.args.book.now z _ c.sbus_fresh.ensures.bus_after)
