-- `go_on_lent` meets its contract: turned down for what is lent, or gone on.
use mathlib.Core.Path.{◌≡◌, refl}
use Rattle.std.proofs.Common.{rules}
use borrow.Author.Tests.{eqb-false}
use Rattle.refusals.specs.Numbers.{number, reply_of}
use Rattle.refusals.proofs.Laws.{number_some}
use Rattle.host_book.proofs.Made.{going_book, turned_down, gone_on}
use Rattle.host_book.proofs.going.go_on_lent.Goals as goal

pub returns-in_err-going_reason : goal.returns-in_err-going_reason
returns-in_err-going_reason c =
    let n = eqb-false _ 0 (number_some c.in_err-going_reason.field-0.0) in
    let a = c.args in
    let w = turned_down a.book.now a.text.now a.report.now a.went.now a.whole _ c.in_err-going_reason.ensures n in
    let h = c.from_residual.ensures in
    let e : reply_of c.from_residual.result ≡ number c.in_err-going_reason.field-0.0 = search rules in
    rw e w

pub go-w-requires : goal.go-w-requires
go-w-requires c = going_book _ _ 0 c.in_ok-going_reason.ensures refl

pub returns : goal.returns
returns c = gone_on _ _ _ _ _ 0 c.in_ok-going_reason.ensures refl c.go-w.result _ _ _ c.go-w.ensures c.put_gone_on.ensures
