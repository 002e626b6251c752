-- Where all E are 1 and no terminal takes part, nothing changes: the law `left_at_rest`.
use Rattle.std.proofs.Common.{◌≡◌, true, ap, sym, ◌∙◌}
use borrow.Author.Tests.{not-false}
use Rattle.exchange.specs.Rest.{may_rest}
use Rattle.exchange.proofs.Resting.{left_at_rest}
use Rattle.exchange.proofs.opportunity.exchange.Goals as goal

pub returns-then-rest-clause-value : goal.returns-then-rest-clause-value
returns-then-rest-clause-value c =
    let h : may_rest c.args.first ≡ true = not-false (may_rest c.args.first) (sym c.must_exchange.ensures ∙ c.if-must_exchange.false) in
    let still = ap (λ y. y.still) (sym c.rest_of-rest.ensures) ∙ c.if-rest.true in
    let l = left_at_rest c.args.images.now c.args.first c.args.terminals.now h still in
    cc

pub returns-then-rest-clause-terminals_after : goal.returns-then-rest-clause-terminals_after
returns-then-rest-clause-terminals_after c =
    let h : may_rest c.args.first ≡ true = not-false (may_rest c.args.first) (sym c.must_exchange.ensures ∙ c.if-must_exchange.false) in
    let still = ap (λ y. y.still) (sym c.rest_of-rest.ensures) ∙ c.if-rest.true in
    let l = left_at_rest c.args.images.now c.args.first c.args.terminals.now h still in
    l.1
