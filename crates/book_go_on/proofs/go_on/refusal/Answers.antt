-- `refusal` meets its contract: a run of no period refuses what any run does.
use Rattle.std.proofs.Common.{arith, sym, ◌∙◌}
use Rattle.book_go_on.proofs.Going.{checked_run, none_refused, first_refused, second_refused}
use Rattle.book_go_on.proofs.go_on.refusal.Goals as goal

pub returns-in-0 : goal.returns-in-0
returns-in-0 c =
    let a = c.args in
    let k = checked_run a.progress a.images.now a.octets.now a.letters.now _ c.run-g.ensures.answer_value _ c.run-g.ensures.octets_after in
    record { value = none_refused _ (sym k.0 ∙ c.in-0.is); octets_unchanged = k.1 }

pub returns-in-1 : goal.returns-in-1
returns-in-1 c =
    let a = c.args in
    let k = checked_run a.progress a.images.now a.octets.now a.letters.now _ c.run-g.ensures.answer_value _ c.run-g.ensures.octets_after in
    record { value = first_refused _ (sym k.0 ∙ c.in-1.is); octets_unchanged = k.1 }

pub returns-in_default : goal.returns-in_default
returns-in_default c =
    let a = c.args in
    let k = checked_run a.progress a.images.now a.octets.now a.letters.now _ c.run-g.ensures.answer_value _ c.run-g.ensures.octets_after in
    record { value = second_refused _ (λ e. omega (arith, k.0, e)) (λ e. omega (arith, k.0, e)); octets_unchanged = k.1 }
