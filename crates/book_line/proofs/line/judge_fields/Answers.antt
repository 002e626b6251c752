-- `line::judge_fields` meets its contract: each way out by what the calls before it said of the fields.
use mathlib.Core.Path.{sym, ◌∙◌}
use Rattle.std.proofs.lemmas.Result.{err_from_is_err_and}
use Rattle.book_line.proofs.Judging.{wrong_period, wrong_unit, wrong_name, wrong_value, right}
use Rattle.book_line.proofs.line.judge_fields.Goals as goal

pub returns-in_err-period : goal.returns-in_err-period
returns-in_err-period c =
    let p = err_from_is_err_and c.from_residual.result c.from_residual.ensures.1 in
    rw (p.1, p.2) (wrong_period _ _ _ _ _ _ c.in_err-period.ensures)

pub returns-in_err-unit : goal.returns-in_err-unit
returns-in_err-unit c =
    let p = err_from_is_err_and c.from_residual-in_err-unit.result c.from_residual-in_err-unit.ensures.1 in
    rw (p.1, p.2) (wrong_unit _ _ _ _ _ _ c.in_err-unit.ensures)

pub returns-in_err-event : goal.returns-in_err-event
returns-in_err-event c =
    let p = err_from_is_err_and c.from_residual-in_err-event.result c.from_residual-in_err-event.ensures.1 in
    let o = c.in_err-event.ensures in
    rw (p.1, p.2) (wrong_name _ _ _ _ _ _ (sym c.event_named.ensures ∙ o.ok_part) (rw o.ok_part at o.value))

pub returns-then-not-value_fits : goal.returns-then-not-value_fits
returns-then-not-value_fits c = wrong_value _ _ _ _ _ _ (sym c.in_ok-event.ensures.ok_part ∙ c.event_named.ensures) c.if-not-value_fits.ensures

pub returns : goal.returns
returns c =
    right _ _ _ _ _ _ _ _ c.in_ok-period.ensures c.in_ok-unit.ensures (sym c.in_ok-event.ensures.ok_part ∙ c.event_named.ensures)
    c.if-not-value_fits.ensures
