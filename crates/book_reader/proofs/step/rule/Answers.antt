-- `book_reader::step::rule` meets its contract: a line that yields no entry is of the wrong form.
use mathlib.Core.Path.{sym, ap, ◌∙◌}
use Rattle.std.specs.Prelude.{Err}
use Rattle.book_line.proofs.Judging.{judged_twelve}
use Rattle.book_reader.proofs.Returns.{ruled_wrong}
use Rattle.book_reader.proofs.step.rule.Goals as goal

pub returns-in_default : goal.returns-in_default
returns-in_default c =
    let q = sym c.in_default.is ∙ c.judge.ensures in
    c.fault.ensures ∙ ruled_wrong _ _ _ _ (sym (ap Err (judged_twelve _ _ q)) ∙ q)
