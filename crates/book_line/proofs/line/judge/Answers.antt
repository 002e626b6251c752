-- `line::judge` meets its contract: a line that is short enough and has four fields is judged by them.
use mathlib.Core.Path.{◌≡◌, sym, ap, ◌∙◌}
use native.Mathlib.Omega.{arith}
use lib.ListN.{length}
use Rattle.text.specs.Fields.{field_end}
use Rattle.text.specs.declared.field.Ends.{Ends}
use Rattle.text.proofs.Fields.{fields_end, fields_told}
use Rattle.book_line.proofs.Judging.{too_long, not_four, four_judged}
use Rattle.book_line.proofs.line.judge.Goals as goal

pub returns-then-line-ge-LONGEST_LINE : goal.returns-then-line-ge-LONGEST_LINE
returns-then-line-ge-LONGEST_LINE c = too_long _ c.if-line-ge-LONGEST_LINE.true

pub returns-then-ends-line : goal.returns-then-ends-line
returns-then-ends-line c =
    not_four _ (λ four. c.if-ends-line.true (ap (λ (e : Ends). e.fourth) c.split-ends.ensures ∙ (fields_end _ 3).0 four))

pub returns : goal.returns
returns c =
    let line = c.args.line in
    let ends = c.split-ends.result in
    let last : field_end 3 line.now ≡ length line.now = sym (ap (λ (e : Ends). e.fourth) c.split-ends.ensures) ∙ c.if-ends-line.false in
    c.judge_fields.ensures
    ∙ four_judged line.now _ _ _ _ _ c.if-line-ge-LONGEST_LINE.false ((fields_end line.now 3).1 last)
    (fields_told line _ ends c.split-ends.ensures 0 (omega arith) c.field.ensures)
    (fields_told line _ ends c.split-ends.ensures 1 (omega arith) c.field-2.ensures)
    (fields_told line _ ends c.split-ends.ensures 2 (omega arith) c.field-3.ensures)
    (fields_told line _ ends c.split-ends.ensures 3 (omega arith) c.field-4.ensures)
    c.split-ends.ensures
