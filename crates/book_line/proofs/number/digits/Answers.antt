-- `number::digits` meets its contract: the digits before i have been read.
use mathlib.Core.Path.{sym, ◌∙◌}
use native.Mathlib.Omega.{arith}
use Rattle.text.specs.Text.{is_digit}
use Rattle.text.proofs.Pieces.{all_stop, all_end}
use Rattle.book_line.proofs.Numbers.{reading_next, reading_done, reading_small, few, number_unsized, number_wrong, number_is}
use Rattle.book_line.proofs.number.digits.Goals as goal

pub returns-then-not-f : goal.returns-then-not-f
returns-then-not-f c = number_unsized _ c.if-not-f.true

pub returns-then-not-is_digit : goal.returns-then-not-is_digit
returns-then-not-is_digit c =
    number_wrong _
    (all_stop is_digit c.loop-c.invariant.digits (omega arith)
    (sym c.is_digit.ensures ∙ c.if-not-is_digit.true))

pub overflow_mul-n : goal.overflow_mul-n
overflow_mul-n c =
    let f = c.args.f.now in
    omega (arith, reading_small c.loop-c.invariant (omega (arith, few f c.if-not-f.false)))

pub overflow_add-n : goal.overflow_add-n
overflow_add-n c =
    let f = c.args.f.now in
    omega (
      arith,
      reading_small c.loop-c.invariant (omega (arith, few f c.if-not-f.false)),
      c.type_inv.f c.loop-c.c-index,
    )

pub loop-c-preserved : goal.loop-c-preserved
loop-c-preserved c =
    rw c.from.ensures (reading_next c.loop-c.invariant (omega arith) (sym c.is_digit.ensures ∙ c.if-not-is_digit.false))

pub returns : goal.returns
returns c =
    let inv = c.loop-c.invariant in
    number_is _ c.if-not-f.false (all_end is_digit inv.digits (omega arith)) (reading_done inv (omega arith))
