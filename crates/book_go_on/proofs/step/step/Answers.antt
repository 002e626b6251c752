-- `step` meets its contract (Moving.antt).
use mathlib.Core.Path.{sym, ◌∙◌}
use mathlib.Core.Bool.{true}
use native.Mathlib.Omega.{arith}
use borrow.Author.Tests.{leb-true, not-true}
use Rattle.bus_call_specs.specs.Kept.{found}
use Rattle.report.specs.Ahead.{ROOM, OVER}
use Rattle.book_go_on.proofs.Moving.{turns, steps_at, step_over, step_full, step_heading}
use Rattle.book_go_on.proofs.step.step.Goals as goal

pub returns-then-w : goal.returns-then-w
returns-then-w c =
    let a = c.args in
    let g = a.w.progress in
    let k = found g.bus g.terminals a.images.now a.octets.now a.letters.now in
    (turns a.w a.images.now a.octets.now a.letters.now a.room.now a.said a.value.now g.stage g.begun g.over 0 a.w.wrote OVER _
    (λ text at whole q. steps_at 0 (step_over text whole k g.stage g.begun g.over at a.room.now a.w.wrote
    c.requires.goes.fits c.if-w.true) (omega arith)) c.stays.result c.stays.ensures)

pub returns-then-not-has_room : goal.returns-then-not-has_room
returns-then-not-has_room c =
    let a = c.args in
    let g = a.w.progress in
    let k = found g.bus g.terminals a.images.now a.octets.now a.letters.now in
    (turns a.w a.images.now a.octets.now a.letters.now a.room.now a.said a.value.now g.stage g.begun g.over 0 a.w.wrote ROOM _
    (λ text at whole q. steps_at 0 (step_full text whole k g.stage g.begun g.over at a.room.now a.w.wrote
    c.requires.goes.fits (sym c.has_room.ensures ∙ c.if-not-has_room.true) c.if-w.false) (omega arith)) c.stays-then-not-has_room.result c.stays-then-not-has_room.ensures)

pub returns-then-not-w : goal.returns-then-not-w
returns-then-not-w c =
    let a = c.args in
    let g = a.w.progress in
    let k = found g.bus g.terminals a.images.now a.octets.now a.letters.now in
    (turns a.w a.images.now a.octets.now a.letters.now a.room.now a.said a.value.now g.stage true g.over 0 _ 0 _
    (λ text at whole q. steps_at 0 (step_heading text whole k g.stage g.begun g.over at a.room.now a.w.wrote
    c.requires.goes.fits c.if-w.false (not-true g.begun c.if-not-w.true)
    (leb-true _ _ (sym c.has_room.ensures ∙ c.if-not-has_room.false)) _ _ c.put_heading-wrote.ensures) (omega arith)) c.turned.result c.turned.ensures)
