-- `line` meets its contract (Lines.antt).
use mathlib.Core.Path.{sym, ◌∙◌}
use Rattle.book_go_on.proofs.Lines.{full_line, end_line, given_line}
use Rattle.book_go_on.proofs.line.line.Goals as goal

pub returns-then-not-has_room : goal.returns-then-not-has_room
returns-then-not-has_room c =
    let a = c.args in
    (full_line a.w a.images.now a.octets.now a.letters.now a.value.now a.room.now a.period a.unit a.event a.size
    c.requires.begun_value c.requires.over_value c.run_to-u.result _ _ c.run_to-u.ensures.runs_to
    (sym c.has_room.ensures ∙ c.if-not-has_room.true) c.reached.result c.reached.ensures)

pub returns-then-is_end : goal.returns-then-is_end
returns-then-is_end c =
    let a = c.args in
    (end_line a.w a.images.now a.octets.now a.letters.now a.value.now a.room.now a.period a.unit a.event a.size
    c.requires.begun_value c.requires.over_value c.run_to-u.result _ _ c.run_to-u.ensures.runs_to
    c.run_to-u.ensures.room_len_bound (sym c.has_room.ensures ∙ c.if-not-has_room.false)
    (sym c.is_end.ensures ∙ c.if-is_end.true) c.reached-then-is_end.result c.reached-then-is_end.ensures)

pub returns : goal.returns
returns c =
    let a = c.args in
    (given_line a.w a.images.now a.octets.now a.letters.now a.value.now a.room.now a.period a.unit a.event a.size
    c.requires.begun_value c.requires.over_value c.run_to-u.result _ _ c.run_to-u.ensures.runs_to
    c.run_to-u.ensures.room_len_bound (sym c.has_room.ensures ∙ c.if-not-has_room.false)
    (sym c.is_end.ensures ∙ c.if-is_end.false) c.give-g.result _ _ _ c.give-g.ensures c.reached-2.result c.reached-2.ensures)
