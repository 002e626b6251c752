-- `give` meets its contract (Giving.antt).
use Rattle.book_go_on.proofs.Giving.{laid_octets, gave}
use Rattle.book_go_on.proofs.give.give.Goals as goal

pub returns : goal.returns
returns c =
    let a = c.args in
    let r = c.requires in
    let e = c.event-g.ensures in
    gave a.u.bus a.u.terminals a.images.now a.letters.now a.unit a.event a.value.now a.room.now a.u.wrote r.periods_le_most_periods
    c.ranges.unit.fits r.period_room_in_bounds _ (laid_octets c.octets-n.ensures r.value_len_bound) c.event-g.result _ _ e.told_value
    e.terminals_value e.images_after e.letters_after _ _ c.put_event-wrote.ensures
