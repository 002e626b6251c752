-- `put_counts` meets its contract: turned down for what is lent, or the two counts.
use Rattle.std.proofs.Common.{rules}
use Rattle.note_text.proofs.RoomLaws.{put_put}
use Rattle.bus_octets.specs.Layout.{shown}
use Rattle.host_bus.specs.Looking.{counts_of, counts_reply, counts_after}
use Rattle.refusals.proofs.Laws.{number_some}
use Rattle.host_bus.proofs.looking.put_counts.Goals as goal

pub returns-in_err-lent_reason-clause-value : goal.returns-in_err-lent_reason-clause-value
unfolding counts_reply
returns-in_err-lent_reason-clause-value c =
    let e = c.in_err-lent_reason.ensures in
    let h = c.from_residual.ensures in
    rw (← e) (search rules)

pub returns-in_err-lent_reason-clause-counts_after : goal.returns-in_err-lent_reason-clause-counts_after
unfolding counts_reply counts_after
returns-in_err-lent_reason-clause-counts_after c =
    let e = c.in_err-lent_reason.ensures in
    rw (← e, number_some c.in_err-lent_reason.field-0.0)

pub returns-clause-value : goal.returns-clause-value
unfolding counts_reply
returns-clause-value c = let e = c.in_ok-lent_reason.ensures in e

pub returns-clause-counts_after : goal.returns-clause-counts_after
unfolding counts_reply counts_after counts_of shown
returns-clause-counts_after c =
    let e = c.in_ok-lent_reason.ensures in
    rw (← e, ← c.record_in-record.ensures) (put_put c.put_word-wrote.ensures c.put_word.ensures).room_is
