-- `put_gone_on` meets its contract: the octets of the two numbers and the reason.
use Rattle.note_text.proofs.RoomLaws.{put_put}
use Rattle.host_book.specs.Going.{gone_on_octets}
use Rattle.host_book.proofs.going.put_gone_on.Goals as goal

pub returns : goal.returns
unfolding gone_on_octets
returns c =
    (put_put c.put_double-taken_put.ensures (put_put c.put_double-both_put.ensures c.put.ensures)).room_is
