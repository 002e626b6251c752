-- `lay` meets its contract: three puts, one behind the other.
use Rattle.note_text.proofs.RoomLaws.{put_put}
use Rattle.bus_octets.proofs.laid.lay.Goals as goal

pub returns : goal.returns
returns c = (put_put c.put_head-a.ensures (put_put c.put-b.ensures c.put.ensures)).room_is
