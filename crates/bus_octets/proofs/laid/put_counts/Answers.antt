-- `put_counts` meets its contract: three puts, one behind the other.
use Rattle.note_text.proofs.RoomLaws.{put_put}
use Rattle.bus_octets.proofs.laid.put_counts.Goals as goal

pub returns : goal.returns
returns c = put_put c.put-a.ensures (put_put c.put_word-b.ensures c.put_word.ensures)
