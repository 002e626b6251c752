-- `put_head` meets its contract: two puts, one behind the other.
use Rattle.note_text.proofs.RoomLaws.{put_put}
use Rattle.bus_octets.specs.Layout.{head_octets}
use Rattle.bus_octets.proofs.laid.put_head.Goals as goal

pub returns : goal.returns
unfolding head_octets
returns c = put_put c.put_record-wrote.ensures c.put_terminals.ensures
