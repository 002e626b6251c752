-- `record_octets` meets its contract: a put for each part, one behind the other.
use Rattle.note_text.proofs.RoomLaws.{put_put}
use Rattle.bus_octets.proofs.laid.record_octets.Goals as goal

pub returns : goal.returns
returns c =
    (put_put c.put_counts-counts.ensures
    (put_put c.put_network-network.ensures (put_put c.put_reader-reader.ensures c.put_flags.ensures))).room_is
