-- `put_network` meets its contract: four puts, one behind the other.
use Rattle.note_text.proofs.RoomLaws.{put_put}
use Rattle.bus_octets.proofs.laid.put_network.Goals as goal

pub returns : goal.returns
returns c =
    let t1 = rw c.to_le_bytes.ensures at c.put-a.ensures in
    let t2 = rw c.to_le_bytes-2.ensures at c.put-b.ensures in
    put_put t1 (put_put t2 (put_put c.put-c.ensures c.put_alignment.ensures))
