-- `terminal_octets` meets its contract: a put for each part, one behind the other.
use Rattle.note_text.proofs.RoomLaws.{put_put}
use Rattle.bus_octets.proofs.laid.terminal_octets.Goals as goal

pub returns : goal.returns
returns c =
    let t3 = rw c.to_le_bytes.ensures at c.put-a.ensures in
    (put_put t3 (put_put c.put_access-b.ensures (put_put c.put-c.ensures c.put_alignment.ensures))).room_is
