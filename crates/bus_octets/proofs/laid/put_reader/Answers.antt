-- `put_reader` meets its contract: two puts, one behind the other.
use Rattle.note_text.proofs.RoomLaws.{put_put}
use Rattle.bus_octets.proofs.Laying.{flag_is}
use Rattle.bus_octets.proofs.laid.put_reader.Goals as goal

pub returns : goal.returns
returns c =
    let r = c.args.reader in
    put_put c.put_half-a.ensures (rw (flag_is r.opened, flag_is r.zero) at c.put.ensures)
