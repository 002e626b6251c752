-- `put_access` meets its contract: three puts, one behind the other.
use Rattle.note_text.proofs.RoomLaws.{put_put}
use Rattle.bus_octets.proofs.Laying.{flag_is}
use Rattle.bus_octets.proofs.laid.put_access.Goals as goal

pub returns : goal.returns
returns c =
    let a = c.args.access in
    put_put c.put_half-a.ensures
    (put_put c.put_half-b.ensures (rw (flag_is a.low1, flag_is a.low2, flag_is a.last) at c.put.ensures))
