-- `put_record` meets its contract: the fields, and 0s behind them.
use Rattle.bus_octets.specs.Layout.{record_octets}
use Rattle.note_text.specs.Room.{laid}
use Rattle.bus_octets.proofs.laid.put_record.Goals as goal

pub returns : goal.returns
unfolding record_octets laid
returns c = rw c.record_octets-octets.ensures at c.put.ensures
