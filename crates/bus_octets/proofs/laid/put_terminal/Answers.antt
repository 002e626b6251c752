-- `put_terminal` meets its contract: the fields, and 0s behind them.
use Rattle.bus_octets.specs.Layout.{terminal_octets}
use Rattle.note_text.specs.Room.{laid}
use Rattle.bus_octets.proofs.laid.put_terminal.Goals as goal

pub returns : goal.returns
unfolding terminal_octets laid
returns c = rw c.terminal_octets-octets.ensures at c.put.ensures
