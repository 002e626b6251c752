-- `put_terminals` meets its contract: after i turns the first i terminals are put.
use lib.ListN.{take}
use Rattle.note_text.specs.Room.{Put}
use Rattle.bus_octets.specs.Layout.{terminals_octets}
use Rattle.bus_octets.proofs.laid.put_terminals.Given as goal

abbrev pub invariant-loop-t : goal.invariant-loop-t
invariant-loop-t l = Put l.initial.room l.wrote (terminals_octets (take l.t-index l.t-items)) l.at l.room
