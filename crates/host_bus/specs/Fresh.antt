-- Calls: a fresh bus as octets.
-- Interface: `fresh_octets`. Assumes nothing.
use Rattle.std.specs.Prelude.{List, ℕ, replicate}
use Rattle.symbols.specs.Symbols.{line_length}
use Rattle.hdlc.specs.Image.{longest_body}
use Rattle.bus_event.specs.Event.{images_room}
use Rattle.bus_call_specs.specs.Kept.{Kept}
use Rattle.bus_call_specs.specs.Lists.{fresh_found}
use Rattle.bus_octets.specs.Layout.{bus_octets}

-- a fresh record with eight fresh terminals; what is lent with them holds nothing but 0
unfoldable pub fresh_zeros : Kept
fresh_zeros = fresh_found (replicate images_room 0) (replicate longest_body 0) (replicate line_length 0)

unfoldable pub fresh_octets : List ℕ
fresh_octets = bus_octets fresh_zeros
