-- `octets_in` meets its contract: the part where the reader's octets stand.
use Rattle.bus_octets.specs.Layout.{octets_of, part_read}
use Rattle.bus_octets.proofs.shown.octets_in.Goals as goal

pub returns : goal.returns
unfolding octets_of part_read
returns c = c.part.ensures
