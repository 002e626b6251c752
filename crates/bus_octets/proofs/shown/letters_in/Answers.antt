-- `letters_in` meets its contract: the part where the letters stand.
use Rattle.bus_octets.specs.Layout.{letters_read, part_read}
use Rattle.bus_octets.proofs.shown.letters_in.Goals as goal

pub returns : goal.returns
unfolding letters_read part_read
returns c = c.part.ensures
