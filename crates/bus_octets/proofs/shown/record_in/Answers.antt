-- `record_in` meets its contract: each part from its place.
use Rattle.bus_octets.specs.Layout.{record_in}
use Rattle.bus_octets.proofs.shown.record_in.Goals as goal

pub returns : goal.returns
unfolding record_in
returns c =
    rw (
      c.network_in.ensures,
      c.word_at.ensures,
      c.word_at-2.ensures,
      c.reader_in.ensures,
      c.fresh.ensures,
      c.flag_at.ensures,
      c.flag_at-2.ensures,
    )
