-- `terminals_in` meets its contract: the eight, one by one.
use Rattle.bus_octets.specs.Layout.{terminals_in, terminals_from}
use Rattle.bus_octets.proofs.shown.terminals_in.Goals as goal

pub returns : goal.returns
unfolding terminals_in terminals_from
returns c =
    rw (
      c.terminal_at.ensures,
      c.terminal_at-2.ensures,
      c.terminal_at-3.ensures,
      c.terminal_at-4.ensures,
      c.terminal_at-5.ensures,
      c.terminal_at-6.ensures,
      c.terminal_at-7.ensures,
      c.terminal_at-8.ensures,
    )
