-- `unit_seen` meets its contract: the network end, or the terminal of the unit.
use borrow.Author.Tests.{eq-eqb, ne_eqb}
use mathlib.Core.Path.{◌∙◌}
use Prim.Native.Nat.{◌-◌}
use native.Mathlib.Omega.{arith}
use Rattle.bus_octets.specs.Layout.{shown}
use Rattle.terminal.specs.Terminal.{fresh}
use Rattle.host_bus.proofs.Seen.{of_eight}
use Rattle.host_bus.specs.Looking.{unit_seen}
use Rattle.host_bus.proofs.looking.unit_seen.Goals as goal

pub returns-then-unit-eq0 : goal.returns-then-unit-eq0
unfolding unit_seen shown
returns-then-unit-eq0 c = c.network_seen.ensures ∙ rw (eq-eqb _ _ c.if-unit-eq0.true, c.record_in-record.ensures)

pub returns : goal.returns
unfolding unit_seen shown
returns c =
    c.terminal_seen.ensures
    ∙ rw (ne_eqb _ _ c.if-unit-eq0.false, c.terminals_in-all.ensures, of_eight c.args.bus.now (c.args.unit - 1) _ fresh (omega arith))
