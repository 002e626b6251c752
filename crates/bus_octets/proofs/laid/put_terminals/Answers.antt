-- `put_terminals` meets its contract: after i turns the first i terminals are put.
use native.Mathlib.Omega.{arith}
use lib.Seq.{take_all}
use Rattle.bus_octets.proofs.Laying.{put_none_of, put_next}
use Rattle.bus_octets.proofs.laid.put_terminals.Goals as goal

pub loop-t-init : goal.loop-t-init
loop-t-init c = put_none_of _ _ c.min-at.ensures

pub loop-t-preserved : goal.loop-t-preserved
loop-t-preserved c = put_next c.args.terminals c.loop-t.t-index _ (omega arith) c.loop-t.invariant c.put_terminal-at.ensures

pub returns : goal.returns
returns c = rw (take_all c.loop-t.t-index c.args.terminals (omega arith)) at c.loop-t.invariant
