-- `is_head` meets its contract: what is written back fills all the room.
use native.Mathlib.Omega.{arith}
use mathlib.Core.Path.{◌∙◌}
use Rattle.symbols.proofs.Comparing.{pointwise_same}
use Rattle.bus_octets.specs.Layout.{is_head}
use Rattle.bus_octets.proofs.Lengths.{head_back}
use Rattle.bus_octets.proofs.test.is_head.Goals as goal

pub returns : goal.returns
unfolding is_head
returns c =
    c.eq.ensures
    ∙ rw (c.put_head.ensures.room_is, head_back c.args.bus c.args.terminals (omega arith)) (pointwise_same _ _)
