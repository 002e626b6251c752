-- `replied` meets its contract: the record with notes and a reply.
use mathlib.Core.Path.{refl}
use Rattle.bus_event.specs.Event.{told}
use Rattle.bus_event.proofs.event.replied.Goals as goal

pub returns : goal.returns
unfolding told
returns c = refl
