-- `run_to` meets its contract (Running.antt): one run after another.
use mathlib.Core.Path.{◌≡◌}
use Prim.Native.Nat.{◌-◌}
use lib.ListN.{length}
use Rattle.bus_call_specs.specs.Kept.{found}
use Rattle.book_go_on.specs.RunTo.{RunsTo}
use Rattle.book_go_on.proofs.run_to.run_to.Given as goal

abbrev pub invariant-loop-u : goal.invariant-loop-u
invariant-loop-u l =
    RunsTo (found l.initial.u.bus l.initial.u.terminals l.images l.initial.octets l.letters) l.to l.initial.room l.initial.u.wrote
    (found l.u.bus l.u.terminals l.images l.octets l.letters) l.u.wrote l.room
    × (length l.octets ≡ length l.initial.octets)

abbrev pub decreases-loop-u : goal.decreases-loop-u
decreases-loop-u l = l.to - l.u.bus.periods.0
