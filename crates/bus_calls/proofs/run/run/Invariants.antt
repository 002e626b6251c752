-- What is left to run goes on from here to where the whole run ends.
use Rattle.bus_call_specs.specs.Kept.{kept}
use Rattle.bus_call_specs.specs.Run.{run_answer, kept_after}
use Rattle.bus_call_specs.proofs.RunLoop.{Going}
use Rattle.bus_calls.proofs.run.run.Given as goal

abbrev pub invariant-loop-last : goal.invariant-loop-last
invariant-loop-last l =
    let at = kept l.fn.bus l.fn.terminals l.fn.images l.fn.octets l.fn.letters l.fn.notes in
    Going l.fn.images l.fn.letters (run_answer l.fn.most at) (kept_after l.fn.most at) l.last l.left l.terminals l.octets l.notes

abbrev pub decreases-loop-last : goal.decreases-loop-last
decreases-loop-last l = l.left
