-- `run_to` meets its contract (Running.antt): one run after another.
use mathlib.Core.Path.{refl, ◌∙◌}
use Rattle.book_go_on.proofs.Running.{ran_none, ran_then, ran_ready}
use Rattle.book_go_on.proofs.run_to.run_to.Goals as goal

pub loop-u-init : goal.loop-u-init
loop-u-init c = (ran_none _ _ _ _ c.requires.periods_le_to c.requires.wrote_in_bounds, refl)

pub advance-u-requires-clause-ready : goal.advance-u-requires-clause-ready
advance-u-requires-clause-ready c = ran_ready c.loop-u.invariant.0 c.requires.ready

pub loop-u-preserved : goal.loop-u-preserved
loop-u-preserved c =
    (ran_then c.loop-u.invariant.0 c.advance-u.ensures.runs_to, c.advance-u.auto.octets ∙ c.loop-u.invariant.1)
