-- Each turn brings one terminal to the run's end.
use Rattle.std.proofs.Common.{arith}
use Rattle.slice_lemmas.proofs.Over.{put_next, put_all}
use Rattle.lone_sender.specs.Lone.{followed}
use Rattle.lone_sender.proofs.follow.follow.Goals as goal

pub loop-i-preserved : goal.loop-i-preserved
loop-i-preserved c = put_next (followed c.args.lone) c.loop-i.i _ _ _ _ c.loop-i.invariant (omega arith) c.follow_one.ensures

pub returns : goal.returns
returns c = put_all (followed c.args.lone) c.loop-i.i _ _ c.loop-i.invariant (omega arith)
