-- `put_timers` meets its contract: after i turns the notes of the first i terminals are put.
use native.Mathlib.Omega.{arith}
use lib.Seq.{take_all}
use Rattle.period_text.proofs.PeriodLaws.{timed_none, timed_next}
use Rattle.period_text.proofs.period.put_timers.Goals as goal

pub loop-i-init : goal.loop-i-init
loop-i-init c = timed_none _ _ _ _ _ c.min-at.ensures

pub loop-i-preserved : goal.loop-i-preserved
loop-i-preserved c = timed_next _ _ c.args.notes c.loop-i.i _ (omega arith) c.loop-i.invariant c.put_notes-at.ensures

pub returns : goal.returns
returns c = rw (take_all c.loop-i.i c.args.notes (omega arith)) at c.loop-i.invariant
