-- `put_terminals` meets its contract: after i turns the notes of the first i terminals are put.
use native.Mathlib.Omega.{arith}
use lib.Seq.{take_all}
use Rattle.period_text.proofs.PeriodLaws.{told_none, told_next}
use Rattle.period_text.proofs.period.put_terminals.Goals as goal

pub loop-i-init : goal.loop-i-init
loop-i-init c = λ answer e f. told_none _ _ _ _ _ answer c.min-at.ensures

pub loop-i-preserved : goal.loop-i-preserved
loop-i-preserved c =
    λ answer e f. told_next _ _ answer c.args.notes c.loop-i.i _ e f (omega arith) (c.loop-i.invariant answer e f) c.put_terminal-at.ensures

pub returns : goal.returns
returns c = λ answer e f. rw (take_all c.loop-i.i c.args.notes (omega arith)) at (c.loop-i.invariant answer e f)
