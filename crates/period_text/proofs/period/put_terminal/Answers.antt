-- `put_terminal` meets its contract: two puts, one behind the other.
use Rattle.period_text.proofs.PeriodLaws.{done_first}
use Rattle.period_text.proofs.period.put_terminal.Goals as goal

pub returns : goal.returns
returns c =
    let a = c.args in
    done_first _ _ _ a.done1 a.done2 _ _ c.done_notes-done.ensures c.put_notes-a.ensures
    c.put_notes.ensures
