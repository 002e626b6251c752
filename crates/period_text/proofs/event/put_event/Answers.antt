-- `put_event` meets its contract: the notes handed back, or one note `refused`.
use borrow.Author.Tests.{eq-eqb, ne_eqb}
use Rattle.period_text.specs.PeriodText.{event_noted}
use Rattle.note_text.proofs.NoteLaws.{one_note}
use Rattle.period_text.proofs.event.put_event.Goals as goal

pub returns-then-reply-eq0 : goal.returns-then-reply-eq0
unfolding event_noted
returns-then-reply-eq0 c = rw (eq-eqb _ _ c.if-reply-eq0.true) c.put_notes.ensures

pub returns : goal.returns
unfolding event_noted
returns c = rw (ne_eqb _ _ c.if-reply-eq0.false, one_note) c.put_note.ensures
