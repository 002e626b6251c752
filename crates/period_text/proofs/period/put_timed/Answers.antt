-- `put_timed` meets its contract: two puts, one behind the other.
use Rattle.note_text.proofs.RoomLaws.{put_put}
use Rattle.period_text.proofs.PeriodLaws.{timed_parts}
use Rattle.period_text.proofs.period.put_timed.Goals as goal

pub returns : goal.returns
returns c = rw (← timed_parts _ _ _ _) (put_put c.put_notes-a.ensures c.put_timers.ensures)
