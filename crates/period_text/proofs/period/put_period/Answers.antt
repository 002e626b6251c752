-- `put_period` meets its contract: the heard part, and behind it the timed part.
use Rattle.note_text.proofs.RoomLaws.{put_put}
use Rattle.period_text.proofs.PeriodLaws.{period_parts}
use Rattle.period_text.proofs.period.put_period.Goals as goal

pub returns : goal.returns
returns c = rw (← period_parts _ _ _ _ _) (put_put c.put_heard-a.ensures c.put_timed.ensures)
