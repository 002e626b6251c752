-- `put_run` meets its contract: the notes of the last period, and their end.
use Rattle.note_text.proofs.RoomLaws.{put_put}
use Rattle.host_steps.specs.Stepping.{notes_octets}
use Rattle.host_steps.proofs.notes.put_run.Goals as goal

pub returns : goal.returns
unfolding notes_octets
returns c = rw (← c.saturating_sub-last.ensures) (put_put c.put_period-wrote.ensures c.put.ensures).room_is
