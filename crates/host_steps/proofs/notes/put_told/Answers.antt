-- `put_told` meets its contract: the notes, and their end.
use Rattle.note_text.proofs.RoomLaws.{put_put}
use Rattle.host_steps.specs.Stepping.{notes_octets}
use Rattle.host_steps.proofs.notes.put_told.Goals as goal

pub returns : goal.returns
unfolding notes_octets
returns c = (put_put c.put_notes-wrote.ensures c.put.ensures).room_is
