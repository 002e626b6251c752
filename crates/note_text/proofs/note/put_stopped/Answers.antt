-- `put_stopped` meets its contract: three puts, one behind the other.
use Rattle.note_text.specs.NoteText.{stopped_line}
use Rattle.note_text.proofs.RoomLaws.{put_put}
use Rattle.note_text.proofs.note.put_stopped.Goals as goal

pub returns : goal.returns
unfolding stopped_line
returns c = put_put c.put-a.ensures (put_put c.put_decimal-b.ensures c.put.ensures)
