-- `put_line` meets its contract: six puts, one behind the other, are the line.
use Rattle.note_text.proofs.RoomLaws.{put_put}
use Rattle.note_text.proofs.NoteLaws.{line_parts}
use Rattle.note_text.proofs.note.put_line.Goals as goal

pub returns : goal.returns
returns c =
    let space = c.put-b.ensures in
    let value = c.put_value-e.ensures in
    rw (← line_parts _)
    (put_put c.put_decimal-a.ensures
    (put_put space (put_put c.put_decimal-c.ensures (put_put c.put_name-d.ensures (put_put value c.put.ensures)))))
