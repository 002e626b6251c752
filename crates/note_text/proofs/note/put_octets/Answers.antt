-- `put_octets` meets its contract: four puts, one behind the other, are the note's octets.
use Rattle.note_text.specs.NoteText.{note}
use Rattle.note_text.proofs.RoomLaws.{put_put}
use Rattle.note_text.proofs.OctetLaws.{octets_parts}
use Rattle.note_text.proofs.note.put_octets.Goals as goal

pub returns : goal.returns
returns c =
    let a = c.args in
    let n = note a.period a.unit a.code a.value.now in
    let head = c.put-a.ensures in
    let length = c.put_half-b.ensures in
    let period = c.put_word-c.ensures in
    rw (← octets_parts n c.ranges.code.fits) (put_put head (put_put length (put_put period c.put.ensures)))
