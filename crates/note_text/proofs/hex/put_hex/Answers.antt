-- `put_hex` meets its contract: after i turns the first i octets are put (proofs/HexLaws).
use Rattle.note_text.specs.NoteText.{hex_of}
use Rattle.note_text.proofs.RoomLaws.{put_start}
use Rattle.note_text.proofs.HexLaws.{put_octet}
use Rattle.note_text.proofs.hex.put_hex.Goals as goal

pub loop-o-init : goal.loop-o-init
unfolding hex_of
loop-o-init c = put_start _ _ c.min-at.ensures

pub loop-o-preserved : goal.loop-o-preserved
loop-o-preserved c = put_octet _ _ _ _ c.loop-o-test.true c.hex_digit-high.ensures c.hex_digit-low.ensures c.loop-o.invariant c.put-at.ensures
