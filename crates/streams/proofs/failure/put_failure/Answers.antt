-- The line is put by four puts, one behind the other.
use Rattle.note_text.proofs.RoomLaws.{put_put}
use Rattle.streams.specs.Failure.{failure_line}
use Rattle.streams.proofs.failure.put_failure.Goals as goal

pub returns : goal.returns
unfolding failure_line
returns c = put_put c.put-a.ensures (put_put c.put-b.ensures (put_put c.put_decimal-c.ensures c.put.ensures))
