-- `put` meets its contract: its loop lays one octet after the other (proofs/RoomLaws).
use Rattle.note_text.proofs.RoomLaws.{Laying}
use Rattle.note_text.proofs.room.put.Given as goal

abbrev pub invariant-loop-i : goal.invariant-loop-i
invariant-loop-i l = Laying l.initial.room l.wrote l.text l.start l.count l.room l.i
