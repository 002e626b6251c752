-- `put_hex` meets its contract: after i turns the first i octets are put (proofs/HexLaws).
use lib.ListN.{take}
use Rattle.note_text.specs.Room.{Put}
use Rattle.note_text.specs.NoteText.{hex_of}
use Rattle.note_text.proofs.hex.put_hex.Given as goal

abbrev pub invariant-loop-o : goal.invariant-loop-o
invariant-loop-o l = Put l.initial.room l.wrote (hex_of (take l.o-index l.octets)) l.at l.room
