-- `put_notes` meets its contract: after i turns the first i notes are put.
use lib.ListN.{take}
use Rattle.bus_rules.specs.Bus.{notes_of}
use Rattle.note_text.specs.Room.{Put}
use Rattle.note_text.specs.NoteText.{notes_in}
use Rattle.note_text.proofs.note.put_notes.Given as goal

abbrev pub invariant-loop-code : goal.invariant-loop-code
invariant-loop-code l = Put l.initial.room l.wrote (notes_in l.form (notes_of l.period l.unit (take l.code-index l.code-items))) l.at l.room
