-- `put_timers` meets its contract: after i turns the notes of the first i terminals are put.
use lib.ListN.{take}
use Rattle.bus_call_specs.specs.Lists.{timers_told}
use Rattle.note_text.specs.Room.{Put}
use Rattle.note_text.specs.NoteText.{notes_in}
use Rattle.period_text.proofs.period.put_timers.Given as goal

abbrev pub invariant-loop-i : goal.invariant-loop-i
invariant-loop-i l = Put l.initial.room l.wrote (notes_in l.form (timers_told l.period 0 (take l.i l.n-items))) l.at l.room
