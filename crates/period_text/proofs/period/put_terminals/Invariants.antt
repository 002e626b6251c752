-- `put_terminals` meets its contract: after i turns the notes of the first i terminals are put.
use mathlib.Core.Path.{◌≡◌}
use lib.ListN.{take}
use Rattle.bus_call_specs.specs.Lists.{terminals_told}
use Rattle.bus_record.specs.declared.side.RunAnswer.{RunAnswer}
use Rattle.note_text.specs.Room.{Put}
use Rattle.note_text.specs.NoteText.{notes_in}
use Rattle.period_text.proofs.period.put_terminals.Given as goal

abbrev pub invariant-loop-i : goal.invariant-loop-i
invariant-loop-i l =
    (answer : RunAnswer) → answer.done1 ≡ l.done1 → answer.done2 ≡ l.done2
    → Put l.initial.room l.wrote (notes_in l.form (terminals_told l.period answer 0 (take l.i l.n-items))) l.at l.room
