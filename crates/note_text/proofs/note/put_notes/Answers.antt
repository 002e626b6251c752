-- `put_notes` meets its contract: after i turns the first i notes are put.
use mathlib.Core.List.{List, [], ◌∷◌}
use Prim.Native.Nat.{ℕ}
use lib.ListN.{take}
use lib.Seq.{take_all}
use Rattle.bus_rules.specs.Bus.{notes_of}
use Rattle.notes_and_cells.specs.Notes.{noted}
use Rattle.note_text.specs.NoteText.{notes_in}
use Rattle.note_text.proofs.RoomLaws.{put_start}
use Rattle.note_text.proofs.NoteLaws.{put_next, take_count}
use Rattle.note_text.proofs.note.put_notes.Goals as goal

pub loop-code-init : goal.loop-code-init
unfolding notes_in notes_of
loop-code-init c = put_start _ _ c.min-at.ensures

pub loop-code-preserved : goal.loop-code-preserved
loop-code-preserved c =
    put_next _ _ _ _ _ c.loop-code-test.true c.loop-code.invariant c.put_plain-at.ensures

pub returns : goal.returns
unfolding noted
returns c =
    let n = c.args.notes in
    let codes : List ℕ = n.1 ∷ n.2 ∷ n.3 ∷ n.4 ∷ [] in
    rw (← take_count codes n.0 c.min-count.result c.min-count.ensures, ← take_all c.loop-code.code-index (take c.min-count.result codes) c.loop-code-test.false)
    c.loop-code.invariant
