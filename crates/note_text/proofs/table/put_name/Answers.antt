-- `put_name` meets its contract: each code's part of the table is its name (proofs/NoteTable).
use native.Mathlib.Omega.{arith}
use Rattle.notes_and_cells.specs.Names.{printed, printed_as}
use Rattle.note_text.specs.LineParts.{named}
use Rattle.note_text.proofs.NoteTable.{name_lies, name_right}
use Rattle.note_text.proofs.table.put_name.Goals as goal

pub returns : goal.returns
unfolding named printed_as printed
returns c =
    rw (← name_right c.args.code c.min-k.result c.min-k.ensures, ← (name_lies c.min-k.result (omega (arith, c.min-k.ensures))).octets)
    c.put.ensures
