-- `open_as` meets its contract: the table is the codes that leave something open (proofs/NoteTable), and none of the codes passed is the one looked
-- for.
use Rattle.text.proofs.Lookup.{Looking}
use Rattle.note_text.specs.declared.table.OpenValue.TheVariants.{Nothing}
use Rattle.note_text.proofs.NoteTable.{open_codes}
use Rattle.note_text.proofs.table.open_as.Given as goal

abbrev pub invariant-loop-open : goal.invariant-loop-open
invariant-loop-open l = Looking Nothing l.code open_codes l.open-index
