use borrow.Author.Rules.{rules}
use Rattle.table_6_3.specs.Table63.{alignment_lost}
use Rattle.notes_and_cells.proofs.Rows.{settled}
use Rattle.table_6_3.proofs.alignment_lost.Goals as goal

pub returns-in-3 : goal.returns-in-3
returns-in-3 c = settled alignment_lost _ (search rules)

pub returns-in-4 : goal.returns-in-4
returns-in-4 c = settled alignment_lost _ (search rules)

pub returns-in_default : goal.returns-in_default
returns-in_default c = settled alignment_lost _ (search rules)
