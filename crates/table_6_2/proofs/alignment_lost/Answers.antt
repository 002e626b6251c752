use borrow.Author.Rules.{rules}
use Rattle.table_6_2.specs.Table62.{alignment_lost}
use Rattle.notes_and_cells.proofs.Rows.{settled}
use Rattle.table_6_2.proofs.alignment_lost.Goals as goal

pub returns-in-8 : goal.returns-in-8
returns-in-8 c = settled alignment_lost _ (search rules)

pub returns-in-6-to-7 : goal.returns-in-6-to-7
returns-in-6-to-7 c = settled alignment_lost _ (search rules)

pub returns-in_default : goal.returns-in_default
returns-in_default c = settled alignment_lost _ (search rules)

pub returns-in_default-2 : goal.returns-in_default-2
returns-in_default-2 c = settled alignment_lost _ (search rules)
