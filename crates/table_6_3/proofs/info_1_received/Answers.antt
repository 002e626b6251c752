use borrow.Author.Rules.{rules}
use Rattle.table_6_3.specs.Table63.{info1_received}
use Rattle.notes_and_cells.proofs.Rows.{settled}
use Rattle.table_6_3.proofs.info_1_received.Goals as goal

pub returns-in-1 : goal.returns-in-1
returns-in-1 c = settled info1_received _ (search rules)

pub returns-in-2 : goal.returns-in-2
returns-in-2 c = settled info1_received _ (search rules)

pub returns-in-4 : goal.returns-in-4
returns-in-4 c = settled info1_received _ (search rules)

pub returns-in_default : goal.returns-in_default
returns-in_default c = settled info1_received _ (search rules)
