use borrow.Author.Rules.{rules}
use Rattle.table_6_3.specs.Table63.{info0_received}
use Rattle.notes_and_cells.proofs.Rows.{settled}
use Rattle.table_6_3.proofs.info_0_received.Goals as goal

pub returns-in-3 : goal.returns-in-3
returns-in-3 c = settled info0_received _ (search rules)

pub returns-in-4 : goal.returns-in-4
returns-in-4 c = settled info0_received _ (search rules)

pub returns-in-1-to-2 : goal.returns-in-1-to-2
returns-in-1-to-2 c = settled info0_received _ (search rules)

pub returns-in_default : goal.returns-in_default
returns-in_default c = settled info0_received _ (search rules)

pub returns-in_default-2 : goal.returns-in_default-2
returns-in_default-2 c = settled info0_received _ (search rules)
