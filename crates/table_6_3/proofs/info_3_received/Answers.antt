use borrow.Author.Rules.{rules}
use Rattle.table_6_3.specs.Table63.{info3_received}
use Rattle.notes_and_cells.proofs.Rows.{settled}
use Rattle.table_6_3.proofs.info_3_received.Goals as goal

pub returns-in-2 : goal.returns-in-2
returns-in-2 c = settled info3_received _ (search rules)

pub returns-in-3-to-4 : goal.returns-in-3-to-4
returns-in-3-to-4 c = settled info3_received _ (search rules)

pub returns-in_default : goal.returns-in_default
returns-in_default c = settled info3_received _ (search rules)

pub returns-in_default-2 : goal.returns-in_default-2
returns-in_default-2 c = settled info3_received _ (search rules)
