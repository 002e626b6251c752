use borrow.Author.Rules.{rules}
use Rattle.table_6_2.specs.Table62.{info4_received}
use Rattle.notes_and_cells.proofs.Rows.{settled}
use Rattle.table_6_2.proofs.info_4_received.Goals as goal

pub returns-in-2 : goal.returns-in-2
returns-in-2 c = settled info4_received _ (search rules)

pub returns-in-6 : goal.returns-in-6
returns-in-6 c = settled info4_received _ (search rules)

pub returns-in-7 : goal.returns-in-7
returns-in-7 c = settled info4_received _ (search rules)

pub returns-in-8 : goal.returns-in-8
returns-in-8 c = settled info4_received _ (search rules)

pub returns-in-3-to-5 : goal.returns-in-3-to-5
returns-in-3-to-5 c = settled info4_received _ (search rules)

pub returns-in_default : goal.returns-in_default
returns-in_default c = settled info4_received _ (search rules)

pub returns-in_default-2 : goal.returns-in_default-2
returns-in_default-2 c = settled info4_received _ (search rules)
