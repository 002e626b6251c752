use borrow.Author.Rules.{rules}
use Rattle.table_6_2.specs.Table62.{info_sent}
use Rattle.notes_and_cells.proofs.Rows.{settled_info}
use Rattle.table_6_2.proofs.info_sent.Goals as goal

pub returns-in-4 : goal.returns-in-4
returns-in-4 c = settled_info info_sent _ (search rules)

pub returns-in-6-to-7 : goal.returns-in-6-to-7
returns-in-6-to-7 c = settled_info info_sent _ (search rules)

pub returns-in_default : goal.returns-in_default
returns-in_default c = settled_info info_sent _ (search rules)

pub returns-in_default-2 : goal.returns-in_default-2
returns-in_default-2 c = settled_info info_sent _ (search rules)
