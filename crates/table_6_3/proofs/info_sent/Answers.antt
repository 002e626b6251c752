use borrow.Author.Rules.{rules}
use Rattle.table_6_3.specs.Table63.{info_sent}
use Rattle.notes_and_cells.proofs.Rows.{settled_info}
use Rattle.table_6_3.proofs.info_sent.Goals as goal

pub returns-in-2 : goal.returns-in-2
returns-in-2 c = settled_info info_sent _ (search rules)

pub returns-in-3 : goal.returns-in-3
returns-in-3 c = settled_info info_sent _ (search rules)

pub returns-in_default : goal.returns-in_default
returns-in_default c = settled_info info_sent _ (search rules)
