use borrow.Author.Rules.{rules}
use Rattle.table_6_2.specs.Table62.{t3_expiry}
use Rattle.notes_and_cells.proofs.Rows.{settled}
use Rattle.table_6_2.proofs.t3_expiry.Goals as goal

pub returns-in-3 : goal.returns-in-3
returns-in-3 c = settled t3_expiry _ (search rules)

pub returns-in-6 : goal.returns-in-6
returns-in-6 c = settled t3_expiry _ (search rules)

pub returns-in-8 : goal.returns-in-8
returns-in-8 c = settled t3_expiry _ (search rules)

pub returns-in-4-to-5 : goal.returns-in-4-to-5
returns-in-4-to-5 c = settled t3_expiry _ (search rules)

pub returns-in_default : goal.returns-in_default
returns-in_default c = settled t3_expiry _ (search rules)

pub returns-in_default-2 : goal.returns-in_default-2
returns-in_default-2 c = settled t3_expiry _ (search rules)
