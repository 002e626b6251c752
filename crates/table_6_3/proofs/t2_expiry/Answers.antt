use borrow.Author.Rules.{rules}
use Rattle.table_6_3.specs.Table63.{t2_expiry}
use Rattle.notes_and_cells.proofs.Rows.{settled}
use Rattle.table_6_3.proofs.t2_expiry.Goals as goal

pub returns-in-4 : goal.returns-in-4
returns-in-4 c = settled t2_expiry _ (search rules)

pub returns-in-1-to-3 : goal.returns-in-1-to-3
returns-in-1-to-3 c = settled t2_expiry _ (search rules)

pub returns-in_default : goal.returns-in_default
returns-in_default c = settled t2_expiry _ (search rules)

pub returns-in_default-2 : goal.returns-in_default-2
returns-in_default-2 c = settled t2_expiry _ (search rules)
