use borrow.Author.Rules.{rules}
use Rattle.table_6_2.specs.Table62.{signal_received}
use Rattle.notes_and_cells.proofs.Rows.{settled}
use Rattle.table_6_2.proofs.signal_received.Goals as goal

pub returns-in-4 : goal.returns-in-4
returns-in-4 c = settled signal_received _ (search rules)

pub returns-in-5 : goal.returns-in-5
returns-in-5 c = settled signal_received _ (search rules)

pub returns-in-8 : goal.returns-in-8
returns-in-8 c = settled signal_received _ (search rules)

pub returns-in-2-to-3 : goal.returns-in-2-to-3
returns-in-2-to-3 c = settled signal_received _ (search rules)

pub returns-in_default : goal.returns-in_default
returns-in_default c = settled signal_received _ (search rules)

pub returns-in_default-2 : goal.returns-in_default-2
returns-in_default-2 c = settled signal_received _ (search rules)
