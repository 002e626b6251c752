use borrow.Author.Rules.{rules}
use Rattle.table_6_2.specs.Table62.{power_off}
use Rattle.notes_and_cells.proofs.Rows.{settled}
use Rattle.table_6_2.proofs.power_off.Goals as goal

pub returns-in-1 : goal.returns-in-1
returns-in-1 c = settled power_off _ (search rules)

pub returns-in-2 : goal.returns-in-2
returns-in-2 c = settled power_off _ (search rules)

pub returns-in-3 : goal.returns-in-3
returns-in-3 c = settled power_off _ (search rules)

pub returns-in-4-to-8 : goal.returns-in-4-to-8
returns-in-4-to-8 c = settled power_off _ (search rules)

pub returns-in_default : goal.returns-in_default
returns-in_default c = settled power_off _ (search rules)

pub returns-in_default-2 : goal.returns-in_default-2
returns-in_default-2 c = settled power_off _ (search rules)
