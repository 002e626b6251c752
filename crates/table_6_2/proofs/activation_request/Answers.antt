use borrow.Author.Rules.{rules}
use Rattle.table_6_2.specs.Table62.{activation_request}
use Rattle.notes_and_cells.proofs.Rows.{settled}
use Rattle.table_6_2.proofs.activation_request.Goals as goal

pub returns-in-2 : goal.returns-in-2
returns-in-2 c = settled activation_request _ (search rules)

pub returns-in-3 : goal.returns-in-3
returns-in-3 c = settled activation_request _ (search rules)

pub returns-in-6 : goal.returns-in-6
returns-in-6 c = settled activation_request _ (search rules)

pub returns-in-7 : goal.returns-in-7
returns-in-7 c = settled activation_request _ (search rules)

pub returns-in-8 : goal.returns-in-8
returns-in-8 c = settled activation_request _ (search rules)

pub returns-in-4-to-5 : goal.returns-in-4-to-5
returns-in-4-to-5 c = settled activation_request _ (search rules)

pub returns-in_default : goal.returns-in_default
returns-in_default c = settled activation_request _ (search rules)

pub returns-in_default-2 : goal.returns-in_default-2
returns-in_default-2 c = settled activation_request _ (search rules)
