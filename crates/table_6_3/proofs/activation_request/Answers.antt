use borrow.Author.Rules.{rules}
use Rattle.table_6_3.specs.Table63.{activation_request}
use Rattle.notes_and_cells.proofs.Rows.{settled}
use Rattle.table_6_3.proofs.activation_request.Goals as goal

pub returns-in-1 : goal.returns-in-1
returns-in-1 c = settled activation_request _ (search rules)

pub returns-in-4 : goal.returns-in-4
returns-in-4 c = settled activation_request _ (search rules)

pub returns-in-2-to-3 : goal.returns-in-2-to-3
returns-in-2-to-3 c = settled activation_request _ (search rules)

pub returns-in_default : goal.returns-in_default
returns-in_default c = settled activation_request _ (search rules)

pub returns-in_default-2 : goal.returns-in_default-2
returns-in_default-2 c = settled activation_request _ (search rules)
