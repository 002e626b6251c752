use native.Mathlib.Omega.{arith}
use Rattle.table_6_2.specs.Table62.{table62}
use Rattle.notes_and_cells.proofs.Rows.{no_row}
use Rattle.table_6_2.proofs.cell.Goals as goal

pub returns-in_default : goal.returns-in_default
returns-in_default c = no_row table62 _ _ (λ least most. omega arith)
