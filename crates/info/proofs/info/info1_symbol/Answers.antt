-- `info::info::info1_symbol` meets its contract.
use native.Mathlib.Omega.{arith}
use Rattle.info.proofs.Lines.{info1_plus, info1_minus, info1_none}
use Rattle.info.proofs.info.info1_symbol.Goals as goal

pub returns-in-0 : goal.returns-in-0
returns-in-0 c = info1_plus c.args.i c.requires c.in-0.is

pub returns-in-1 : goal.returns-in-1
returns-in-1 c = info1_minus c.args.i c.requires c.in-1.is

pub returns-in_default : goal.returns-in_default
returns-in_default c = info1_none c.args.i c.requires (λ e. omega arith) (λ e. omega arith)
