use Rattle.table_6_2.proofs.Laws.{found_in_order}
use Rattle.terminal.proofs.Terminal.happens.Goals as goal

pub moves-requires : goal.moves-requires
moves-requires c = found_in_order c.args.event c.args.self.state c.cell.ensures c.in-To.is
