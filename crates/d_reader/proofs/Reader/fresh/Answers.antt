use Rattle.d_reader.proofs.ReadingKept.{stands_fresh}
use Rattle.d_reader.proofs.Reader.fresh.Goals as goal

pub returns-clause-by_index : goal.returns-clause-by_index
returns-clause-by_index c = stands_fresh
