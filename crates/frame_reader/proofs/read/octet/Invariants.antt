-- `frame_reader::read::octet` meets its contract.
use Rattle.frame_reader.proofs.Octets.{Octet}
use Rattle.frame_reader.proofs.read.octet.Given as goal

abbrev pub invariant-loop-symbol : goal.invariant-loop-symbol
invariant-loop-symbol l = Octet l.symbols l.n l.symbol-index
