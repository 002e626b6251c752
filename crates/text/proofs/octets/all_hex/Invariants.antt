-- `octets::all_hex` meets its contract: the answer is that of the octets passed and that of the octets from there on.
use Rattle.symbols.proofs.Scan.{Tested}
use Rattle.text.specs.Text.{all, is_hex}
use Rattle.text.proofs.octets.all_hex.Given as goal

abbrev pub invariant-loop-c : goal.invariant-loop-c
invariant-loop-c l = Tested (all is_hex) l.text l.c-index l.ok
