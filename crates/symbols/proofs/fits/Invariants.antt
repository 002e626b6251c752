-- `symbols::fits` meets its contract: the answer is that of the codes passed and that of the codes from `code-index` on.
use Rattle.symbols.specs.Symbols.{within}
use Rattle.symbols.proofs.Scan.{Tested}
use Rattle.symbols.proofs.fits.Given as goal

abbrev pub invariant-loop-code : goal.invariant-loop-code
invariant-loop-code l = Tested (within l.top) l.s l.code-index l.ok
