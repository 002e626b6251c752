-- `number_of` meets its contract: three octets, each 0 where there is none.
use native.Mathlib.Omega.{arith}
use Rattle.std.proofs.lemmas.Grind.{common_steps}
use Rattle.std.proofs.lemmas.Option.{gets}
use Rattle.note_text.proofs.NumberLaws.{number_octets_lem}
use Rattle.note_text.proofs.value.number_of.Goals as goal

pub returns : goal.returns
returns c = grind (arith, common_steps, gets, number_octets_lem)
