-- Laws: nothing that comes later in a period changes what was taken from its lines: the statement.
-- `proofs/Later.antt` proves it.
-- Interface: none but for laws and proofs. Assumes nothing.
use Rattle.std.specs.Prelude.{◌≡◌, ℕ, ◌<◌}
use Rattle.symbols.specs.Symbols.{levels}
use Rattle.frame.specs.Four.{pick}
use Rattle.frame.specs.Bits.{d_bits}
use Rattle.frame.specs.Down.{e_bits}
use Rattle.bus_rules.specs.Bus.{Bus}
use Rattle.bus_rules.specs.Exchange.{e_comes, d_comes, opportunities_of, exchanged, whole_down, whole_up}
use Rattle.bus_rules.specs.Claims.{at}

-- Each of the four E and D is what stands in the lines of the period when all bits are known,
-- whatever the hit and whoever sends INFO 1.
abbrev pub AsTaken : Type 0
AsTaken =
    (b : Bus) (k : ℕ) → k < 4 →
    (e_comes (at (opportunities_of b) k) ≡ pick k (e_bits (levels (whole_down (exchanged b)))))
    × (d_comes (at (opportunities_of b) k) ≡ pick k (d_bits (levels (whole_up (exchanged b)))))
