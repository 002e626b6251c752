-- Laws: the D channel of a bus, as crate `contention` has it: who is in F7, the D access and the
-- body of each terminal, the last D heard, and the reader. Of a frame the channel has the body
-- alone, where the bus also has the bits that are sent.
-- Interface: none but for laws and proofs. Assumes nothing.
use Rattle.std.specs.Prelude.{List, map, ◌≡◌, ℕ, get_or}
use Rattle.hdlc.specs.Image.{image}
use Rattle.contention.specs.Channel.{Contender, Channel}
use Rattle.bus_rules.specs.Bus.{Station, Bus, fresh_station}
use Rattle.bus_rules.specs.Exchange.{in_f7}

abbrev pub contender_of : Station → Contender
contender_of s = record { active = in_f7 s; access = s.terminal.access; body = s.body }

abbrev pub contenders_of : List Station → List Contender
contenders_of ss = map contender_of ss

-- the channel as a call finds it
unfoldable pub channel_of : Bus → Channel
channel_of b = record { contenders = contenders_of b.stations; heard_d = b.heard_d; reading = b.reading }

-- The bits that a terminal sends are those of its body's image.
abbrev pub Imaged : Station → Type 0
Imaged s = s.image ≡ image s.body

-- by index: past the last stands a fresh one, of which it is true
abbrev pub AllImaged : List Station → Type 0
AllImaged ss = (i : ℕ) → Imaged (get_or ss i fresh_station)
