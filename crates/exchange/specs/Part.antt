-- How the code goes: one terminal's part in a D opportunity, with the images that are lent: eight
-- of them one after the other, each in octets for the longest. The law `exchange_shown`
-- (Shown.antt) holds it to crate `bus_rules`.
-- Interface: `image_of`, `image_bit`, `station_in`, `terminal_after_e`, `tally_with`, `taken`. Assumes
-- nothing.
use Rattle.std.specs.Prelude.{Bool, true, cond, List, [], ◌∷◌, ℕ, zero, suc, ◌+◌, ◌*◌, ltb}
use Rattle.packing.specs.Packing.{image_room, packed_bit}
use Rattle.terminal.specs.declared.Terminal.{Terminal}
use Rattle.bus_rules.specs.Bus.{Station, terminals}
use Rattle.bus_rules.specs.Exchange.{station_after_e, access_step_of, d_of, in_f7}
use Rattle.exchange.specs.Tally.{also}
use Rattle.exchange.specs.declared.tally.Tally.{Tally}
use Rattle.exchange.specs.declared.part.Part.{Part}

-- the bits of one image's room
abbrev pub image_bits : ℕ
image_bits = 8 * image_room

-- n bits of packed octets from bit `at` on
unfoldable pub bits_from : List ℕ → ℕ → ℕ → List Bool
bits_from images at zero = []
bits_from images at (suc n) = packed_bit images at ∷ bits_from images (suc at) n

-- the bits lent with terminal i
unfoldable pub image_of : List ℕ → ℕ → List Bool
image_of images i = cond (ltb i terminals) (bits_from images (i * image_bits) image_bits) []

-- bit number `sent` of them, from 0; 1 where there is none
unfoldable pub image_bit : List ℕ → ℕ → ℕ → Bool
image_bit images i sent = cond (ltb i terminals) (cond (ltb sent image_bits) (packed_bit images (i * image_bits + sent)) true) true

-- terminal i with what is lent for it
abbrev pub station_in : List ℕ → ℕ → Terminal → Station
station_in images i t = record { terminal = t; image = image_of images i; body = [] }

-- a terminal after the E that has come
unfoldable pub terminal_after_e : List ℕ → Bool → ℕ → Terminal → Terminal
terminal_after_e images e i t = (station_after_e e (station_in images i t)).terminal

-- the class of the frame that it completes at this E, 0 for none
unfoldable pub completed_class : List ℕ → Bool → ℕ → Terminal → ℕ
completed_class images e i t = cond (in_f7 (station_in images i t)) (access_step_of e (station_in images i t)).done 0

-- the tally with terminal i added
unfoldable pub tally_with : List ℕ → ℕ → Tally → Terminal → Tally
tally_with images i m t = also t.state (d_of m.e (station_in images i t)) (completed_class images m.e i t) m

unfoldable pub taken : List ℕ → ℕ → Tally → Terminal → Part
taken images i m t = record { terminal = terminal_after_e images m.e i t; tally = tally_with images i m t }
