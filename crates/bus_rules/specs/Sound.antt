-- Laws: a sound bus: what every list of calls leaves, whatever sound bus it starts from; and demand
-- 3 of all lists from such a bus. The fresh bus is one. The statements are types;
-- `proofs/Sound.antt` and `proofs/Demand3.antt` prove each under the same name in small letters.
-- Interface: none but for laws and proofs. Assumes nothing.
use Rattle.std.specs.Prelude.{true, false, List, [], ◌∷◌, ◌≡◌, ℕ, ◌*◌, ◌-◌, ◌≤◌, length, replicate}
use Rattle.table_6_2.specs.Table62.{F7}
use Rattle.hdlc.specs.Image.{image, IsBody}
use Rattle.dchannel.specs.Access.{normal2}
use Rattle.contention.specs.Invariant.{Invariant}
use Rattle.timing.specs.Counts.{most_periods}
use Rattle.alignment.specs.Alignment.{in_alignment}
use Rattle.terminal.specs.Terminal as terminal
use Rattle.bus_rules.specs.Bus.{Station, Bus, terminals, fresh_station, station_at, fresh_bus, with_counts, with_stations}
use Rattle.bus_rules.specs.Calls.{Call, after, after_all}
use Rattle.bus_rules.specs.Ranges.{InRange}
use Rattle.bus_rules.specs.Stretch.{Stretch}
use Rattle.bus_rules.specs.Claims.{ClaimedFrom, ClaimedOfLists}
use Rattle.bus_rules.specs.BusChannel.{channel_of, AllImaged}

pub record Sound (b : Bus) : Type 0 where
  -- every frame is sent as its body's image
  pub imaged : AllImaged b.stations
  -- what holds of the D channel after every list of actions holds of the bus's
  pub channel : Invariant normal2 (channel_of b)
  pub in_range : InRange b

abbrev pub SoundFresh : Type 0
SoundFresh = Sound fresh_bus

-- every call, refused or not, and so every list of calls
abbrev pub SoundKept : Type 0
SoundKept = (b : Bus) (c : Call) → Sound b → Sound (after b c)

abbrev pub SoundAfter : Type 0
SoundAfter = (b : Bus) (calls : List Call) → Sound b → Sound (after_all b calls)

-- a frame that one of its terminals holds has a body, and the bits to send are that body's image:
-- so it is with the body that an accepted `d1` or `d2` gives
abbrev pub SoundHeld : Type 0
SoundHeld =
    (b : Bus) (i : ℕ) → Sound b → 1 ≤ (station_at i b).terminal.access.held →
    IsBody (station_at i b).body
    × ((station_at i b).image ≡ image (station_at i b).body)
    × ((station_at i b).terminal.access.length ≡ length (image (station_at i b).body))

-- ---- Demand 3 of every stretch from a sound bus, and so of every list from it and every stretch of
-- that: with the fresh bus this is `Demand3` (Claims.antt).
abbrev pub Demand3From : Type 0
Demand3From = (b : Bus) (during : List Call) → Sound b → Stretch b during → ClaimedFrom b during

abbrev pub Demand3OfLists : Type 0
Demand3OfLists = (b : Bus) → Sound b → ClaimedOfLists b

-- ---- Not every bus is sound: these three are not, each for another of the three facts.

-- the bits to send are no image
abbrev pub without_images : Bus
without_images = with_stations (replicate terminals (record { terminal = terminal.fresh; image = []; body = [] })) fresh_bus

-- two terminals in F7 that send, one of them three bits ahead
abbrev pub sending_at : ℕ → Station
sending_at sent =
    record {
      terminal =
          terminal.with_fields 0
          (record { length = 24; sent = sent; count = 0; held = 1; low1 = false; low2 = false; last = true })
          F7 (in_alignment 0) terminal.fresh;
      image = image (0 ∷ []);
      body = 0 ∷ [];
    }

abbrev pub out_of_phase : Bus
out_of_phase = with_stations (sending_at 2 ∷ sending_at 5 ∷ replicate (terminals - 2) fresh_station) fresh_bus

-- one terminal too few
abbrev pub with_seven : Bus
with_seven = with_stations (replicate (terminals - 1) fresh_station) fresh_bus

pub record NotSound : Type 0 where
  pub without_images_lem : Sound without_images → ⊥
  pub out_of_phase_lem : Sound out_of_phase → ⊥
  pub with_seven_lem : Sound with_seven → ⊥

-- ---- And a sound bus need not be one that a list of calls from the fresh bus leads to: whatever it
-- has counted, within the ranges, it is sound, and lists count D opportunities by fours. Stretches
-- start there, too (Exists.antt).
abbrev pub SoundCounted : Type 0
SoundCounted =
    (b : Bus) (periods opportunities : ℕ) → periods ≤ most_periods → opportunities ≤ 4 * periods → Sound b →
    Sound (with_counts periods opportunities b)
