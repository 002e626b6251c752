-- Rules: the bus (document 01, "Order inside a period" and "D access (6.1)"): one network end,
-- terminals 1 to 8, what the record counts, and the cycle of Q and S bits (document 02, 2.1).
-- Interface: `Station`, `Hit`, `Bus`, `terminals`, `fresh_station`, `with_terminal`, `station_at`,
-- `fresh_bus`, `with_fields`, `with_counts`, `with_network`, `with_heard_d`, `with_hit`, `with_cycle`,
-- `with_stations`, `Note`, `notes_of`. Assumes nothing.
use Rattle.std.specs.Prelude.{Bool, true, List, [], ◌∷◌, ℕ, get_or, replicate}
use Rattle.hdlc.specs.Image.{image}
use Rattle.hdlc.specs.Reading.{Reading, cleared}
use Rattle.cycle.specs.Cycle as cycle
use Rattle.cycle.specs.declared.record.Cycle.{Cycle}
use Rattle.network.specs.Network as network
use Rattle.terminal.specs.Terminal as terminal
use Rattle.network.specs.declared.Network.{Network}
use Rattle.terminal.specs.declared.Terminal.{Terminal}

-- A terminal with the frame that it holds, where it holds one.
pub record Station : Type 0 where
  pub terminal : Terminal
  -- the bits of the frame's image
  pub image : List Bool
  -- the body that was given with `d1` or `d2`: no rule looks at it, only the words of demand 3 do
  pub body : List ℕ

-- The hit that is given for the coming exchange, 48 letters.
pub data Hit : Type 0 where
  none : Hit
  given : List ℕ → Hit

pub record Bus : Type 0 where
  -- periods run, which is the number of the period that comes next, and D opportunities run
  pub periods : ℕ
  pub opportunities : ℕ
  pub network : Network
  -- the reader of D, over the raw bits that it has read
  pub reading : Reading
  -- the last combined D that the network end heard
  pub heard_d : Bool
  pub hit : Hit
  -- the cycle of Q and S bits: nothing starts it yet
  pub cycle : Cycle
  -- terminal 1 first
  pub stations : List Station

-- "terminals 1 to 8"
abbrev pub terminals : ℕ
terminals = 8

-- no frame is held: nothing looks at image and body
abbrev pub fresh_station : Station
fresh_station = record { terminal = terminal.fresh; image = image []; body = [] }

-- another state of the terminal: the image and the body that stand beside it stay
abbrev pub with_terminal : Terminal → Station → Station
with_terminal t s = record { terminal = t; image = s.image; body = s.body }

-- the terminal at an index, its unit less 1
abbrev pub station_at : ℕ → Bus → Station
station_at i b = get_or b.stations i fresh_station

-- "A fresh bus is in G1 and F1, unaligned, with no timer running and all levels normal." The last D
-- heard is 1 (docs/DECISIONS.md, reading 4).
abbrev pub fresh_bus : Bus
fresh_bus =
    record {
      periods = 0;
      opportunities = 0;
      network = network.fresh;
      reading = cleared;
      heard_d = true;
      hit = Hit.none;
      cycle = cycle.fresh;
      stations = replicate terminals fresh_station;
    }

-- A bus with these fields, and what else it has as it was. Every change of a bus is one of these: no
-- rule but this one and `fresh_bus` names all fields.
abbrev pub with_fields : ℕ → ℕ → Network → Reading → Bool → Hit → Cycle → List Station → Bus → Bus
with_fields periods opportunities network reading heard_d hit cycle stations b =
    record {
      periods = periods;
      opportunities = opportunities;
      network = network;
      reading = reading;
      heard_d = heard_d;
      hit = hit;
      cycle = cycle;
      stations = stations;
    }

-- Other periods and D opportunities run; another network end, with its reader; another last D;
-- another hit; another cycle; other terminals.
abbrev pub with_counts : ℕ → ℕ → Bus → Bus
with_counts periods opportunities b =
    with_fields periods opportunities b.network b.reading b.heard_d b.hit b.cycle b.stations b

abbrev pub with_network : Network → Reading → Bus → Bus
with_network network reading b =
    with_fields b.periods b.opportunities network reading b.heard_d b.hit b.cycle b.stations b

abbrev pub with_heard_d : Bool → Bus → Bus
with_heard_d heard_d b =
    with_fields b.periods b.opportunities b.network b.reading heard_d b.hit b.cycle b.stations b

abbrev pub with_hit : Hit → Bus → Bus
with_hit hit b =
    with_fields b.periods b.opportunities b.network b.reading b.heard_d hit b.cycle b.stations b

abbrev pub with_cycle : Cycle → Bus → Bus
with_cycle cycle b =
    with_fields b.periods b.opportunities b.network b.reading b.heard_d b.hit cycle b.stations b

abbrev pub with_stations : List Station → Bus → Bus
with_stations stations b =
    with_fields b.periods b.opportunities b.network b.reading b.heard_d b.hit b.cycle stations b

-- A note: "The fields are the period, the unit, the note and its value." The note is its code, and
-- the value of MPH-II is in its code; the value of `heard` is the body, that of `q` and `s` a number
-- as octets, low-order first; others have none. `refused` is the book's: no call has a note of it.
pub record Note : Type 0 where
  pub period : ℕ
  pub unit : ℕ
  pub code : ℕ
  pub value : List ℕ

-- The notes of a unit that have no value, by their codes.
unfoldable pub notes_of : ℕ → ℕ → List ℕ → List Note
notes_of now unit [] = []
notes_of now unit (code ∷ codes) = record { period = now; unit = unit; code = code; value = [] } ∷ notes_of now unit codes
