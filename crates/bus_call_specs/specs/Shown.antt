-- Calls: the bus that a record and what is lent with it show. Its reader is apart, in counters and
-- octets: what is exchanged and heard does not depend on it.
-- Interface: `record_shown`, `bare`, `bus_in`. Assumes nothing.
use Rattle.std.specs.Prelude.{List, [], ℕ}
use Rattle.slice_lemmas.specs.Over.{map_from}
use Rattle.hdlc.specs.Reading.{cleared}
use Rattle.bus_rules.specs.Bus.{Bus, with_network, with_stations}
use Rattle.exchange.specs.Part.{station_in}
use Rattle.bus_record.specs.Echo.{hit_in}
use Rattle.bus_record.specs.declared.record.BusRecord.{BusRecord}
use Rattle.bus_call_specs.specs.Kept.{Kept}

-- what a record shows with the letters of a hit: all of a bus but its reader and its terminals
abbrev pub record_shown : BusRecord → List ℕ → Bus
record_shown r letters =
    record {
      periods = r.periods.0;
      opportunities = r.opportunities.0;
      network = r.network;
      reading = cleared;
      heard_d = r.echo;
      hit = hit_in r.hit letters;
      cycle = r.cycle;
      stations = [];
    }

-- a bus without its reader and its terminals
abbrev pub bare : Bus → Bus
bare b = with_network b.network cleared (with_stations [] b)

unfoldable pub bus_in : Kept → Bus
bus_in k = with_stations (map_from (station_in k.images) 0 k.terminals) (record_shown k.bus k.letters)
