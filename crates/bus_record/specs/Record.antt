-- Calls: the bus record (document 01, "Order inside a period" and "D access (6.1)"; document 02,
-- 2.1, for the cycle of Q and S bits).
-- Interface: every name. Assumes nothing.
use Rattle.std.specs.Prelude.{Bool, true, false, ◌&&◌}
use Rattle.timing.specs.Calls.{at_period, periods_in_range, opportunities_in_range}
use Rattle.network.specs.Calls.{network_in_range}
use Rattle.network.specs.Network as network
use Rattle.cycle.specs.Cycle as cycle
use Rattle.cycle.specs.Rest.{rests}
use Rattle.d_reader.specs.Counters.{fresh_reader}
use Rattle.d_reader.specs.ReaderRange.{reader_in_range}
use Rattle.timing.specs.declared.counts.Periods.{Periods}
use Rattle.timing.specs.declared.counts.Opportunities.{Opportunities}
use Rattle.network.specs.declared.Network.{Network}
use Rattle.d_reader.specs.declared.Reader.{Reader}
use Rattle.bus_record.specs.declared.record.BusRecord.{BusRecord}

-- "A fresh bus is in G1 .., unaligned, with no timer running"
abbrev pub fresh_record : BusRecord
fresh_record =
    record {
      network = network.fresh;
      periods = at_period 0;
      opportunities = record { 0 = 0 };
      reader = fresh_reader;
      cycle = cycle.fresh;
      echo = true;
      hit = false;
    }

-- A record with these fields, and what else it has as it was. Every change of a record is one of
-- these: no definition but this one, `fresh_record` and what octets stand for (bus_octets) names all
-- fields.
abbrev pub with_fields : Network → Periods → Opportunities → Reader → Bool → Bool → BusRecord → BusRecord
with_fields network periods opportunities reader echo hit r =
    record {
      network = network;
      periods = periods;
      opportunities = opportunities;
      reader = reader;
      cycle = r.cycle;
      echo = echo;
      hit = hit;
    }

-- Other periods and D opportunities run; another network end, with its reader; another last D;
-- whether a hit is pending.
abbrev pub with_counts : Periods → Opportunities → BusRecord → BusRecord
with_counts periods opportunities r = with_fields r.network periods opportunities r.reader r.echo r.hit r

abbrev pub with_network : Network → Reader → BusRecord → BusRecord
with_network network reader r = with_fields network r.periods r.opportunities reader r.echo r.hit r

abbrev pub with_echo : Bool → BusRecord → BusRecord
with_echo echo r = with_fields r.network r.periods r.opportunities r.reader echo r.hit r

abbrev pub with_hit : Bool → BusRecord → BusRecord
with_hit hit r = with_fields r.network r.periods r.opportunities r.reader r.echo hit r

-- Refusal 1: "A field of the bus record lies outside its range". While no call starts the cycle, a
-- cycle that does not rest is out of its range.
unfoldable pub record_in_range : BusRecord → Bool
record_in_range r =
    (((network_in_range r.network && periods_in_range r.periods) && opportunities_in_range r.periods r.opportunities)
    && reader_in_range r.reader)
    && rests r.cycle
