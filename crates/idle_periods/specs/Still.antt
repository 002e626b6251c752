-- How the code goes: a bus is still when a period hands back no notes and changes nothing but the
-- counts: periods run and, in G3, D opportunities run. From there as many periods as lie before the
-- next timer, the number asked for and 4,000,000 are one step. By a test that holds of still buses
-- alone; the law `leap` (Leap.antt) holds it to single periods.
-- Interface: every name. Assumes nothing.
use Rattle.std.specs.Prelude.{Bool, true, false, cond, not, ◌&&◌, ◌||◌, List, ℕ, ◌+◌, ◌-◌, eqb, leb}
use Rattle.slice_lemmas.specs.Over.{fold_from}
use Rattle.notes_and_cells.specs.Cells.{info_in}
use Rattle.table_6_2.specs.Table62.{info_sent}
use Rattle.table_6_3.specs.Table63.{G3}
use Rattle.timing.specs.Counts.{most_periods}
use Rattle.timing.specs.Calls.{at_period}
use Rattle.timing.specs.Clear.{clear}
use Rattle.network.specs.declared.Network.{Network}
use Rattle.terminal.specs.declared.Terminal.{Terminal}
use Rattle.bus_rules.specs.Quick.{shown_by, shown_from}
use Rattle.exchange.specs.Rest.{part_rests}
use Rattle.period_hearing.specs.Hears.{rests}
use Rattle.bus_record.specs.Reading.{reader_waits}
use Rattle.bus_record.specs.NetworkSide.{network_rests, counted_over}
use Rattle.bus_record.specs.Record.{with_counts}
use Rattle.bus_record.specs.declared.record.BusRecord.{BusRecord}
use Rattle.idle_periods.specs.declared.ahead.Ahead.{Ahead}

-- ---- The network end.

-- no hit is pending, D was 1, and in G3 the reader waits
unfoldable pub quiet : BusRecord → Bool
quiet b = (not b.hit && b.echo) && cond (eqb b.network.state G3) (reader_waits b.reader) true

-- as far as its own timers and `left`, the periods left to run, allow: one of these stays to be run
-- after the step. The last period that a bus can run bounds it as a timer does. 0 where the bus is
-- not quiet.
unfoldable pub farthest : BusRecord → ℕ → ℕ
farthest b left =
    let now = b.periods.0 in
    cond (quiet b) (clear now (clear now (clear now (left - 1) most_periods) b.network.t1) b.network.t2) 0

-- ---- All units: the network end first, and then the terminals.
unfoldable pub first_ahead : BusRecord → ℕ → Ahead
first_ahead b left = record { over = farthest b left; now = b.periods; line = shown_by b.network.state; info1 = false; info3 = false }

-- as far as one terminal more allows: it takes no part in the exchange and hears what it heard
-- before, until its timer is due
unfoldable pub over_with : Ahead → Terminal → ℕ
over_with a t = cond (rests a.line t && part_rests true t) (clear a.now.0 a.over t.t3) 0

unfoldable pub also_ahead : ℕ → Ahead → Terminal → Ahead
also_ahead i a t =
    let info = info_in info_sent t.state in
    record { over = over_with a t; now = a.now; line = a.line; info1 = a.info1 || eqb info 1; info3 = a.info3 || eqb info 3 }

-- as far as all units allow: the network end hears what it heard before
unfoldable pub reached : Network → Ahead → ℕ
reached n a = cond (network_rests (shown_from a.info1 a.info3) n) a.over 0

-- how many periods the bus is found still for, with `left` periods left to run; 0 where it is not
-- still
unfoldable pub reach : BusRecord → List Terminal → ℕ → ℕ
reach b ts left = reached b.network (fold_from also_ahead 0 (first_ahead b left) ts)

-- ---- The step: `over` periods more, in G3 four times as many D opportunities, and all else as it
-- was.
unfoldable pub leapt : ℕ → BusRecord → BusRecord
leapt over b =
    cond (leb (b.periods.0 + over) most_periods)
    (with_counts (at_period (b.periods.0 + over)) (counted_over b.network.state over b.opportunities) b)
    b
