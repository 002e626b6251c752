-- Rules: a period (document 01, "Lists and stretches"): "exchange, hearing, then the timers due at
-- the next one's start".
-- Interface: `reading_after`, `network_now`, `network_hears`, `stepped`, `done_codes`, `mask_of`,
-- `cycle_after`, `heard_by`, `period_run`, `period_notes`. Assumes nothing.
use Rattle.std.specs.Prelude.{Bool, cond, List, [], ◌∷◌, map, ℕ, ◌+◌, eqb}
use Rattle.symbols.specs.Symbols.{levels}
use Rattle.frame.specs.Bits.{fa_bit}
use Rattle.frame.specs.Down.{s_bit}
use Rattle.cycle.specs.Cycle.{heard_in}
use Rattle.cycle.specs.declared.record.Cycle.{Cycle}
use Rattle.notes_and_cells.specs.Notes.{HEARD, TORN, DONE1, DONE2, noted}
use Rattle.table_6_3.specs.Table63.{G3}
use Rattle.hdlc.specs.Bits.{number_low_first}
use Rattle.hdlc.specs.Reading.{Reading, Said, cleared}
use Rattle.hdlc.specs.Reading.Said.{nothing, torn, heard}
use Rattle.heard_line.specs.Sensing.{shown_up, shown_down}
use Rattle.network.specs.Network as network
use Rattle.terminal.specs.Terminal as terminal
use Rattle.network.specs.declared.Network.{Network}
use Rattle.network.specs.Steps.{NetworkStep}
use Rattle.terminal.specs.declared.Terminal.{Terminal}
use Rattle.terminal.specs.Steps.{TerminalStep}
use Rattle.bus_rules.specs.Bus.{Station, Hit, Bus, Note, with_terminal, with_counts, with_network, with_heard_d, with_hit, with_cycle}
use Rattle.bus_rules.specs.Bus.{with_stations}
use Rattle.bus_rules.specs.Order.{ByUnit, d_first, no_cycle, period_in_order}
use Rattle.bus_rules.specs.Exchange.{Sender, Opportunity, stations_of, in_f7, in_g3, exchanged, whole_down, whole_up}
use Rattle.bus_rules.specs.CycleNotes.{cycle_notes}

-- "Leaving G3 clears the reader silently."
unfoldable pub reading_after : ℕ → ℕ → Reading → Reading
reading_after from to r = cond (eqb from G3) (cond (eqb to G3) r cleared) r

-- Another network end, with its reader at `reading` but where G3 is left.
abbrev pub network_now : Network → Reading → Bus → Bus
network_now n reading b = with_network n (reading_after b.network.state n.state reading) b

-- What the network end and a terminal hear of a line.
unfoldable pub network_hears : List ℕ → ℕ → Network → NetworkStep
network_hears up now n = network.hears (shown_up up) now n

unfoldable pub terminal_hears : List ℕ → ℕ → Terminal → TerminalStep
terminal_hears down now t = terminal.hears (shown_down down) now t

-- One step of a terminal.
unfoldable pub stepped : (Terminal → TerminalStep) → Station → Station
stepped f s = with_terminal (f s.terminal).terminal s

-- ---- What is noted; Order.antt has the order.

-- what the reader has said
unfoldable pub said_notes : ℕ → List Said → List Note
said_notes now [] = []
said_notes now (nothing ∷ more) = said_notes now more
said_notes now (torn ∷ more) = record { period = now; unit = 0; code = TORN; value = [] } ∷ said_notes now more
said_notes now (heard body ∷ more) = record { period = now; unit = 0; code = HEARD; value = body } ∷ said_notes now more

-- the frames completed, by their classes
unfoldable pub done_codes : List ℕ → List ℕ
done_codes [] = []
done_codes (class ∷ more) = cond (eqb class 1) DONE1 DONE2 ∷ done_codes more

-- the codes of what a terminal notes as it hears, and as its timer is due
abbrev pub hearing_codes : List ℕ → ℕ → Sender → List ℕ
hearing_codes down now s = d_first (done_codes s.done) (noted (terminal_hears down now s.station.terminal).notes)

abbrev pub timer_codes : ℕ → Station → List ℕ
timer_codes now s = noted (terminal.timer now s.terminal).notes

-- ---- The cycle after the exchange m: from the upward FA and the downward S as they are heard, and
-- from who is in G3 and in F7 at the exchange.

-- which of some terminals a test holds of, as a mask: the first is the lowest bit
abbrev pub mask_of : (Station → Bool) → List Station → ℕ
mask_of test ss = number_low_first (map test ss)

unfoldable pub cycle_after : Opportunity → Cycle
cycle_after m =
    heard_in (fa_bit (levels (whole_up m))) (s_bit (levels (whole_down m))) (in_g3 m) (mask_of in_f7 (stations_of m.senders)) m.cycle

-- ---- Hearing, unit 0 first, after the exchange m. "The record counts periods run and D
-- opportunities run, four for each period whose lines leave the network end in G3": the book's
-- lines, which come before the exchange.
unfoldable pub heard_by : Opportunity → Bus → Bus
heard_by m b =
    with_counts (b.periods + 1) (b.opportunities + cond (eqb b.network.state G3) 4 0)
    (network_now (network_hears (whole_up m) b.periods b.network).network m.reading
    (with_stations (map (stepped (terminal_hears (whole_down m) b.periods)) (stations_of m.senders))
    (with_heard_d m.heard_d (with_hit Hit.none (with_cycle (cycle_after m) b)))))

abbrev pub heard_by_unit : Opportunity → Bus → ByUnit
heard_by_unit m b =
    record {
      reader = said_notes b.periods m.saids;
      network = noted (network_hears (whole_up m) b.periods b.network).notes;
      terminals = map (hearing_codes (whole_down m) b.periods) m.senders;
      cycle = cycle_notes b.periods (cycle_after m);
    }

-- ---- "Timers that are due (unit 0, then 1 to 8)", at the start of the period that comes.
unfoldable pub timed : Bus → Bus
timed b =
    network_now (network.timers b.periods b.network).network b.reading
    (with_stations (map (stepped (terminal.timer b.periods)) b.stations) b)

abbrev pub timed_by_unit : Bus → ByUnit
timed_by_unit b =
    record {
      reader = [];
      network = noted (network.timers b.periods b.network).notes;
      terminals = map (timer_codes b.periods) b.stations;
      cycle = no_cycle;
    }

-- ---- The whole.
unfoldable pub period_run : Bus → Bus
period_run b = timed (heard_by (exchanged b) b)

unfoldable pub period_notes : Bus → List Note
period_notes b = period_in_order b.periods (heard_by_unit (exchanged b) b) (timed_by_unit (heard_by (exchanged b) b))
