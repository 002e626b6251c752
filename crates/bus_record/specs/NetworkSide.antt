-- How the code goes: the network end's side of a period: it reads D, hears the upward line, and
-- then come the timers due at the next one's start. Crate `bus_call_specs`' law `step_shown` holds
-- it to document 01's period.
-- Interface: `no_notes`, `leaves_g3`, `reader_after`, `network_listens`, `network_rests`,
-- `counted_after`, `counted_over`, `answer_with`, `answer_after`, `octets_after`, `refused_run`. Assumes nothing.
use Rattle.std.specs.Prelude.{Bool, false, cond, not, ◌&&◌, ◌||◌, List, ℕ, ◌+◌, ◌*◌, eqb, ltb, leb}
use Rattle.table_6_3.specs.Table63.{G1, G2, G3, G4}
use Rattle.timing.specs.Counts.{most_periods}
use Rattle.timing.specs.Calls.{next_period, four_more}
use Rattle.timing.specs.declared.counts.Periods.{Periods}
use Rattle.timing.specs.declared.counts.Opportunities.{Opportunities}
use Rattle.heard_line.specs.declared.heard.Upward.{Upward}
use Rattle.network.specs.Calls as networkCalls
use Rattle.network.specs.declared.Network.{Network}
use Rattle.network.specs.Steps.{NetworkStep}
use Rattle.d_reader.specs.Counters.{fresh_reader}
use Rattle.d_reader.specs.declared.Reader.{Reader}
use Rattle.bus_rules.specs.Quick.{shown_from}
use Rattle.exchange.specs.declared.tally.Tally.{Tally}
pub use Rattle.period_hearing.specs.Hears.{no_notes}
use Rattle.period_hearing.specs.declared.hears.UnitNotes.{UnitNotes}
use Rattle.bus_record.specs.Reading.{said_note, said_body, read_in, octets_in}
use Rattle.bus_record.specs.Record.{with_counts, with_network, with_echo, with_hit}
use Rattle.bus_record.specs.declared.record.BusRecord.{BusRecord}
use Rattle.bus_record.specs.declared.reading.Spoken.{Spoken}
use Rattle.bus_record.specs.declared.side.NetworkHeard.{NetworkHeard}
use Rattle.bus_record.specs.declared.side.RunAnswer.{RunAnswer}

-- whether G3 is left
abbrev pub leaves_g3 : ℕ → ℕ → Bool
leaves_g3 from to = eqb from G3 && not (eqb to G3)

-- "Leaving G3 clears the reader silently."
unfoldable pub reader_after : Bool → Reader → Reader
reader_after left r = cond left fresh_reader r

-- hearing, and then the timers
unfoldable pub hearing_step : Upward → Periods → Network → NetworkStep
hearing_step line period n = networkCalls.hear_call line period n

unfoldable pub timer_step : Upward → Periods → Network → NetworkStep
timer_step line period n = networkCalls.timer_call (next_period period) (hearing_step line period n).network

unfoldable pub network_listens : Upward → Periods → Network → NetworkHeard
network_listens line period n =
    record {
      network = (timer_step line period n).network;
      notes = record { hearing = (hearing_step line period n).notes; timers = (timer_step line period n).notes };
      left =
          leaves_g3 n.state (hearing_step line period n).network.state
          || leaves_g3 (hearing_step line period n).network.state (timer_step line period n).network.state;
    }

-- whether it hears what it heard before, so that nothing happens: in G1 and G2 unaligned no pulse,
-- in G3 aligned INFO 3, in G4 unaligned INFO 1 (proofs/NetworkRests.antt)
abbrev pub rests_in_g3 : Upward → Bool → Bool
rests_in_g3 line al = ((al && line.pulse) && line.framed) && not line.info1

abbrev pub rests_elsewhere : Upward → ℕ → Bool
rests_elsewhere line state = cond line.pulse ((not line.framed && line.info1) && eqb state G4) (eqb state G1 || eqb state G2)

unfoldable pub network_rests : Upward → Network → Bool
network_rests line n =
    eqb n.alignment.run 0
    && cond (eqb n.state G3) (rests_in_g3 line n.alignment.aligned) (not n.alignment.aligned && rests_elsewhere line n.state)

-- "four for each period whose lines leave the network end in G3"
unfoldable pub counted_after : ℕ → Opportunities → Opportunities
counted_after state o = cond (eqb state G3) (four_more o) o

-- four for each of `over` periods (no count that a bus can have is above the bounds)
unfoldable pub counted_over : ℕ → ℕ → Opportunities → Opportunities
counted_over state over o =
    cond ((eqb state G3 && leb o.0 (4 * most_periods)) && leb over most_periods) (record { 0 = o.0 + 4 * over }) o

-- whether there is a note: of the terminals, of the reader, of a frame completed, of the network
-- end
unfoldable pub period_has_note : Bool → Tally → Spoken → UnitNotes → Bool
period_has_note told m spoken notes =
    ((((told || not (eqb (said_note spoken.said) 0)) || not (eqb m.done1 0)) || not (eqb m.done2 0)) || ltb 0 notes.hearing.0)
    || ltb 0 notes.timers.0

unfoldable pub answer_with : BusRecord → Tally → Spoken → NetworkHeard → Bool → RunAnswer
answer_with r m spoken side told =
    record {
      bus =
          with_counts (next_period r.periods) (counted_after r.network.state r.opportunities)
          (with_network side.network (reader_after side.left spoken.reader) (with_echo m.echo (with_hit false r)));
      network = side.notes;
      body = said_body spoken.said;
      said = said_note spoken.said;
      done1 = m.done1;
      done2 = m.done2;
      told = period_has_note told m spoken side.notes;
      reply = 0;
    }

-- the network end's side of a period, after the exchange that left tally m and the terminals'
-- hearing; and the reader's octets then
unfoldable pub answer_after : BusRecord → Tally → List ℕ → Bool → RunAnswer
answer_after r m buf told =
    answer_with r m (read_in r.network.state m.ds buf r.reader)
    (network_listens (shown_from m.info1 m.info3) r.periods r.network) told

unfoldable pub octets_after : BusRecord → Tally → List ℕ → List ℕ
octets_after r m buf = octets_in r.network.state m.ds r.reader buf

-- nothing is run: the record as it is, with reply k
unfoldable pub refused_run : ℕ → BusRecord → RunAnswer
refused_run k r = record { bus = r; network = no_notes; body = 0; said = 0; done1 = 0; done2 = 0; told = false; reply = k }
