-- The record stays in its range.
use mathlib.Core.Bool.{Bool, true, false, ◌&&◌}
use mathlib.Core.List.{List}
use mathlib.Core.Path.{◌≡◌, refl}
use Prim.Native.Nat.{ℕ}
use lib.Dec.{eqb}
use Rattle.test_lemmas.proofs.ByCases.{by_test, and_left, and_right}
use Rattle.frame.specs.declared.fields.Four.{Four}
use Rattle.table_6_3.specs.Table63.{G3}
use Rattle.timing.specs.Calls.{periods_in_range, opportunities_in_range, all_run, next_period}
use Rattle.timing.specs.declared.counts.Periods.{Periods}
use Rattle.timing.specs.declared.counts.Opportunities.{Opportunities}
use Rattle.timing.proofs.RangesKept.{next_in_range, four_more_in_range, none_more_in_range}
use Rattle.heard_line.specs.declared.heard.Upward.{Upward}
use Rattle.network.specs.Calls.{network_in_range, hear_call}
use Rattle.network.specs.declared.Network.{Network}
use Rattle.network.proofs.RangesKept.{timer_due_in_range, heard_in_range}
use Rattle.symbols.specs.Symbols.{same_symbols}
use Rattle.cycle.specs.Rest.{rests}
use Rattle.d_reader.specs.Counters.{read_bit}
use Rattle.d_reader.specs.ReaderRange.{reader_in_range}
use Rattle.d_reader.specs.declared.Reader.{Reader}
use Rattle.d_reader.specs.declared.ReaderAnswer.{ReaderAnswer}
use Rattle.d_reader.specs.declared.ReaderAnswer.TheVariants.{Nothing, Heard, Torn}
use Rattle.refusals.specs.declared.Refusal.{Refusal}
use Rattle.std.specs.Prelude.{Result, Ok, Err}
use Rattle.d_reader.proofs.RangesKept as reader
use Rattle.d_reader.proofs.RangesKept.{read_in_range}
use Rattle.bus_rules.specs.Quick.{shown_from}
use Rattle.bus_record.specs.Record.{record_in_range}
use Rattle.bus_record.specs.Reading.{quiet_reading, said_with, spoken_to, spoken_to_four, read_in}
use Rattle.bus_record.specs.NetworkSide.{reader_after, hearing_step, timer_step, network_listens, counted_after, answer_with, answer_after}
use Rattle.bus_record.specs.RecordKept.{FreshInRange, PeriodKeeps}
use Rattle.bus_record.specs.declared.record.BusRecord.{BusRecord}
use Rattle.bus_record.specs.declared.reading.Spoken.{Spoken}

-- Each part of the record in its range.
pub record RecordFits (bus : BusRecord) : Type 0 where
  pub network_fits : network_in_range bus.network ≡ true
  pub periods_fit : periods_in_range bus.periods ≡ true
  pub opportunities_fit : opportunities_in_range bus.periods bus.opportunities ≡ true
  pub reader_fits : reader_in_range bus.reader ≡ true
  pub cycle_rests : rests bus.cycle ≡ true

pub record_fits : (bus : BusRecord) → record_in_range bus ≡ true → RecordFits bus
unfolding record_in_range
record_fits bus h =
    let n : Bool = network_in_range bus.network in
    let p : Bool = periods_in_range bus.periods in
    let o : Bool = opportunities_in_range bus.periods bus.opportunities in
    let d : Bool = reader_in_range bus.reader in
    let f : (((n && p) && o) && d) ≡ true = and_left (((n && p) && o) && d) (rests bus.cycle) h in
    let a : ((n && p) && o) ≡ true = and_left ((n && p) && o) d f in
    let b : (n && p) ≡ true = and_left (n && p) o a in
    record {
      network_fits = and_left n p b;
      periods_fit = and_right n p b;
      opportunities_fit = and_right (n && p) o a;
      reader_fits = and_right ((n && p) && o) d f;
      cycle_rests = and_right (((n && p) && o) && d) (rests bus.cycle) h;
    }

pub fits_record : (bus : BusRecord) → RecordFits bus → record_in_range bus ≡ true
unfolding record_in_range
fits_record bus f = simp (f.network_fits, f.periods_fit, f.opportunities_fit, f.reader_fits, f.cycle_rests)

-- ---- The reader.
said_reader : (x : Result ReaderAnswer Refusal) (r : Reader) (s : Spoken) → (said_with x r s).reader ≡ r
unfolding said_with
said_reader (Ok Nothing) r s = refl
said_reader (Ok (Heard n)) r s = refl
said_reader (Ok Torn) r s = refl
said_reader (Err k) r s = refl

pub spoken_reader : (b : Bool) (buf : List ℕ) (s : Spoken) → (spoken_to b buf s).reader ≡ (read_bit b buf s.reader).reader
unfolding spoken_to
spoken_reader b buf s = said_reader (read_bit b buf s.reader).answer (read_bit b buf s.reader).reader s

spoken_fits : (b : Bool) (buf : List ℕ) (s : Spoken) → reader_in_range s.reader ≡ true → reader_in_range (spoken_to b buf s).reader ≡ true
spoken_fits b buf s h = rw (spoken_reader b buf s) (read_in_range s.reader h b buf)

read_fits : (state : ℕ) (ds : Four) (buf : List ℕ) (r : Reader) → reader_in_range r ≡ true → reader_in_range (read_in state ds buf r).reader ≡ true
unfolding read_in spoken_to_four
read_fits state ds buf r h =
    by_test (eqb state G3)
    (λ t. rw t (spoken_fits _ _ _ (spoken_fits _ _ _ (spoken_fits _ _ _ (spoken_fits _ _ (quiet_reading r) h)))))
    (λ t. rw t h)

pub reader_after_fits : (left : Bool) (r : Reader) → reader_in_range r ≡ true → reader_in_range (reader_after left r) ≡ true
unfolding reader_after
reader_after_fits true r h = reader.fresh_in_range
reader_after_fits false r h = h

-- ---- The network end.
listens_fits : (line : Upward) (period : Periods) (n : Network) → network_in_range n ≡ true → network_in_range (network_listens line period n).network ≡ true
unfolding network_listens timer_step hearing_step
listens_fits line period n h = timer_due_in_range (next_period period) (hear_call line period n).network (heard_in_range period n h line)

-- ---- The counts.
counted_fits : (state : ℕ) (p : Periods) (o : Opportunities) → all_run p ≡ false → opportunities_in_range p o ≡ true
    → opportunities_in_range (next_period p) (counted_after state o) ≡ true
unfolding counted_after
counted_fits state p o r h =
    by_test (eqb state G3) (λ t. rw t (four_more_in_range p o r h)) (λ t. rw t (none_more_in_range p o r h))

pub fresh_in_range : FreshInRange
unfolding record_in_range network_in_range reader_in_range rests same_symbols
fresh_in_range = refl

pub period_keeps : PeriodKeeps
unfolding answer_after answer_with
period_keeps bus m buf told h r =
    let f : RecordFits bus = record_fits bus h in
    fits_record _ (record {
      network_fits = listens_fits (shown_from m.info1 m.info3) bus.periods bus.network f.network_fits;
      periods_fit = next_in_range bus.periods f.periods_fit;
      opportunities_fit = counted_fits bus.network.state bus.periods bus.opportunities r f.opportunities_fit;
      reader_fits = reader_after_fits _ _ (read_fits bus.network.state m.ds buf bus.reader f.reader_fits);
      cycle_rests = f.cycle_rests;
    })
