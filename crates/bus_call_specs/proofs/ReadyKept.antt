-- A period leaves the record and what is lent with it in order: `specs/Run.antt`.
use mathlib.Core.Path.{◌≡◌, refl, ◌∙◌}
use mathlib.Core.Bool.{Bool, true, false}
use mathlib.Core.List.{List, [], ◌∷◌}
use Prim.Native.Nat.{ℕ, ◌<◌}
use lib.ListN.{length, length-map}
use borrow.Author.Tests.{leb-false}
use Rattle.test_lemmas.proofs.ByCases.{by_test}
use Rattle.timing.specs.Counts.{most_periods}
use Rattle.timing.specs.Calls.{all_run}
use Rattle.d_reader.specs.Counters.{read_bit, read_octets}
use Rattle.d_reader.specs.ReaderRange.{reader_in_range}
use Rattle.d_reader.specs.Calls.{octets_after}
use Rattle.d_reader.specs.declared.Reader.{Reader}
use Rattle.d_reader.proofs.RangesKept.{fresh_in_range}
use Rattle.d_reader.proofs.ReadingKept.{length_read_octets}
use Rattle.bus_rules.specs.Bus.{Bus}
use Rattle.bus_rules.specs.Exchange.{exchanged}
use Rattle.bus_rules.specs.Period.{period_run}
use Rattle.bus_rules.proofs.OneDone.{senders_exchanged}
use Rattle.bus_rules.proofs.Ranges.{period_in}
use Rattle.bus_call_specs.specs.Kept.{Kept}
use Rattle.bus_call_specs.specs.Shown.{bus_in}
use Rattle.bus_call_specs.specs.Period.{d_read, left_g3, reader_run, octets_run, terminals_notes, period_answer, kept_run}
use Rattle.bus_call_specs.specs.Run.{ReadyKept}
use Rattle.bus_call_specs.proofs.ReaderCarried.{after_in_range}
use Rattle.bus_call_specs.proofs.InOrder.{InOrder, in_order, order_reply, all_fit, bus_in_range}

-- ---- The reader and its octets.
pub length_octets : (bs : List Bool) (r : Reader) (buf : List ℕ) → length (octets_after bs r buf) ≡ length buf
unfolding octets_after
length_octets [] r buf = refl
length_octets (b ∷ bs) r buf = length_octets bs (read_bit b buf r).reader (read_octets b r buf) ∙ length_read_octets b r buf

pub reader_run_lem : (k : Kept) → reader_in_range k.bus.reader ≡ true → reader_in_range (reader_run k) ≡ true
unfolding reader_run
reader_run_lem k h =
    by_test (left_g3 (bus_in k)) (λ t. rw t fresh_in_range) (λ t. rw t (after_in_range (d_read (bus_in k)) k.bus.reader k.octets h))

-- ---- The notes.
pub length_notes : (b : Bus) → length (terminals_notes b) ≡ length b.stations
unfolding terminals_notes
length_notes b = length-map (exchanged b).senders _ ∙ rw (senders_exchanged b) (length-map b.stations _)

-- ---- The whole.
pub order_kept : (k : Kept) → InOrder k → all_run k.bus.periods ≡ false → InOrder (kept_run k)
unfolding kept_run period_answer octets_run bus_in
order_kept k o e =
    let l : k.bus.periods.0 < most_periods = leb-false most_periods k.bus.periods.0 e in
    let r = bus_in_range k o in
    let p = period_in (bus_in k) l r in
    record {
      eight = length-map (period_run (bus_in k)).stations _ ∙ p.eight;
      terminals_fit = all_fit (period_run (bus_in k)).stations p.terminals_fit;
      network_fits = p.network_fits;
      periods_fit = p.periods_fit;
      opportunities_fit = p.opportunities_fit;
      reader_fits = reader_run_lem k o.reader_fits;
      cycle_rests = o.cycle_rests;
      images_fit = o.images_fit;
      octets_fit = rw (length_octets (d_read (bus_in k)) k.bus.reader k.octets) o.octets_fit;
      notes_fit = length_notes (bus_in k) ∙ r.eight;
      letters_fit = o.letters_fit;
    }

pub ready_kept : ReadyKept
ready_kept most k h e n = order_reply n (kept_run k) (order_kept k (in_order most k h) e)
