-- What refusals 1, 2 and 9 leave: the record and what is lent with it are in order, and a period can be run. The bus that they show is then
-- in its range (crate `bus_rules`, specs/Ranges.antt).
use mathlib.Core.Path.{◌≡◌, refl, sym, ◌∙◌}
use mathlib.Core.Bool.{Bool, true, false, cond, ◌&&◌}
use mathlib.Core.List.{List, [], ◌∷◌}
use Prim.Native.Nat.{ℕ, zero, suc, ◌*◌, ◌≤◌, ◌<◌}
use native.Mathlib.Omega.{arith}
use lib.Dec.{eqb, ltb, leb}
use lib.ListN.{length, get_or}
use borrow.Author.Tests.{eqb-true, eq-eqb, leb-true, le-leb, lt-ltb}
use Rattle.test_lemmas.proofs.Operators.{and_both}
use Rattle.slice_lemmas.proofs.Over.{length_mapped}
use Rattle.slice_lemmas.specs.Over.{map_from, fold_from}
use Rattle.hdlc.specs.Image.{longest_body}
use Rattle.symbols.specs.Symbols.{within, fits}
use Rattle.cycle.specs.Cycle as cycle
use Rattle.cycle.specs.Cycle.{cycle_in_range}
use Rattle.cycle.specs.Rest.{rests}
use Rattle.cycle.proofs.Rest.{rests_fresh}
use Rattle.timing.specs.Counts.{most_periods}
use Rattle.timing.specs.Calls.{periods_in_range, opportunities_in_range, all_run}
use Rattle.network.specs.Calls.{network_in_range}
use Rattle.d_reader.specs.ReaderRange.{reader_in_range}
use Rattle.terminal.specs.Calls.{terminal_in_range}
use Rattle.terminal.specs.declared.Terminal.{Terminal}
use Rattle.terminal.proofs.RangesKept.{fresh_in_range}
use Rattle.bus_rules.specs.Bus.{Station, terminals, fresh_station}
use Rattle.bus_rules.specs.Event.{call_reasons, first_holding}
use Rattle.bus_rules.specs.Ranges.{InRange, hit_in_range}
use Rattle.exchange.specs.Part.{station_in}
use Rattle.period_hearing.specs.Shown.{all_in_range, terminals_of}
use Rattle.bus_record.specs.Record.{record_in_range}
use Rattle.bus_event.specs.Event.{images_room, are_letters, first_reason}
use Rattle.bus_record.specs.declared.record.BusRecord.{BusRecord}
use Rattle.bus_call_specs.specs.Kept.{Kept}
use Rattle.bus_record.specs.Echo.{hit_in}
use Rattle.bus_call_specs.specs.Shown.{bus_in}
use Rattle.bus_call_specs.specs.Event.{reason}
use Rattle.bus_call_specs.specs.Ready.{eight_in_range, lent_fits, run_reason, run_reply}

-- the record and what is lent are in order
pub record InOrder (k : Kept) : Type 0 where
  pub eight : length k.terminals ≡ terminals
  pub terminals_fit : all_in_range k.terminals ≡ true
  pub network_fits : network_in_range k.bus.network ≡ true
  pub periods_fit : k.bus.periods.0 ≤ most_periods
  pub opportunities_fit : k.bus.opportunities.0 ≤ 4 * k.bus.periods.0
  pub reader_fits : reader_in_range k.bus.reader ≡ true
  pub cycle_rests : k.bus.cycle ≡ cycle.fresh
  pub images_fit : length k.images ≡ images_room
  pub octets_fit : longest_body ≤ length k.octets
  pub notes_fit : length k.notes ≡ terminals
  pub letters_fit : are_letters k.letters ≡ true

-- ---- Tests.
-- as the code goes: the terminals so far, and one more
abbrev pub also_in_range : ℕ → Bool → Terminal → Bool
also_in_range i ok t = ok && terminal_in_range t

pub from_first : (i : ℕ) (ok : Bool) (ts : List Terminal) → fold_from also_in_range i ok ts ≡ (ok && all_in_range ts)
unfolding fold_from all_in_range
from_first i true [] = refl
from_first i false [] = refl
from_first i true (t ∷ ts) = from_first (suc i) (terminal_in_range t) ts
from_first i false (t ∷ ts) = from_first (suc i) false ts

pub eight_in_range_lem : (ts : List Terminal) → eight_in_range ts ≡ (eqb (length ts) terminals && all_in_range ts)
unfolding eight_in_range
eight_in_range_lem ts = refl

abbrev numbered : Bool → Bool → Bool → ℕ
numbered a b c = cond a (cond b (cond c 9 0) 2) 1

none_holds : (a b c : Bool) → numbered a b c ≡ 0 → (a ≡ true) × (b ≡ true) × (c ≡ false)
none_holds true true true h = absurd (omega arith)
none_holds true true false h = (refl, refl, refl)
none_holds true false c h = absurd (omega arith)
none_holds false b c h = absurd (omega arith)

-- the three tests of a call
abbrev ranges : Kept → Bool
ranges k = eight_in_range k.terminals && record_in_range k.bus

abbrev lent : Kept → Bool
lent k = lent_fits (length k.images) (length k.octets) k.letters (length k.notes)

abbrev nine_holds : ℕ → Kept → Bool
nine_holds most k = ltb 0 most && all_run k.bus.periods

not_refused : (most : ℕ) (k : Kept) → run_reply most k ≡ 0 → (ranges k ≡ true) × (lent k ≡ true) × (nine_holds most k ≡ false)
unfolding run_reply run_reason
not_refused most k h = none_holds (ranges k) (lent k) (nine_holds most k) h

-- ---- Not refused.
pub in_order : (most : ℕ) (k : Kept) → run_reply most k ≡ 0 → InOrder k
unfolding lent_fits record_in_range
in_order most k h =
    let bus : BusRecord = k.bus in
    let n = not_refused most k h in
    let r = and_both (eight_in_range k.terminals) _ n.0 in
    let e = and_both (eqb (length k.terminals) terminals) (all_in_range k.terminals) (sym (eight_in_range_lem k.terminals) ∙ r.0) in
    let r4 = and_both _ (rests bus.cycle) r.1 in
    let r3 = and_both _ (reader_in_range bus.reader) r4.0 in
    let r2 = and_both _ (opportunities_in_range bus.periods bus.opportunities) r3.0 in
    let r1 = and_both (network_in_range bus.network) (periods_in_range bus.periods) r2.0 in
    let l3 = and_both _ (are_letters k.letters) n.1 in
    let l2 = and_both _ (eqb (length k.notes) terminals) l3.0 in
    let l1 = and_both (eqb (length k.images) images_room) (leb longest_body (length k.octets)) l2.0 in
    record {
      eight = eqb-true _ _ e.0;
      terminals_fit = e.1;
      network_fits = r1.0;
      periods_fit = leb-true _ _ r1.1;
      opportunities_fit = leb-true _ _ r2.1;
      reader_fits = r3.1;
      cycle_rests = rests_fresh.1 bus.cycle r4.1;
      images_fit = eqb-true _ _ l1.0;
      octets_fit = leb-true _ _ l1.1;
      notes_fit = eqb-true _ _ l2.1;
      letters_fit = l3.1;
    }

-- a period is left to run
pub one_left : (most : ℕ) (k : Kept) → 0 < most → run_reply most k ≡ 0 → all_run k.bus.periods ≡ false
one_left most k l h = rw (lt-ltb 0 most l) at (not_refused most k h).2

-- ---- In order: reason 9 alone can hold.
pub order_reply : (most : ℕ) (k : Kept) → InOrder k → run_reply most k ≡ cond (ltb 0 most && all_run k.bus.periods) 9 0
unfolding run_reply run_reason lent_fits record_in_range
order_reply most k o =
    rw (
      eight_in_range_lem k.terminals,
      eq-eqb _ _ o.eight,
      o.terminals_fit,
      o.network_fits,
      le-leb _ _ o.periods_fit,
      le-leb _ _ o.opportunities_fit,
      o.reader_fits,
      o.cycle_rests,
      rests_fresh.0,
      eq-eqb _ _ o.images_fit,
      le-leb _ _ o.octets_fit,
      eq-eqb _ _ o.notes_fit,
      o.letters_fit,
    )

-- the two tests of refusal 1
pub order_ranges : (k : Kept) → InOrder k → (eight_in_range k.terminals ≡ true) × (record_in_range k.bus ≡ true)
unfolding record_in_range
order_ranges k o = (
  rw (eight_in_range_lem k.terminals, eq-eqb _ _ o.eight, o.terminals_fit),
  rw (o.network_fits, le-leb _ _ o.periods_fit, le-leb _ _ o.opportunities_fit, o.reader_fits, o.cycle_rests, rests_fresh.0),
)

-- then an event is turned down, before a unit is asked, for what the call itself decides alone
pub order_reason : (k : Kept) → InOrder k → (unit number : ℕ) (value : List ℕ)
    → reason unit number value k.bus k.terminals k.images k.letters ≡ first_holding (call_reasons unit number value)
unfolding first_reason first_holding
order_reason k o unit number value =
    let r = order_ranges k o in
    rw (r.0, r.1, eq-eqb (length k.images) images_room o.images_fit, o.letters_fit)

-- ---- The bus in its range.
fits_at : (images : List ℕ) (i : ℕ) (ts : List Terminal) → all_in_range ts ≡ true →
    (j : ℕ) → terminal_in_range (get_or (map_from (station_in images) i ts) j fresh_station).terminal ≡ true
unfolding map_from all_in_range
fits_at images i [] h j = fresh_in_range
fits_at images i (t ∷ ts) h zero = (and_both (terminal_in_range t) (all_in_range ts) h).0
fits_at images i (t ∷ ts) h (suc j) = fits_at images (suc i) ts (and_both (terminal_in_range t) (all_in_range ts) h).1 j

-- and back
pub all_fit : (ss : List Station) → ((j : ℕ) → terminal_in_range (get_or ss j fresh_station).terminal ≡ true) → all_in_range (terminals_of ss) ≡ true
unfolding all_in_range
all_fit [] h = refl
all_fit (s ∷ ss) h = rw (h 0) (all_fit ss (λ j. h (suc j)))

hit_in_lem : (pending : Bool) (letters : List ℕ) → are_letters letters ≡ true → hit_in_range (hit_in pending letters) ≡ true
unfolding hit_in
hit_in_lem true letters h = h
hit_in_lem false letters h = refl

cycle_fresh_fits : cycle_in_range cycle.fresh ≡ true
unfolding fits within
cycle_fresh_fits = refl

pub bus_in_range : (k : Kept) → InOrder k → InRange (bus_in k)
unfolding bus_in
bus_in_range k o =
    record {
      periods_fit = o.periods_fit;
      opportunities_fit = o.opportunities_fit;
      network_fits = o.network_fits;
      hit_fits_lem = hit_in_lem k.bus.hit k.letters o.letters_fit;
      cycle_fits = rw o.cycle_rests cycle_fresh_fits;
      eight = length_mapped (station_in k.images) 0 k.terminals ∙ o.eight;
      terminals_fit = fits_at k.images 0 k.terminals o.terminals_fit;
    }
