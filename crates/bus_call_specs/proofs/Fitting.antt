-- What a record and what is lent with it have, where they stand for a bus in range: none of the refusals 1 and 2 comes, and the bus that
-- they show differs from it only in the reader and in image bits that are not sent.
use mathlib.Core.Path.{◌≡◌, refl, ◌∙◌}
use mathlib.Core.Bool.{cond}
use mathlib.Core.List.{List, [], ◌∷◌, map}
use Prim.Native.Nat.{ℕ, suc, ◌+◌}
use native.Mathlib.Omega.{arith}
use lib.Dec.{leb}
use lib.ListN.{get_or, length-map}
use Rattle.slice_lemmas.specs.Over.{map_from}
use Rattle.hdlc.proofs.ImageLaws.{length_image}
use Rattle.timing.specs.Counts.{most_periods}
use Rattle.bus_rules.specs.Bus.{Station, Bus, fresh_station, station_at}
use Rattle.bus_rules.specs.Ranges.{InRange}
use Rattle.bus_rules.specs.Sound.{Sound}
use Rattle.bus_rules.proofs.Sound.{sound_contender}
use Rattle.exchange.specs.Part.{image_of, station_in}
use Rattle.bus_call_specs.specs.Kept.{Kept}
use Rattle.bus_call_specs.specs.Shown.{bus_in}
use Rattle.bus_call_specs.specs.Ready.{run_reply}
use Rattle.bus_call_specs.specs.Lists.{Carries}
use Rattle.bus_call_specs.proofs.InOrder as ready
use Rattle.bus_call_specs.proofs.InOrder.{all_fit, order_reply}
use Rattle.bus_call_specs.proofs.Fields.{periods_of, opportunities_of_lem, network_of}
use Rattle.bus_call_specs.proofs.Pairs.{Both, none, one}
use Rattle.bus_call_specs.proofs.SameExchange.{AccessInOrder, SameStation, SameBus, HasBits}

-- what a sound bus has, and the calls need
pub record Fit (b : Bus) : Type 0 where
  pub in_range : InRange b
  pub in_order : (i : ℕ) → AccessInOrder (station_at i b).terminal.access

pub sound_fits : (b : Bus) → Sound b → Fit b
sound_fits b s =
    record {
      in_range = s.in_range;
      in_order = λ i.
          let c = sound_contender b i s in
          record { none_held = c.none_held; room = λ h. omega (arith, (c.frame_held h).1, length_image (station_at i b).body) };
    }

-- ---- the ranges, and what is lent
module _ (k : Kept) (b : Bus) (c : Carries k b) (f : Fit b) where
  pub in_order : ready.InOrder k
  in_order =
      let r = f.in_range in
      record {
        eight = rw c.terminals_are (length-map b.stations _ ∙ r.eight);
        terminals_fit = rw c.terminals_are (all_fit b.stations r.terminals_fit);
        network_fits = rw (network_of c.record_is) r.network_fits;
        periods_fit = rw (periods_of c.record_is) r.periods_fit;
        opportunities_fit = rw (periods_of c.record_is, opportunities_of_lem c.record_is) r.opportunities_fit;
        reader_fits = c.reader_fits;
        cycle_rests = c.cycle_rests;
        images_fit = c.images_fit;
        octets_fit = c.octets_fit;
        notes_fit = c.notes_fit;
        letters_fit = c.letters_fit;
      }

  -- the one refusal of a period that is left: 9
  pub run_reply_lem : run_reply 1 k ≡ cond (leb most_periods b.periods) 9 0
  run_reply_lem = order_reply 1 k in_order ∙ rw (periods_of c.record_is)

-- ---- the bus that is shown
stations_shown : (images : List ℕ) (i : ℕ) (ss : List Station) → ((j : ℕ) → HasBits (image_of images (i + j)) (get_or ss j fresh_station)) →
    Both SameStation (map_from (station_in images) i (map (λ (s : Station). s.terminal) ss)) ss
unfolding map_from
stations_shown images i [] h = none
stations_shown images i (s ∷ ss) h =
    let z : i + 0 ≡ i = omega arith in
    let first : HasBits (image_of images i) s = rw z at (h 0) in
    one (record { terminal_is = refl; in_order = first.0; bits = first.1 })
    (stations_shown images (suc i) ss (λ j. let n : i + suc j ≡ suc i + j = omega arith in rw n at (h (suc j))))

pub bus_shown : (k : Kept) (b : Bus) → Carries k b → Fit b → SameBus (bus_in k) b
unfolding bus_in
bus_shown k b c f =
    record {
      bare_same = c.record_is;
      stations = rw c.terminals_are (stations_shown k.images 0 b.stations (λ j. let z : 0 + j ≡ j = omega arith in rw z (f.in_order j, c.images_are j)));
    }
