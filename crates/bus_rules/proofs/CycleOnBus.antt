-- The laws of `specs/CycleOnBus.antt`.
use mathlib.Core.Path.{◌≡◌, refl, sym, ◌∙◌}
use mathlib.Core.Bool.{Bool, true, false, not, ◌&&◌, ◌||◌, and-true, and_assoc}
use mathlib.Core.List.{List, [], ◌∷◌, map}
use Prim.Native.Nat.{ℕ, zero, suc, ◌+◌}
use native.Mathlib.Omega.{arith}
use lib.ListN.{length, get_or}
use Rattle.test_lemmas.proofs.ByCases.{by_test}
use Rattle.hdlc.specs.Bits.{bit_of}
use Rattle.hdlc.proofs.OctetLaws.{number_bit}
use Rattle.cycle.specs.Cycle.{has_bit, up_fa, fa_below}
use Rattle.cycle.specs.declared.record.Cycle.{Cycle}
use Rattle.cycle.specs.Periods as cycles
use Rattle.bus_rules.specs.Bus.{Station, Bus}
use Rattle.bus_rules.specs.Exchange.{Sender, Opportunity, stations_of, hears_e, station_after_e, in_f7, onward, begins, as_sender, senders_after, exchanged, e_comes, fa_down, fa_sent}
use Rattle.bus_rules.specs.Period.{mask_of, cycle_after, heard_by, timed, period_run}
use Rattle.bus_rules.specs.Quick.{all_fa}
use Rattle.bus_rules.specs.CycleOnBus.{sends_info3}
use Rattle.bus_rules.specs.CycleOnBus as laws
use Rattle.bus_rules.proofs.Quick.{quick_up_fa}
use Rattle.bus_rules.proofs.Off.{event_off}

-- ---- The exchange leaves F7 as it is.
f7_turned : (e : Bool) (s : Station) → in_f7 (station_after_e e s) ≡ in_f7 s
unfolding station_after_e
f7_turned e s = by_test (in_f7 s) (λ t. rw t t) (λ t. rw t t)

f7_hears : (e : Bool) (ss : List Sender) → map in_f7 (stations_of (map (hears_e e) ss)) ≡ map in_f7 (stations_of ss)
unfolding hears_e
f7_hears e [] = refl
f7_hears e (s ∷ ss) = rw (f7_turned e s.station, f7_hears e ss)

f7_onward : (m : Opportunity) → map in_f7 (stations_of (onward m).senders) ≡ map in_f7 (stations_of m.senders)
unfolding onward senders_after
f7_onward m = f7_hears (e_comes m) m.senders

f7_stationed : (ss : List Station) → map in_f7 (stations_of (map as_sender ss)) ≡ map in_f7 ss
unfolding as_sender
f7_stationed [] = refl
f7_stationed (s ∷ ss) = rw (f7_stationed ss)

f7_then : (b : Bus) → map in_f7 (stations_of (exchanged b).senders) ≡ map in_f7 b.stations
unfolding exchanged begins
f7_then b =
    f7_onward (onward (onward (onward (begins b)))) ∙ f7_onward (onward (onward (begins b))) ∙ f7_onward (onward (begins b))
    ∙ f7_onward (begins b) ∙ f7_stationed b.stations

pub cycle_goes_on : laws.CycleGoesOn
unfolding period_run timed heard_by cycle_after cycles.period exchanged onward begins
cycle_goes_on b = rw (f7_then b)

-- ---- Masks.
pub mask_has : laws.MaskHas
unfolding bit_of
mask_has test ss i = number_bit (map test ss) i

-- ---- The AND, from the last index down and from the first one up.
below : (ℕ → Bool) → ℕ → Bool
below p zero = true
below p (suc n) = below p n && p n

from : (ℕ → Bool) → ℕ → ℕ → Bool
from p i zero = true
from p i (suc n) = p i && from p (suc i) n

split : (p : ℕ → Bool) (i n : ℕ) → below p (i + n) ≡ (below p i && from p i n)
unfolding below from
split p i zero = let z : i + 0 ≡ i = omega arith in rw z (sym (and-true (below p i)))
split p i (suc n) =
    let z : i + suc n ≡ suc i + n = omega arith in
    rw z (split p (suc i) n ∙ and_assoc (below p i) (p i) (from p (suc i) n))

module _ (heard : Bool) (senders : ℕ) (c : Cycle) where
  abbrev at_index : ℕ → Bool
  at_index i = not (has_bit senders i) || up_fa heard i c

  joint_below : (n : ℕ) → fa_below n heard senders c ≡ below at_index n
  unfolding fa_below below
  joint_below zero = refl
  joint_below (suc n) = rw (joint_below n)

  all_from : (ss : List Station) (i : ℕ) → ((k : ℕ) → has_bit senders (i + k) ≡ get_or (map sends_info3 ss) k false)
      → all_fa (λ j. up_fa heard j c) i ss ≡ from at_index i (length ss)
  unfolding all_fa from
  all_from [] i h = refl
  all_from (s ∷ ss) i h =
      let z : i + 0 ≡ i = omega arith in
      let first : has_bit senders i ≡ sends_info3 s = rw z at (h 0) in
      let more = all_from ss (suc i) (λ k. let n : i + suc k ≡ suc i + k = omega arith in rw n at (h (suc k))) in
      rw (first, more) (by_test (sends_info3 s) (λ t. rw t) (λ t. rw t))

pub joint_on_bus : laws.JointOnBus
unfolding fa_sent below
joint_on_bus m long =
    let ss = stations_of m.senders in
    let heard = fa_down m in
    let senders = mask_of sends_info3 ss in
    quick_up_fa m
    ∙ (all_from heard senders m.cycle ss 0 (λ k. let z : 0 + k ≡ k = omega arith in rw z (mask_has sends_info3 ss k))
    ∙ (rw long (sym (split (at_index heard senders m.cycle) 0 8))
    ∙ sym (joint_below heard senders m.cycle 8)))

pub event_keeps_cycle : laws.EventKeepsCycle
event_keeps_cycle = event_off
