-- An event number above an octet is no event, as 0 is none: the two calls are turned down alike.
use mathlib.Core.Bool.{Bool, true, false, not}
use mathlib.Core.List.{List}
use mathlib.Core.Path.{◌≡◌, refl}
use Prim.Native.Nat.{ℕ, ◌≤◌}
use native.Mathlib.Omega.{arith}
use lib.Dec.{eqb, ltb}
use lib.ListN.{length}
use borrow.Author.Tests.{eqb-true, ne_eqb, ltb-false, le-ltb}
use Rattle.test_lemmas.proofs.ByCases.{by_test, clash}
use Rattle.notes_and_cells.specs.Events.{HIT}
use Rattle.bus_rules.specs.Event.{among, network_events, terminal_events, event_for, call_reasons, first_holding}
use Rattle.bus_rules.specs.Calls.Call.{event}
use Rattle.bus_rules.proofs.Refusals.{each, each_among, none_holds}
use Rattle.bus_record.specs.declared.record.BusRecord.{BusRecord}
use Rattle.bus_event.specs.Event.{first_reason}
use Rattle.bus_call_specs.specs.Kept.{Kept}
use Rattle.bus_call_specs.specs.Ready.{eight_in_range}
use Rattle.bus_call_specs.specs.Event.{event_told, terminals_after, images_after, letters_after}
use Rattle.bus_call_specs.specs.Lists.{told, called}
use Rattle.host_steps.specs.Stepping.{event_number}

-- 0 is no event, and no number past the last one's is
none : (unit : ℕ) → event_for unit 0 ≡ false
unfolding event_for
none unit = by_test (eqb unit 0) (λ t. rw t) (λ t. rw t)

not_among : (n : ℕ) → 256 ≤ n → (xs : List ℕ) → each (λ x. ltb x 256) xs ≡ true → among n xs ≡ false
not_among n h xs small =
    by_test (among n xs) (λ t. clash (ltb n 256) (each_among (λ x. ltb x 256) n xs small t) (le-ltb n 256 h)) (λ t. t)

above : (unit n : ℕ) → 256 ≤ n → event_for unit n ≡ false
unfolding event_for
above unit n h =
    by_test (eqb unit 0) (λ t. rw (t, not_among n h network_events refl)) (λ t. rw (t, not_among n h terminal_events refl))

module _ (ready : Bool) (r : BusRecord) (images : ℕ) (letters : List ℕ) (unit n : ℕ) (value : List ℕ) (h : 256 ≤ n) where
  same_reason : first_reason ready r images letters unit n value ≡ first_reason ready r images letters unit 0 value
  unfolding first_reason call_reasons first_holding
  same_reason = rw (ne_eqb n HIT (omega arith), above unit n h, none unit)

  no_pass : eqb (first_reason ready r images letters unit 0 value) 0 ≡ false
  unfolding first_reason call_reasons
  no_pass =
      by_test (eqb (first_reason ready r images letters unit 0 value) 0)
      (λ z. clash (not (event_for unit 0)) (rw (none unit)) (none_holds _ refl (eqb-true _ 0 z) 4))
      (λ z. z)

-- ---- The number that is passed on makes the same call.
pub record SameCall (k : Kept) (unit n : ℕ) (value : List ℕ) : Type 0 where
  pub told_same : told unit (event_number n) value k ≡ told unit n value k
  pub called_same : called k (event unit (event_number n) value) ≡ called k (event unit n value)

pub same_call : (k : Kept) (unit n : ℕ) (value : List ℕ) → SameCall k unit n value
unfolding told called event_told terminals_after images_after letters_after
same_call k unit n value =
    by_test (ltb n 256) (λ t. record { told_same = rw t; called_same = rw t })
    (λ t.
    let h : 256 ≤ n = ltb-false n 256 t in
    let s = same_reason (eight_in_range k.terminals) k.bus (length k.images) k.letters unit n value h in
    let p = no_pass (eight_in_range k.terminals) k.bus (length k.images) k.letters unit n value h in
    record { told_same = rw (t, s, p); called_same = rw (t, s, p) })
