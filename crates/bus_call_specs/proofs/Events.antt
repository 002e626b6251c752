-- An event given to a bus: what each way through the call has to show.
use mathlib.Core.Path.{◌≡◌, refl, sym, ap, ◌∙◌}
use mathlib.Core.Bool.{Bool, true, false, ◌&&◌}
use mathlib.Core.List.{List, []}
use Prim.Native.Nat.{ℕ, ◌-◌, ◌≤◌, ◌<◌}
use native.Mathlib.Omega.{arith}
use lib.Dec.{eqb, ltb}
use lib.ListN.{length, get_or, set}
use borrow.Author.Tests.{eqb-true, eqb-false, ltb-false, not-false}
use Rattle.test_lemmas.proofs.ByCases.{by_test}
use Rattle.test_lemmas.proofs.Operators.{and_both}
use Rattle.notes_and_cells.specs.Notes.{packed_notes}
use Rattle.terminal.specs.Terminal.{fresh}
use Rattle.terminal.specs.declared.Terminal.{Terminal}
use Rattle.terminal.specs.Steps.{TerminalStep}
use Rattle.bus_rules.specs.Bus.{terminals}
use Rattle.bus_rules.specs.Event.{call_reasons}
use Rattle.bus_rules.proofs.Refusals.{none_holds}
use Rattle.period_hearing.specs.Shown.{all_in_range}
use Rattle.bus_record.specs.Record.{record_in_range}
use Rattle.bus_record.specs.declared.record.BusRecord.{BusRecord}
use Rattle.bus_event.specs.Event.{told, first_reason, network_told, terminal_told, event_settled}
use Rattle.bus_event.specs.Event as parts
use Rattle.bus_event.specs.declared.event.Told.{Told}
use Rattle.bus_call_specs.specs.Ready.{eight_in_range}
use Rattle.bus_call_specs.specs.Event.{reason, event_told, terminals_after, images_after, letters_after}
use Rattle.bus_call_specs.proofs.InOrder.{eight_in_range_lem}

module _ (unit number : ℕ) (value : List ℕ) (bus : BusRecord) (ts : List Terminal) (images letters : List ℕ) where
  abbrev pub Promised : Told → List Terminal → List ℕ → List ℕ → Type 0
  Promised r ts' images' letters' =
      (r ≡ event_told unit number value bus ts images letters)
      × (ts' ≡ terminals_after unit number value bus ts images letters)
      × (images' ≡ images_after unit number value bus ts images letters)
      × (letters' ≡ letters_after unit number value bus ts images letters)

  -- no reason: the terminals are in order, and the unit is one of the bus
  no_reason : (ready : Bool) → first_reason ready bus (length images) letters unit number value ≡ 0
      → ((ready && record_in_range bus) ≡ true) × (ltb terminals unit ≡ false)
  unfolding first_reason call_reasons
  no_reason ready h = let n = none_holds _ refl h in (not-false (ready && record_in_range bus) (n 1), n 3)

  -- an event that is not refused is of a unit of the bus
  pub unit_is : (event_told unit number value bus ts images letters).reply ≡ 0 → unit ≤ terminals
  unfolding event_told told
  unit_is h =
      by_test (eqb (reason unit number value bus ts images letters) 0)
      (λ t. ltb-false terminals unit (no_reason (eight_in_range ts) (eqb-true _ 0 t)).1)
      (λ t. absurd (eqb-false _ 0 t (rw t at h)))

  -- `ready` and the reason as the code has them
  module _ (ready : Bool) (is-ready : ready ≡ eight_in_range ts) (k : ℕ) (is-k : k ≡ first_reason ready bus (length images) letters unit number value) where
    pub within : (i : ℕ) → i ≡ unit - 1 → eqb k 0 ≡ true → i < length ts
    within i is-i zero =
        let n = no_reason ready (sym is-k ∙ eqb-true k 0 zero) in
        let e = and_both (eqb (length ts) terminals) (all_in_range ts) (sym (eight_in_range_lem ts) ∙ sym is-ready ∙ (and_both ready (record_in_range bus) n.0).0) in
        omega (arith, is-i, eqb-true (length ts) terminals e.0, ltb-false terminals unit n.1)

    the_reason : k ≡ first_reason (eight_in_range ts) bus (length images) letters unit number value
    the_reason = is-k ∙ ap (λ (b : Bool). first_reason b bus (length images) letters unit number value) is-ready

    pub when_refused : eqb k 0 ≡ false → (r : Told) → r ≡ told bus (packed_notes []) k → Promised r ts images letters
    unfolding event_told terminals_after images_after letters_after
    when_refused a r so = (rw (← the_reason, a) so, rw (← the_reason, a), rw (← the_reason, a), rw (← the_reason, a))

    module _ (a : eqb k 0 ≡ true) where
      pub at_network : eqb unit 0 ≡ true → (r : Told) (letters' : List ℕ) → (r ≡ network_told number bus) × (letters' ≡ parts.letters_after number value letters) → Promised r ts images letters'
      unfolding event_told terminals_after images_after letters_after
      at_network b r letters' so = (rw (← the_reason, a, b) so.0, rw (← the_reason, a, b), rw (← the_reason, a, b), rw (← the_reason, a, b) so.1)

      module _ (b : eqb unit 0 ≡ false) (i : ℕ) (is-i : i ≡ unit - 1) (s : TerminalStep) (images' : List ℕ) where
        abbrev Stepped : Type 0
        Stepped = (s ≡ terminal_told number images i value bus.periods (get_or ts i fresh)) × (images' ≡ parts.images_after number (get_or ts i fresh) i value images)

        pub at_terminal_lem : Stepped → (r : Told) → r ≡ event_settled bus unit number value s → Promised r (set ts i s.terminal) images' letters
        unfolding event_told terminals_after images_after letters_after
        at_terminal_lem so r so-r = (
          rw (← the_reason, a, b, ← is-i, ← so.0) so-r,
          rw (← the_reason, a, b, ← is-i, ← so.0),
          rw (← the_reason, a, b, ← is-i) so.1,
          rw (← the_reason, a, b),
        )
