-- How an event and a run on a bus that is lent as octets end.
use mathlib.Core.Bool.{true, false}
use mathlib.Core.List.{List}
use mathlib.Core.Path.{◌≡◌, refl, sym, ap, ◌∙◌}
use Prim.Native.Nat.{ℕ, ◌-◌}
use lib.Dec.{eqb}
use Rattle.bus_rules.specs.Bus.{notes_of}
use Rattle.bus_rules.specs.Calls.{Call}
use Rattle.bus_rules.specs.Calls.Call.{event, period}
use Rattle.notes_and_cells.specs.Notes.{noted}
use Rattle.period_hearing.specs.declared.hears.UnitNotes.{UnitNotes}
use Rattle.bus_record.specs.declared.record.BusRecord.{BusRecord}
use Rattle.bus_record.specs.declared.side.RunAnswer.{RunAnswer}
use Rattle.bus_event.specs.declared.event.Told.{Told}
use Rattle.bus_call_specs.specs.Run.{run_answer, kept_after}
use Rattle.bus_call_specs.specs.Lists.{told, called, replied, notes_told, period_told, run_told}
use Rattle.note_text.specs.Room.{laid}
use Rattle.bus_octets.specs.Layout.{record_in, octets_in, bus_octets, shown, is_bus}
use Rattle.host_steps.specs.Stepping.{notes_octets, reason, event_number, host_reply, host_bus, host_notes, host_run_reply, host_run_bus, host_run_notes}
use Rattle.host_steps.proofs.Numbered.{same_call}
use Rattle.bus_call_specs.proofs.QuietRuns.{one_told}
use Rattle.host_steps.proofs.Told.{event_notes_lem, run_notes_lem}
use Rattle.host_steps.proofs.Answers.{not_lent, turned_down, stepped, lent_bus}

module _ (s room : List ℕ) where
  -- ---- An event or a period.
  abbrev Ended : Call → ℕ → List ℕ → List ℕ → Type 0
  Ended c r s' room' = (r ≡ host_reply s room c) × ((s' ≡ host_bus s room c) × (room' ≡ host_notes s room c))

  pub event_not_lent : (c : Call) (r : ℕ) → r ≡ reason s room → eqb r 0 ≡ false → Ended c r s room
  unfolding host_reply host_bus host_notes
  event_not_lent c r e n = not_lent s room (replied (shown s) c) (called (shown s) c) (notes_told (shown s) c) r e n

  module _ (unit n : ℕ) (value : List ℕ) (m : ℕ) (m-is : m ≡ event_number n) (e : 0 ≡ reason s room)
      (t : Told) (s' : List ℕ) (t-is : t ≡ told unit m value (shown s)) (s-is : s' ≡ bus_octets (called (shown s) (event unit m value))) where
    abbrev call : Call
    call = event unit n value

    told_is : t ≡ told unit n value (shown s)
    told_is = t-is ∙ rw m-is (same_call (shown s) unit n value).told_same

    bus_is : s' ≡ bus_octets (called (shown s) call)
    bus_is = s-is ∙ rw m-is (ap bus_octets (same_call (shown s) unit n value).called_same)

    replied_is : t.reply ≡ replied (shown s) call
    unfolding replied
    replied_is = ap (λ (x : Told). x.reply) told_is

    pub event_refused : (w : ℕ) → w ≡ t.reply → (t.reply ≡ 0 → ⊥) → Ended call w s' room
    unfolding host_reply host_bus host_notes
    event_refused w w_is n' =
        rw (w_is ∙ replied_is, bus_is)
        (turned_down s room (replied (shown s) call) (called (shown s) call) (notes_told (shown s) call) e (λ y. n' (replied_is ∙ y)))

    pub event_ended : t.reply ≡ 0 → (bus : BusRecord) → bus ≡ record_in s → (room' : List ℕ)
        → room' ≡ laid room 0 (notes_octets (notes_of bus.periods.0 unit (noted t.notes))) → Ended call 0 s' room'
    unfolding host_reply host_bus host_notes shown
    event_ended y bus b room' l =
        let notes_are : notes_of bus.periods.0 unit (noted t.notes) ≡ notes_told (shown s) call =
        rw (b, told_is) (event_notes_lem (shown s) unit n value (ap (λ (x : Told). x.reply) (sym told_is) ∙ y)) in
        rw (bus_is, l, notes_are)
        (stepped s room (replied (shown s) call) (called (shown s) call) (notes_told (shown s) call) e (sym replied_is ∙ y))

  -- ---- A run.
  module _ (most : ℕ) where
    abbrev pub RanTo : ℕ → List ℕ → List ℕ → Type 0
    RanTo r s' room' = (r ≡ host_run_reply s room most) × ((s' ≡ host_run_bus s room most) × (room' ≡ host_run_notes s room most))

    pub run_not_lent : (r : ℕ) → r ≡ reason s room → eqb r 0 ≡ false → RanTo r s room
    unfolding host_run_reply host_run_bus host_run_notes
    run_not_lent r e n = not_lent s room (run_answer most (shown s)).reply (kept_after most (shown s)) (run_told most (shown s)) r e n

    module _ (e : 0 ≡ reason s room) (t : RunAnswer) (units : List UnitNotes) (s' : List ℕ)
        (t-is : t ≡ run_answer most (shown s)) (units-are : units ≡ (kept_after most (shown s)).notes) (s-is : s' ≡ bus_octets (kept_after most (shown s))) where
      abbrev reply_is : t.reply ≡ (run_answer most (shown s)).reply
      reply_is = ap (λ (x : RunAnswer). x.reply) t-is

      pub run_refused : (w : ℕ) → w ≡ t.reply → (t.reply ≡ 0 → ⊥) → RanTo w s' room
      unfolding host_run_reply host_run_bus host_run_notes
      run_refused w w_is n =
          rw (w_is ∙ reply_is, s-is)
          (turned_down s room (run_answer most (shown s)).reply (kept_after most (shown s)) (run_told most (shown s)) e (λ y. n (reply_is ∙ y)))

      pub run_ended : t.reply ≡ 0 → (room' : List ℕ)
          → room' ≡ laid room 0 (notes_octets (period_told (t.bus.periods.0 - 1) t units (octets_in s'))) → RanTo 0 s' room'
      unfolding host_run_reply host_run_bus host_run_notes
      run_ended y room' l =
          let h : is_bus s ≡ true = lent_bus s _ _ 0 e refl in
          let y' : (run_answer most (shown s)).reply ≡ 0 = sym reply_is ∙ y in
          let notes_are : period_told (t.bus.periods.0 - 1) t units (octets_in s') ≡ run_told most (shown s) =
          rw (t-is, units-are, s-is) (run_notes_lem s h most y') in
          rw (s-is, l, notes_are)
          (stepped s room (run_answer most (shown s)).reply (kept_after most (shown s)) (run_told most (shown s)) e y')

  -- a run of one period is a period
  pub period_ended : (r : ℕ) (s' room' : List ℕ) → RanTo 1 r s' room' → Ended period r s' room'
  unfolding host_run_reply host_run_bus host_run_notes host_reply host_bus host_notes replied called
  period_ended r s' room' h = (h.0, (h.1.0, h.1.1 ∙ rw (one_told (shown s))))
