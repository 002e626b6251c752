-- An event on the record and what is lent with it: the reply and the notes of document 01's rules, and what it leaves stands for the bus
-- after it.
use mathlib.Core.Path.{◌≡◌, refl, sym, ap, ◌∙◌}
use mathlib.Core.Bool.{Bool, true, false, not, ◌&&◌}
use mathlib.Core.List.{List, []}
use Prim.Native.Nat.{ℕ, ◌-◌, ◌<◌}
use native.Mathlib.Omega.{arith}
use lib.Dec.{eqb, ltb}
use lib.ListN.{length, get_or, set}
use borrow.Author.Tests.{eqb-true, eqb-false, ltb-false}
use Rattle.test_lemmas.proofs.ByCases.{by_test, clash}
use Rattle.notes_and_cells.specs.Notes.{packed_notes, noted}
use Rattle.hdlc.specs.Image.{image}
use Rattle.terminal.specs.Terminal as terminal
use Rattle.terminal.specs.Calls as terminalCalls
use Rattle.terminal.specs.declared.Terminal.{Terminal}
use Rattle.terminal.specs.Steps.{TerminalStep}
use Rattle.terminal.proofs.Laws.{handed_over_called, hands_over_notes}
use Rattle.bus_rules.specs.Bus.{Bus, terminals, notes_of}
use Rattle.bus_rules.specs.Event.{station_of, class_of, call_reasons, state_reasons, reasons, first_holding, refusal, network_does, terminal_does, event_done, event_notes}
use Rattle.notes_and_cells.specs.Events.{HIT}
use Rattle.bus_rules.specs.Calls as bus
use Rattle.bus_rules.specs.Calls.{Call}
use Rattle.bus_rules.specs.Calls.Call.{event}
use Rattle.bus_rules.proofs.Barred as barred
use Rattle.bus_rules.proofs.Refusals.{first_append}
use Rattle.bus_rules.proofs.Simulation.{Takes, accepted_frame}
use Rattle.bus_rules.proofs.Ranges.{class_given}
use Rattle.bus_event.specs.Event.{are_letters, network_asked, network_told, image_put, frame_reason, frame_given}
use Rattle.bus_event.specs.Event as parts
use Rattle.bus_event.specs.declared.event.Told.{Told}
use Rattle.bus_call_specs.specs.Kept.{Kept, kept}
use Rattle.bus_call_specs.specs.Event.{reason, terminal_of, at_terminal, event_told, terminals_after, images_after, letters_after}
use Rattle.bus_call_specs.specs.Lists.{Carries, told, called, replied, notes_told}
use Rattle.bus_call_specs.proofs.Fields.{periods_of}
use Rattle.bus_call_specs.proofs.InOrder.{order_reason}
use Rattle.bus_call_specs.proofs.Fitting.{Fit, in_order}
use Rattle.bus_call_specs.proofs.Refused.{refused_keeps}
use Rattle.bus_call_specs.proofs.EventLeft.{hit_carried, asked_is, asked_carried, terminal_there, power_told, power_carried, no_frame, frame_reason_lem, gives_frame_lem, frame_carried}

-- what is to be shown of a call
pub record Carried (k : Kept) (b : Bus) (c : Call) : Type 0 where
  pub replies : replied k c ≡ bus.reply b c
  pub tells : notes_told k c ≡ bus.notes b c
  pub carries : Carries (called k c) (bus.after b c)

module _ (k : Kept) (b : Bus) (c : Carries k b) (unit number : ℕ) (value : List ℕ) where
  abbrev call : Call
  call = event unit number value

  replied_told : replied k call ≡ (told unit number value k).reply
  unfolding replied
  replied_told = refl

  -- from the answer, by whether the call is refused
  abbrev Accepted : Type 0
  Accepted =
      (notes_of b.periods unit (noted (told unit number value k).notes) ≡ event_notes unit number value b)
      × Carries (called k call) (event_done unit number value b)

  tells_by : (told unit number value k).reply ≡ bus.reply b call → (eqb (bus.reply b call) 0 ≡ true → Accepted) → notes_told k call ≡ bus.notes b call
  unfolding notes_told bus.notes bus.tells
  tells_by e accepted =
      rw (replied_told ∙ e)
      (by_test (eqb (bus.reply b call) 0)
      (λ t. rw t (ap (λ (n : ℕ). notes_of n unit (noted (told unit number value k).notes)) (periods_of c.record_is) ∙ (accepted t).0))
      (λ t. rw t))

  carries_by : (told unit number value k).reply ≡ bus.reply b call → (eqb (bus.reply b call) 0 ≡ true → Accepted) → Carries (called k call) (bus.after b call)
  unfolding bus.after bus.does
  carries_by e accepted =
      by_test (eqb (bus.reply b call) 0)
      (λ t. rw t (accepted t).1)
      (λ t. rw (t, refused_keeps k call (λ z. eqb-false (bus.reply b call) 0 t (sym (replied_told ∙ e) ∙ z))) c)

  finish : (told unit number value k).reply ≡ bus.reply b call → (eqb (bus.reply b call) 0 ≡ true → Accepted) → Carried k b call
  finish e accepted = record { replies = replied_told ∙ e; tells = tells_by e accepted; carries = carries_by e accepted }

  -- ---- the reasons that are known before a unit is asked
  abbrev why : ℕ
  why = reason unit number value k.bus k.terminals k.images k.letters

  away_reply : (n : ℕ) → why ≡ n → eqb n 0 ≡ false → (told unit number value k).reply ≡ n
  unfolding told event_told parts.told
  away_reply n e z = rw (e, z)

  turned_away : (n : ℕ) → why ≡ n → eqb n 0 ≡ false → bus.reply b call ≡ n → Carried k b call
  turned_away n e z r = finish (away_reply n e z ∙ sym r) (λ t. clash (eqb n 0) (rw r at t) z)

  -- ---- where none of them holds
  module _ (e : why ≡ 0) where
    at_network : eqb unit 0 ≡ true →
        (told unit number value k ≡ network_told number k.bus)
        × (called k call ≡ kept (network_told number k.bus).bus k.terminals k.images k.octets (parts.letters_after number value k.letters) k.notes)
    unfolding called told event_told terminals_after images_after letters_after
    at_network t = (rw (e, t), rw (e, t))

    abbrev here : TerminalStep
    here = at_terminal unit number value k.bus k.terminals k.images k.letters

    abbrev there : Terminal
    there = terminal_of unit number value k.bus k.terminals k.images k.letters

    at_terminal_lem : eqb unit 0 ≡ false →
        (told unit number value k ≡ parts.told k.bus here.notes here.reply)
        × (called k call ≡
        kept k.bus (set k.terminals (unit - 1) here.terminal) (parts.images_after number there (unit - 1) value k.images) k.octets k.letters k.notes)
    unfolding called told event_told terminals_after images_after letters_after parts.event_settled parts.told
    at_terminal_lem t = (rw (e, t), rw (e, t))

    -- unit 0
    network_event : Fit b → bus.reply b call ≡ barred.replied b unit number value → (eqb number HIT && not (are_letters value)) ≡ false → eqb unit 0 ≡ true → Carried k b call
    unfolding network_told network_asked parts.told barred.replied parts.letters_after event_notes event_done noted notes_of
    network_event f r l t =
        by_test (eqb number HIT)
        (λ u.
        let letters : are_letters value ≡ true = both_so (eqb number HIT) (are_letters value) l u in
        let none : bus.reply b call ≡ 0 = r ∙ rw (t, u) in
        finish (rw ((at_network t).0, u) (sym none))
        (λ z. (rw ((at_network t).0, t, u), rw ((at_network t).1, t, u) (hit_carried k b c value letters))))
        (λ u.
        let does : bus.reply b call ≡ (network_does number b.periods b.network).reply = r ∙ rw (t, u) in
        finish (rw ((at_network t).0, u, asked_is k b c f number) (sym does))
        (λ z. (rw ((at_network t).0, t, u, asked_is k b c f number, eqb-true unit 0 t), rw ((at_network t).1, t, u) (asked_carried k b c f number))))
      where
        both_so : (a g : Bool) → (a && not g) ≡ false → a ≡ true → g ≡ true
        both_so true true h e = refl
        both_so true false h e = clash true refl h
        both_so false g h e = clash false e refl

    -- power and requests of a terminal
    power_event : Fit b → bus.reply b call ≡ barred.replied b unit number value → eqb unit 0 ≡ false → eqb (class_of number) 0 ≡ true → Carried k b call
    unfolding parts.told barred.replied parts.images_after event_notes event_done
    power_event f r z none =
        let d = no_frame number none in
        let step : TerminalStep = terminal_does number b.periods (station_of b unit).terminal in
        let here-is : here ≡ step = power_told k b c unit f number value none in
        let does : bus.reply b call ≡ step.reply = r ∙ rw (z, none) in
        finish (rw ((at_terminal_lem z).0, here-is) (sym does))
        (λ t. (rw ((at_terminal_lem z).0, here-is, z, none), rw ((at_terminal_lem z).1, here-is, z, d.0, d.1) (power_carried k b c unit f number value none)))

    -- a frame
    frame_event : Fit b → bus.reply b call ≡ barred.replied b unit number value → ((i : ℕ) → get_or value i 0 < 256) → ltb terminals unit ≡ false →
        eqb unit 0 ≡ false → eqb (class_of number) 0 ≡ false → Carried k b call
    unfolding parts.told barred.replied event_notes event_done frame_given parts.images_with noted notes_of
    frame_event f r octets known z some =
        let i : ℕ = unit - 1 in
        let l : i < terminals = omega (arith, ltb-false terminals unit known, eqb-false unit 0 z) in
        let t : Terminal = (station_of b unit).terminal in
        let there-is : there ≡ t = terminal_there k b c unit in
        let given = gives_frame_lem number k.images i value k.bus.periods there some in
        let replies : bus.reply b call ≡ barred.frame_reply value t = r ∙ rw (z, some) in
        let why_not : frame_reason (length k.images) i (length value) t ≡ bus.reply b call =
        frame_reason_lem (length k.images) i value t (f.in_range.terminals_fit i) c.images_fit l octets ∙ sym replies in
        by_test (eqb (bus.reply b call) 0)
        (λ q.
        let takes : Takes (station_of b unit) value = accepted_frame b unit number value (unfold bus.reply in eqb-true (bus.reply b call) 0 q) some in
        let now : here ≡ terminalCalls.hand_over_call (class_given number) (length (image value)) t = given.0 ∙ rw (there-is, why_not, q) in
        let images-now : parts.images_after number there i value k.images ≡ image_put i value k.images = given.1 ∙ rw (there-is, why_not, q) in
        finish (ap (λ (x : Told). x.reply) (at_terminal_lem z).0 ∙ (rw now (handed_reply takes) ∙ sym (eqb-true (bus.reply b call) 0 q)))
        (λ p. (rw ((at_terminal_lem z).0, now, handed_notes, z, some), rw ((at_terminal_lem z).1, now, images-now, z) (frame_carried k b c f unit number value some l takes))))
        (λ q.
        let now : here ≡ terminal.unchanged (bus.reply b call) there = given.0 ∙ rw (there-is, why_not, q) in
        finish (rw ((at_terminal_lem z).0, now)) (λ p. clash (eqb (bus.reply b call) 0) p q))
      where
        handed_reply : Takes (station_of b unit) value → (terminalCalls.hand_over_call (class_given number) (length (image value)) (station_of b unit).terminal).reply ≡ 0
        handed_reply takes = barred.frame_reply_lem (class_given number) value (station_of b unit).terminal (f.in_range.terminals_fit (unit - 1)) takes.good ∙ rw (takes.in_f7_lem, takes.free)

        handed_notes : (terminalCalls.hand_over_call (class_given number) (length (image value)) (station_of b unit).terminal).notes ≡ packed_notes []
        handed_notes =
            ap (λ (x : TerminalStep). x.notes) (handed_over_called (class_given number) (length (image value)) (station_of b unit).terminal (f.in_range.terminals_fit (unit - 1)))
            ∙ hands_over_notes (class_given number) (length (image value)) (station_of b unit).terminal

-- ---- every event
module _ (k : Kept) (b : Bus) (c : Carries k b) (f : Fit b) (unit number : ℕ) (value : List ℕ) where
  why_is : why k b c unit number value ≡ first_holding (call_reasons unit number value)
  why_is = order_reason k (in_order k b c f) unit number value

  -- what the call itself decides, or what the two ends answer
  pub event_carried : ((i : ℕ) → get_or value i 0 < 256) → Carried k b (event unit number value)
  unfolding bus.reply refusal reasons
  event_carried octets =
      let by_call = first_holding (call_reasons unit number value) in
      by_test (eqb by_call 0)
      (λ none.
      let e = eqb-true by_call 0 none in
      let why-0 : why k b c unit number value ≡ 0 = why_is ∙ e in
      let r = barred.refusal_replied b unit value number e in
      by_test (eqb unit 0)
      (λ z. network_event k b c unit number value why-0 f r (barred.right_letters unit number value e) z)
      (λ z.
      by_test (eqb (class_of number) 0)
      (λ n. power_event k b c unit number value why-0 f r z n)
      (λ n. frame_event k b c unit number value why-0 f r octets (barred.unit_known unit number value e) z n)))
      (λ some.
      turned_away k b c unit number value by_call why_is some
      (first_append (call_reasons unit number value) (state_reasons b unit number value) (barred.none_is_0 unit number value) ∙ rw some))
