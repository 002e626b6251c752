-- A call that is turned down hands back its number alone and leaves everything as it was.
use mathlib.Core.Path.{◌≡◌, refl, sym, ap, ◌∙◌}
use mathlib.Core.Bool.{Bool, true, false, cond, ◌&&◌}
use mathlib.Core.List.{List, [], ◌∷◌}
use Prim.Native.Nat.{ℕ, zero, suc, ◌-◌, ◌<◌}
use native.Mathlib.Omega.{arith}
use lib.Dec.{eqb, ltb, leb}
use lib.ListN.{length}
use lib.Seq.{set-get_or}
use borrow.Author.Tests.{eqb-true, eqb-false, ne_eqb, leb-true, le-leb, ltb-true, not-false}
use Rattle.test_lemmas.proofs.ByCases.{by_test, neither}
use Rattle.notes_and_cells.specs.Notes.{packed_notes}
use Rattle.notes_and_cells.specs.declared.cell.Cell.{Cell}
use Rattle.notes_and_cells.specs.declared.cell.Cell.TheVariants.{To, Stay, Impossible, Absent}
use Rattle.std.specs.Prelude.{Result, Ok, Err}
use Rattle.refusals.specs.Numbers as reasons
use Rattle.refusals.specs.declared.Refusal.{Refusal}
use Rattle.hdlc.specs.Bits.{body_bits}
use Rattle.hdlc.specs.Image.{image, longest_body, longest_image, shortest_image}
use Rattle.hdlc.proofs.ImageLaws.{length_image, length_stuff_least, length_stuff_most, length_body_bits}
use Rattle.packing.specs.Packing.{is_body_length}
use Rattle.dchannel.specs.Calls.{is_image_length, handed}
use Rattle.dchannel.specs.declared.access.Class.{Class}
use Rattle.table_6_2.specs.Table62.{F7}
use Rattle.table_6_2.specs.Table62 as Table62
use Rattle.timing.specs.Calls.{all_run}
use Rattle.timing.specs.declared.counts.Periods.{Periods}
use Rattle.network.specs.Network as network
use Rattle.network.specs.Calls as networkCalls
use Rattle.network.specs.declared.Network.{Network}
use Rattle.network.specs.Steps.{NetworkStep}
use Rattle.terminal.specs.Terminal as terminal
use Rattle.terminal.specs.Calls as terminalCalls
use Rattle.terminal.specs.declared.Terminal.{Terminal}
use Rattle.terminal.specs.Steps.{TerminalStep, step_of, as_result}
use Rattle.terminal.specs.declared.TerminalStep as code
use Rattle.bus_rules.specs.Event.{among, class_of, call_reasons, first_holding}
use Rattle.notes_and_cells.specs.Events.{ON, OFF, AR, D1, D2, HIT}
use Rattle.bus_rules.specs.Calls.{Call, bus_refusals}
use Rattle.bus_rules.specs.Calls.Call.{event, period}
use Rattle.bus_rules.proofs.Ranges.{class_given}
use Rattle.bus_rules.proofs.Refusals.{numbers_of, each, each_among, none_holds, first_listed}
use Rattle.bus_record.specs.Record.{record_in_range}
use Rattle.bus_record.specs.NetworkSide.{refused_run}
use Rattle.bus_record.specs.declared.record.BusRecord.{BusRecord}
use Rattle.bus_record.specs.declared.side.RunAnswer.{RunAnswer}
use Rattle.bus_event.specs.Event.{first_reason, asked, network_asked, network_told, frame_reason, frame_given, terminal_told}
use Rattle.bus_event.specs.Event as parts
use Rattle.bus_call_specs.specs.Kept.{Kept}
use Rattle.bus_call_specs.specs.Period.{period_answer, kept_run}
use Rattle.bus_call_specs.specs.Ready.{eight_in_range, lent_fits, run_reason, run_reply, run_goes_on}
use Rattle.bus_call_specs.specs.Run.{answer_on, not_yet, run_answer, kept_after}
use Rattle.bus_call_specs.specs.Event.{reason, terminal_of, at_terminal, event_told, terminals_after, images_after, letters_after}
use Rattle.bus_call_specs.specs.Lists.{told, called, replied, notes_told}
use Rattle.bus_call_specs.specs.Refused.{Listed, RefusedKeeps, RefusedRunKeeps, RefusedAlone, RefusedRunAlone, RepliesListed, RunRepliesListed}
use Rattle.bus_call_specs.proofs.RunSingle.{stays, ran_ends, kept_ends}
use Rattle.bus_call_specs.proofs.EventLeft.{no_refusal, reader_stays, no_frame, gives_frame_lem}

-- listed numbers are octets
pub listed_octet : (n : ℕ) → Listed n → n < 256
listed_octet n l = ltb-true n 256 (each_among (λ x. ltb x 256) n (0 ∷ bus_refusals) refl l)

-- the first of some reasons with listed numbers
listed_first : (rs : List (ℕ × Bool)) → each (λ n. among n (0 ∷ bus_refusals)) (numbers_of rs) ≡ true → Listed (first_holding rs)
listed_first rs h = each_among (λ n. among n (0 ∷ bus_refusals)) (first_holding rs) (0 ∷ numbers_of rs) h (first_listed rs)

-- ---- A step of the network end: refused, it changes nothing and has no note.
record NetworkAnswer (n : Network) (s : NetworkStep) : Type 0 where
  keeps : (s.reply ≡ 0 → ⊥) → s.network ≡ n
  silent : (s.reply ≡ 0 → ⊥) → s.notes ≡ packed_notes []
  listed : Listed s.reply

network_down : (k : ℕ) → Listed k → (n : Network) → NetworkAnswer n (network.unchanged k n)
network_down k l n = record { keeps = λ h. refl; silent = λ h. refl; listed = l }

network_acts : (c : Cell) (now : ℕ) (n : Network) → NetworkAnswer n (network.acts c now n)
unfolding network.acts
network_acts (To next action notes) now n = record { keeps = λ h. absurd (h refl); silent = λ h. absurd (h refl); listed = refl }
network_acts (Stay notes) now n = record { keeps = λ h. absurd (h refl); silent = λ h. absurd (h refl); listed = refl }
network_acts Impossible now n = network_down 0 refl n
network_acts Absent now n = network_down 0 refl n

network_requests : (number now : ℕ) (n : Network) → NetworkAnswer n (network.requests number now n)
unfolding network.requests network.happens
network_requests number now n =
    by_test (network.is_request number)
    (λ t. rw t (by_test (network.bars number n.state) (λ u. rw u (network_down 5 refl n)) (λ u. rw u (network_acts _ now n))))
    (λ t. rw t (network_down 4 refl n))

network_asked_lem : (number : ℕ) (r : BusRecord) → NetworkAnswer r.network (asked number r)
unfolding asked networkCalls.checked
network_asked_lem number r =
    by_test (networkCalls.ready r.periods r.network)
    (λ t. rw t (network_requests _ r.periods.0 r.network))
    (λ t. rw t (network_down 1 refl r.network))

module _ (number : ℕ) (r : BusRecord) where
  network_listed : Listed (network_told number r).reply
  unfolding network_told network_asked parts.told
  network_listed = by_test (eqb number HIT) (λ t. rw t) (λ t. rw t (network_asked_lem number r).listed)

  module _ (h : (network_told number r).reply ≡ 0 → ⊥) where
    no_hit : eqb number HIT ≡ false
    unfolding network_told parts.told
    no_hit = by_test (eqb number HIT) (λ t. absurd ((rw t at h) refl)) (λ t. t)

    network_alone : network_told number r ≡ parts.told r (packed_notes []) (network_told number r).reply
    unfolding network_told network_asked parts.told
    network_alone =
        let refused : (asked number r).reply ≡ 0 → ⊥ = rw no_hit at h in
        rw (no_hit, (network_asked_lem number r).keeps refused, (network_asked_lem number r).silent refused, reader_stays r.network.state r.reader)

-- ---- A step of a terminal.
pub record TerminalAnswer (t : Terminal) (s : TerminalStep) : Type 0 where
  keeps : (s.reply ≡ 0 → ⊥) → s.terminal ≡ t
  silent : (s.reply ≡ 0 → ⊥) → s.notes ≡ packed_notes []
  listed : Listed s.reply

-- A listed number is a reason's, or 0.
abbrev is_reason : ℕ → Bool
is_reason n = cond (eqb n 0) true (eqb (reasons.number (reasons.reason_of n)) n)

pub listed_reason : (n : ℕ) → Listed n → eqb n 0 ≡ false → n ≡ reasons.number (reasons.reason_of n)
listed_reason n l z =
    let e : is_reason n ≡ true = each_among is_reason n (0 ∷ bus_refusals) refl l in
    sym (eqb-true (reasons.number (reasons.reason_of n)) n (rw z at e))

pub reason_listed : (ready : Bool) (bus : BusRecord) (images : ℕ) (letters : List ℕ) (unit number : ℕ) (value : List ℕ) →
    Listed (first_reason ready bus images letters unit number value)
unfolding first_reason call_reasons
reason_listed ready bus images letters unit number value = listed_first _ refl

-- What the code's answer says of a step that is refused.
pub refused_step : (t : Terminal) (s : TerminalStep) → TerminalAnswer t s → (r : Refusal) → as_result s ≡ Err r → terminal.unchanged (reasons.number r) t ≡ s
unfolding as_result
refused_step t s a r h =
    by_test (eqb s.reply 0)
    (λ z. let e : ◌≡◌ {A = Result code.TerminalStep Refusal} (Ok (step_of s)) (Err r) = rw z at h in
    let no : ◌≡◌ {A = ℕ} 0 1 = cc in absurd (omega arith))
    (λ z. let e : ◌≡◌ {A = Result code.TerminalStep Refusal} (Err (reasons.reason_of s.reply)) (Err r) = rw z at h in
    let q : reasons.reason_of s.reply ≡ r = cc in
    let some = eqb-false s.reply 0 z in
    let n : s.reply ≡ reasons.number r = listed_reason s.reply a.listed z ∙ ap reasons.number q in
    rw (← a.keeps some, ← a.silent some, ← n) refl)

terminal_down : (k : ℕ) → Listed k → (t : Terminal) → TerminalAnswer t (terminal.unchanged k t)
terminal_down k l t = record { keeps = λ h. refl; silent = λ h. refl; listed = l }

accepted : (t : Terminal) (s : TerminalStep) → s.reply ≡ 0 → TerminalAnswer t s
accepted t s e = record { keeps = λ h. absurd (h e); silent = λ h. absurd (h e); listed = rw e }

module _ (now : ℕ) (t : Terminal) where
  unless_barred : (e : ℕ) (s : TerminalStep) → s.reply ≡ 0 → TerminalAnswer t (cond (terminal.bars e t.state) (terminal.unchanged 5 t) s)
  unless_barred e s r = by_test (terminal.bars e t.state) (λ v. rw v (terminal_down 5 refl t)) (λ v. rw v (accepted t s r))

  switches_on : TerminalAnswer t (terminal.switches_on now t)
  unfolding terminal.switches_on terminal.happens
  switches_on = unless_barred Table62.on_row _ (no_refusal _ now _)

  switches_off_lem : TerminalAnswer t (terminal.switches_off now t)
  unfolding terminal.switches_off terminal.happens
  switches_off_lem = unless_barred Table62.off_row _ (no_refusal _ now _)

  requests : TerminalAnswer t (terminal.requests now t)
  unfolding terminal.requests terminal.happens
  requests = unless_barred Table62.ar_row _ (no_refusal _ now _)

when_ready : (step : ℕ → Terminal → TerminalStep) (now : Periods) (t : Terminal) → TerminalAnswer t (step now.0 t) → TerminalAnswer t (terminalCalls.checked step now t)
unfolding terminalCalls.checked
when_ready step now t a = by_test (terminalCalls.ready now t) (λ v. rw v a) (λ v. rw v (terminal_down 1 refl t))

-- ---- A frame: where no reason holds, the access takes it.
image_length : (body : List ℕ) → is_body_length (length body) ≡ true → is_image_length (length (image body)) ≡ true
unfolding is_body_length is_image_length
image_length body h =
    let n = neither (eqb (length body) 0) (leb (length body) longest_body) h in
    let some = eqb-false (length body) 0 n.0 in
    let most = leb-true (length body) longest_body n.1 in
    rw (
      le-leb shortest_image (length (image body)) (omega (arith, some, length_image body, length_stuff_least (body_bits body) 0, length_body_bits body)),
      le-leb (length (image body)) longest_image (omega (arith, most, length_image body, length_stuff_most (body_bits body) 0 (omega arith), length_body_bits body)),
    )

module _ (class : Class) (images : List ℕ) (i : ℕ) (body : List ℕ) (t : Terminal) where
  abbrev why_not : ℕ
  why_not = frame_reason (length images) i (length body) t

  taken : eqb why_not 0 ≡ true → (terminalCalls.hand_over_call class (length (image body)) t).reply ≡ 0
  unfolding frame_reason terminalCalls.hand_over_call terminalCalls.hands_over terminalCalls.holding handed
  taken z =
      let n = none_holds _ refl (eqb-true why_not 0 z) in
      rw (
        not-false (terminalCalls.terminal_in_range t) (n 1),
        not-false (eqb t.state F7) (n 6),
        image_length body (not-false (is_body_length (length body)) (n 7)),
        not-false (eqb t.access.held 0) (n 8),
      )

  why_listed : Listed why_not
  unfolding frame_reason
  why_listed = listed_first _ refl

  frame_given_lem : TerminalAnswer t (frame_given class images i body t)
  unfolding frame_given
  frame_given_lem = by_test (eqb why_not 0) (λ z. rw z (accepted t _ (taken z))) (λ z. rw z (terminal_down why_not why_listed t))

  frame_images : ((frame_given class images i body t).reply ≡ 0 → ⊥) → parts.images_with t i body images ≡ images
  unfolding frame_given parts.images_with
  frame_images h = by_test (eqb why_not 0) (λ z. absurd ((rw z at h) (taken z))) (λ z. rw z)

-- ---- An event of a terminal.
module _ (number : ℕ) (images : List ℕ) (i : ℕ) (value : List ℕ) (now : Periods) (t : Terminal) where
  no_frame_given : (eqb number D1 ≡ false) × (eqb number D2 ≡ false) → TerminalAnswer t (terminal_told number images i value now t)
  unfolding terminal_told
  no_frame_given d =
      by_test (eqb number ON) (λ u. rw u (when_ready terminal.switches_on now t (switches_on now.0 t)))
      (λ u.
      by_test (eqb number OFF) (λ v. rw (u, v) (when_ready terminal.switches_off now t (switches_off_lem now.0 t)))
      (λ v.
      by_test (eqb number AR) (λ w. rw (u, v, w) (when_ready terminal.requests now t (requests now.0 t)))
      (λ w. rw (u, v, w, d.0, d.1) (terminal_down 0 refl t))))

  pub terminal_answers : TerminalAnswer t (terminal_told number images i value now t)
  terminal_answers =
      by_test (eqb (class_of number) 0)
      (λ c. no_frame_given (no_frame number c))
      (λ c. rw (gives_frame_lem number images i value now t c).0 (frame_given_lem (class_given number) images i value t))

  images_kept : ((terminal_told number images i value now t).reply ≡ 0 → ⊥) → parts.images_after number t i value images ≡ images
  unfolding parts.images_after
  images_kept h =
      by_test (eqb (class_of number) 0)
      (λ c. let d = no_frame number c in rw (d.0, d.1))
      (λ c.
      let g = gives_frame_lem number images i value now t c in
      g.1 ∙ frame_images (class_given number) images i value t (rw g.0 at h))

-- ---- An event.
module _ (unit number : ℕ) (value : List ℕ) (k : Kept) where
  abbrev why : ℕ
  why = reason unit number value k.bus k.terminals k.images k.letters

  abbrev there : Terminal
  there = terminal_of unit number value k.bus k.terminals k.images k.letters

  answers : TerminalAnswer there (at_terminal unit number value k.bus k.terminals k.images k.letters)
  answers = terminal_answers number k.images (unit - 1) value k.bus.periods there

  why_fits : Listed why
  unfolding first_reason call_reasons
  why_fits = listed_first _ refl

  event_listed : Listed (told unit number value k).reply
  unfolding told event_told parts.event_settled parts.told
  event_listed =
      by_test (eqb why 0)
      (λ z. by_test (eqb unit 0) (λ u. rw (z, u) (network_listed number k.bus)) (λ u. rw (z, u) answers.listed))
      (λ z. rw z why_fits)

  event_alone : ((told unit number value k).reply ≡ 0 → ⊥) → told unit number value k ≡ parts.told k.bus (packed_notes []) (told unit number value k).reply
  unfolding told event_told parts.event_settled parts.told
  event_alone h =
      by_test (eqb why 0)
      (λ z. by_test (eqb unit 0)
      (λ u. rw (z, u) (unfold parts.told in network_alone number k.bus (rw (z, u) at h)))
      (λ u. rw (z, u, answers.silent (rw (z, u) at h))))
      (λ z. rw z)

  event_keeps : ((told unit number value k).reply ≡ 0 → ⊥) → called k (event unit number value) ≡ k
  unfolding called told event_told parts.event_settled parts.told terminals_after images_after letters_after parts.letters_after
  event_keeps h =
      by_test (eqb why 0)
      (λ z. by_test (eqb unit 0)
      (λ u.
      let refused : (network_told number k.bus).reply ≡ 0 → ⊥ = rw (z, u) at h in
      rw (z, u, no_hit number k.bus refused, network_alone number k.bus refused))
      (λ u.
      let refused = rw (z, u) at h in
      rw (z, u, answers.keeps refused, images_kept number k.images (unit - 1) value k.bus.periods there refused, set-get_or k.terminals (unit - 1) terminal.fresh)))
      (λ z. rw z)

pub refused_alone : RefusedAlone
refused_alone = event_alone

-- ---- A run.
run_listed : (a b c : Bool) → Listed (cond a (cond b (cond c 9 0) 2) 1)
run_listed true true true = refl
run_listed true true false = refl
run_listed true false c = refl
run_listed false b c = refl

goes_replies : (n : ℕ) (last : RunAnswer) (k : Kept) → last.reply ≡ 0 → (answer_on n last k).reply ≡ 0
unfolding answer_on period_answer
goes_replies zero last k e = e
goes_replies (suc n) last k e = by_test (run_goes_on last (suc n)) (λ g. rw g (goes_replies n (period_answer k) (kept_run k) refl)) (λ g. rw g e)

module _ (most : ℕ) (k : Kept) where
  run_accepted : eqb (run_reply most k) 0 ≡ true → (run_answer most k).reply ≡ 0
  unfolding run_answer not_yet refused_run
  run_accepted z = goes_replies most (not_yet most k) k (eqb-true (run_reply most k) 0 z)

  pub refused_ran : eqb (run_reply most k) 0 ≡ false → run_answer most k ≡ refused_run (run_reply most k) k.bus
  unfolding run_answer not_yet
  refused_ran z = ran_ends most (not_yet most k) k (stays most most k z)

  reply_listed : Listed (run_reply most k)
  unfolding run_reply run_reason
  reply_listed =
      run_listed (eight_in_range k.terminals && record_in_range k.bus) (lent_fits (length k.images) (length k.octets) k.letters (length k.notes))
      (ltb 0 most && all_run k.bus.periods)

pub run_replies_listed : RunRepliesListed
unfolding refused_run
run_replies_listed most k =
    by_test (eqb (run_reply most k) 0) (λ z. rw (run_accepted most k z)) (λ z. rw (refused_ran most k z) (reply_listed most k))

pub refused_run_keeps : RefusedRunKeeps
unfolding kept_after
refused_run_keeps most k h =
    by_test (eqb (run_reply most k) 0) (λ z. absurd (h (run_accepted most k z))) (λ z. kept_ends most (not_yet most k) k (stays most most k z))

pub refused_run_alone : RefusedRunAlone
unfolding refused_run
refused_run_alone most k h = by_test (eqb (run_reply most k) 0) (λ z. absurd (h (run_accepted most k z))) (λ z. rw (refused_ran most k z))

-- ---- A call.
pub refused_keeps : RefusedKeeps
unfolding called replied
refused_keeps k (event unit number value) h = unfold called in event_keeps unit number value k h
refused_keeps k period h = refused_run_keeps 1 k h

pub replies_listed : RepliesListed
unfolding replied
replies_listed k (event unit number value) = event_listed unit number value k
replies_listed k period = run_replies_listed 1 k

-- it has no notes
pub refused_tells_none : (k : Kept) (c : Call) → (replied k c ≡ 0 → ⊥) → notes_told k c ≡ []
unfolding notes_told
refused_tells_none k (event unit number value) h = rw (ne_eqb _ _ h)
refused_tells_none k period h = rw (ne_eqb _ _ h)
