-- Every note of a call has a code: `specs/Lists.antt`.
use mathlib.Core.Path.{◌≡◌, refl}
use mathlib.Core.Bool.{Bool, true, false, cond}
use mathlib.Core.List.{List, [], ◌∷◌, ◌++◌, map}
use Prim.Native.Nat.{ℕ, zero, suc, ◌+◌}
use native.Mathlib.Omega.{arith}
use lib.Dec.{eqb, ltb}
use lib.ListN.{length}
use borrow.Author.Tests.{eqb-true, ltb-false, le-ltb, lt-leb, ne_eqb}
use Rattle.test_lemmas.proofs.ByCases.{by_test, both, clash}
use Rattle.notes_and_cells.specs.Notes.{packed_notes, noted}
use Rattle.notes_and_cells.proofs.NotesKept.{every_note, every_append, every_of, is_indication}
use Rattle.table_6_3.specs.Table63 as Table63
use Rattle.timing.specs.declared.counts.Periods.{Periods}
use Rattle.dchannel.specs.declared.access.Class.{Class}
use Rattle.dchannel.specs.declared.access.Class.TheVariants.{One, Two}
use Rattle.hdlc.specs.Image.{image}
use Rattle.heard_line.specs.Sensing.{shown_down}
use Rattle.network.specs.Calls as networkCalls
use Rattle.network.proofs.Laws as network-laws
use Rattle.terminal.specs.Terminal as terminal
use Rattle.terminal.specs.Calls as terminalCalls
use Rattle.terminal.specs.declared.Terminal.{Terminal}
use Rattle.terminal.specs.Steps.{TerminalStep}
use Rattle.terminal.proofs.Laws as terminal-laws
use Rattle.terminal.proofs.Laws.{is_terminal_note, timer_told}
use Rattle.bus_rules.specs.Bus.{Note, notes_of}
use Rattle.bus_rules.specs.Order.{unit_by_unit}
use Rattle.bus_rules.specs.Calls.Call.{event, period}
use Rattle.notes_and_cells.specs.Events.{ON, OFF, AR, D1, D2, HIT}
use Rattle.bus_rules.specs.Exchange.{Sender, exchanged, whole_down}
use Rattle.bus_rules.specs.Period.{terminal_hears}
use Rattle.bus_rules.proofs.Telling.{network_hears_plain, network_timers_plain, terminal_hears_plain}
use Rattle.d_reader.specs.declared.ReaderAnswer.{ReaderAnswer}
use Rattle.d_reader.specs.declared.ReaderAnswer.TheVariants.{Nothing, Heard, Torn}
use Rattle.refusals.specs.declared.Refusal.{Refusal}
use Rattle.std.specs.Prelude.{Result, Ok, Err}
use Rattle.hdlc.specs.Bits.{bit_of}
use Rattle.period_hearing.specs.Shown.{heard_notes, timed_notes, terminal_notes}
use Rattle.period_hearing.specs.declared.hears.UnitNotes.{UnitNotes}
use Rattle.bus_record.specs.declared.record.BusRecord.{BusRecord}
use Rattle.bus_record.specs.declared.side.RunAnswer.{RunAnswer}
use Rattle.bus_event.specs.Event as parts
use Rattle.bus_call_specs.specs.Kept.{Kept}
use Rattle.bus_call_specs.specs.Shown.{bus_in}
use Rattle.bus_call_specs.specs.Period.{note_of, network_notes, terminals_notes, answers_in, period_answer, kept_run}
use Rattle.bus_call_specs.specs.Ready.{run_goes_on}
use Rattle.bus_call_specs.specs.Run.{run_answer, kept_after}
use Rattle.bus_call_specs.specs.Event.{reason, event_told}
use Rattle.bus_call_specs.specs.Lists.{told, replied, notes_told, done_notes, reader_told, terminals_heard, terminals_told, timers_told, period_told, run_told, is_code, coded, NotesCoded, RunNotesCoded}
use Rattle.bus_call_specs.proofs.QuietRuns.{accepted_one, one_told, told_on, told_end}

-- ---- Lists of notes.
coded_append : (xs ys : List Note) → coded xs ≡ true → coded ys ≡ true → coded (xs ++ ys) ≡ true
unfolding coded
coded_append [] ys p q = q
coded_append (x ∷ xs) ys p q = let b = both (is_code x.code) (coded xs) p in rw b.0 (coded_append xs ys b.1 q)

-- the codes of one unit's notes
abbrev Codes : List ℕ → Type 0
Codes codes = every_note is_code codes ≡ true

coded_of : (now unit : ℕ) (codes : List ℕ) → Codes codes → coded (notes_of now unit codes) ≡ true
unfolding coded notes_of every_note
coded_of now unit [] h = refl
coded_of now unit (c ∷ codes) h = let b = both (is_code c) (every_note is_code codes) h in rw b.0 (coded_of now unit codes b.1)

-- an indication has a code, and so has a dropped frame
module _ (code : ℕ) (h : is_terminal_note code ≡ true) where
  large : ltb code 256 ≡ false → is_terminal_note code ≡ false
  large l =
      let n = ltb-false code 256 l in
      rw (le-ltb code 1 (omega arith), lt-leb code 9 (omega arith), ne_eqb code 14 (λ e. omega arith), ne_eqb code 15 (λ e. omega arith))

  terminal_code : is_code code ≡ true
  terminal_code =
      by_test (eqb code 0)
      (λ z. let e = eqb-true code 0 z in clash (is_terminal_note code) h (rw e))
      (λ z. rw z (by_test (ltb code 256) (λ l. l) (λ l. clash (is_terminal_note code) h (large l))))

of_tables : (codes : List ℕ) → every_note is_terminal_note codes ≡ true → Codes codes
of_tables codes h = every_of is_terminal_note is_code terminal_code codes h

of_done : (one two : Bool) → Codes (done_notes one two)
unfolding every_note
of_done true true = refl
of_done true false = refl
of_done false true = refl
of_done false false = refl

-- ---- The parts of a period's notes.
AllCodes : List UnitNotes → Type 0
AllCodes [] = Unit
AllCodes (n ∷ ns) = Codes (noted n.hearing) × Codes (noted n.timers) × AllCodes ns

coded_terminals : (now : ℕ) (r : RunAnswer) (i : ℕ) (ns : List UnitNotes) → AllCodes ns → coded (terminals_told now r i ns) ≡ true
unfolding unit_by_unit terminals_heard coded AllCodes
coded_terminals now r i [] h = refl
coded_terminals now r i (n ∷ ns) h =
    coded_append (notes_of now (suc i) _) (terminals_told now r (suc i) ns)
    (coded_of now (suc i) _ (every_append is_code (done_notes (bit_of r.done1 i) (bit_of r.done2 i)) (noted n.hearing) (of_done (bit_of r.done1 i) (bit_of r.done2 i)) h.0))
    (coded_terminals now r (suc i) ns h.2)

coded_timers : (now i : ℕ) (ns : List UnitNotes) → AllCodes ns → coded (timers_told now i ns) ≡ true
unfolding unit_by_unit coded AllCodes
coded_timers now i [] h = refl
coded_timers now i (n ∷ ns) h =
    coded_append (notes_of now (suc i) (noted n.timers)) (timers_told now (suc i) ns) (coded_of now (suc i) _ h.1) (coded_timers now (suc i) ns h.2)

said_code : (answers : List (Result ReaderAnswer Refusal)) → eqb (note_of answers) 0 ≡ false → is_code (note_of answers) ≡ true
unfolding note_of
said_code [] h = clash true refl h
said_code (Ok (Heard n) ∷ more) h = refl
said_code (Ok Torn ∷ more) h = refl
said_code (Ok Nothing ∷ more) h = said_code more h
said_code (Err k ∷ more) h = said_code more h

-- ---- A period.
module _ (k : Kept) where
  all_codes : (ss : List Sender)
      → AllCodes (map (λ (s : Sender). terminal_notes (shown_down (whole_down (exchanged (bus_in k)))) (bus_in k).periods s.station.terminal) ss)
  unfolding AllCodes terminal_notes heard_notes timed_notes terminal_hears
  all_codes [] = tt
  all_codes (s ∷ ss) = (
    of_tables _ (terminal_hears_plain (whole_down (exchanged (bus_in k))) (bus_in k).periods s.station.terminal),
    of_tables _ (timer_told _ _),
    all_codes ss,
  )

  coded_reader : (now : ℕ) (octets : List ℕ) → coded (reader_told now (period_answer k) octets) ≡ true
  unfolding reader_told coded period_answer
  coded_reader now octets =
      by_test (eqb (note_of (answers_in k)) 0) (λ t. rw t) (λ t. rw t (rw (said_code (answers_in k) t)))

  coded_period : (now : ℕ) (octets : List ℕ) → coded (period_told now (period_answer k) (kept_run k).notes octets) ≡ true
  unfolding period_told period_answer kept_run network_notes terminals_notes
  coded_period now octets =
      let b = bus_in k in
      let all = all_codes (exchanged b).senders in
      coded_append (reader_told now (period_answer k) octets ++ _) _
      (coded_append (reader_told now (period_answer k) octets) _ (coded_reader now octets)
      (coded_append (notes_of now 0 _) _ (coded_of now 0 _ (of_tables _ (network_hears_plain _ _ _))) (coded_terminals now (period_answer k) 0 _ all)))
      (coded_append (notes_of (now + 1) 0 _) _ (coded_of (now + 1) 0 _ (of_tables _ (network_timers_plain _ _))) (coded_timers (now + 1) 0 _ all))

  coded_one : coded (run_told 1 k) ≡ true
  unfolding run_told coded
  coded_one =
      by_test (eqb (run_answer 1 k).reply 0)
      (λ t. let one = accepted_one k t in rw (t, one.kept_is, one.answer_is) (coded_period _ (kept_run k).octets))
      (λ t. rw t)

-- ---- A run.
pub run_notes_coded : RunNotesCoded
run_notes_coded zero k = coded_one k
run_notes_coded (suc n) k =
    by_test (run_goes_on (run_answer 1 k) (suc n))
    (λ g. rw (told_on (suc n) k g) (run_notes_coded n (kept_after 1 k)))
    (λ g. rw (told_end (suc n) k g) (coded_one k))

-- ---- An event: the tables' notes, and those of a dropped frame.
no_codes : Codes (noted (packed_notes []))
unfolding noted every_note
no_codes = refl

module _ (now : Periods) (t : Terminal) where
  of_step : (step : ℕ → Terminal → TerminalStep) → ((p : ℕ) → every_note is_terminal_note (noted (step p t).notes) ≡ true)
      → Codes (noted (terminalCalls.checked step now t).notes)
  unfolding terminalCalls.checked
  of_step step h = by_test (terminalCalls.ready now t) (λ e. rw e (of_tables _ (h now.0))) (λ e. rw e no_codes)

  of_frame : (class : Class) (images : List ℕ) (i : ℕ) (body : List ℕ) → Codes (noted (parts.frame_given class images i body t).notes)
  unfolding parts.frame_given terminalCalls.hand_over_call
  of_frame class images i body =
      by_test (eqb (parts.frame_reason (length images) i (length body) t) 0)
      (λ e. rw e
      (by_test (terminalCalls.terminal_in_range t)
      (λ f. rw (f, terminal-laws.hands_over_notes class (length (image body)) t) no_codes)
      (λ f. rw f no_codes)))
      (λ e. rw e no_codes)

  of_terminal : (number : ℕ) (images : List ℕ) (i : ℕ) (value : List ℕ)
      → Codes (noted (parts.terminal_told number images i value now t).notes)
  unfolding parts.terminal_told
  of_terminal number images i value =
      by_test (eqb number ON) (λ a. rw a (of_step terminal.switches_on (λ p. terminal-laws.on_told p t)))
      (λ a. rw a (by_test (eqb number OFF) (λ b. rw b (of_step terminal.switches_off (λ p. terminal-laws.off_told p t)))
      (λ b. rw b (by_test (eqb number AR) (λ c. rw c (of_step terminal.requests (λ p. terminal-laws.requests_told p t)))
      (λ c. rw c (by_test (eqb number D1) (λ d. rw d (of_frame One images i value))
      (λ d. rw d (by_test (eqb number D2) (λ e. rw e (of_frame Two images i value)) (λ e. rw e no_codes)))))))))

of_network : (number : ℕ) (bus : BusRecord) → Codes (noted (parts.network_told number bus).notes)
unfolding parts.network_told parts.network_asked parts.asked parts.told networkCalls.checked
of_network number bus =
    let request = cond (eqb number AR) Table63.ar_row Table63.dr_row in
    by_test (eqb number HIT) (λ h. rw h no_codes)
    (λ h. rw h
    (by_test (networkCalls.ready bus.periods bus.network)
    (λ r. rw r
    (of_tables _
    (every_of is_indication is_terminal_note (λ code i. rw i) _ (network-laws.requests_told request bus.periods.0 bus.network))))
    (λ r. rw r no_codes)))

of_event : (unit number : ℕ) (value : List ℕ) (k : Kept) → Codes (noted (told unit number value k).notes)
unfolding told event_told parts.event_settled parts.told
of_event unit number value k =
    by_test (eqb (reason unit number value k.bus k.terminals k.images k.letters) 0)
    (λ r. rw r
    (by_test (eqb unit 0) (λ u. rw u (of_network number k.bus))
    (λ u. rw u (of_terminal k.bus.periods _ number k.images _ value))))
    (λ r. rw r no_codes)

-- ---- A call.
pub notes_coded : NotesCoded
unfolding notes_told coded
notes_coded k (event unit number value) =
    by_test (eqb (replied k (event unit number value)) 0) (λ t. rw t (coded_of _ unit _ (of_event unit number value k))) (λ t. rw t)
notes_coded k period = rw (← one_told k) (run_notes_coded zero k)
