-- A run of at most so many periods is some calls of one period: `specs/Told.antt`.
use mathlib.Core.Path.{◌≡◌, refl, sym, ap, ◌∙◌}
use mathlib.Core.Bool.{Bool, true, false}
use mathlib.Core.List.{List, [], ◌∷◌, ◌++◌, append-nil}
use Prim.Native.Nat.{ℕ, zero, suc, ◌+◌, ◌-◌, ◌≤◌, ◌<◌}
use native.Mathlib.Omega.{arith}
use lib.ListN.{length, take, replicate, length-take}
use lib.Seq.{take-take}
use borrow.Author.Tests.{lt-ltb, ltb-true, lt-leb}
use Rattle.test_lemmas.proofs.ByCases.{by_test}
use Rattle.hdlc.specs.Image.{longest_body}
use Rattle.timing.specs.Counts.{most_periods}
use Rattle.d_reader.specs.Counters.{read_bit, read_octets}
use Rattle.d_reader.specs.Calls.{answers_after}
use Rattle.d_reader.specs.declared.Reader.{Reader}
use Rattle.d_reader.specs.declared.ReaderAnswer.{ReaderAnswer}
use Rattle.d_reader.specs.declared.ReaderAnswer.TheVariants.{Nothing, Heard, Torn}
use Rattle.refusals.specs.declared.Refusal.{Refusal}
use Rattle.std.specs.Prelude.{Result, Ok, Err}
use Rattle.d_reader.proofs.AnswerLaws.{heard_call}
use Rattle.bus_rules.specs.Bus.{Note}
use Rattle.bus_rules.specs.Period.{heard_by, timed, period_run}
use Rattle.bus_rules.specs.Calls.Call.{period}
use Rattle.bus_record.specs.NetworkSide.{refused_run}
use Rattle.period_hearing.specs.declared.hears.UnitNotes.{UnitNotes}
use Rattle.bus_record.specs.declared.side.RunAnswer.{RunAnswer}
use Rattle.bus_call_specs.specs.Kept.{Kept, settled}
use Rattle.bus_call_specs.specs.Shown.{bus_in}
use Rattle.bus_call_specs.specs.Period.{d_read, reader_run, octets_run, body_of, answers_in, has_notes, period_answer, kept_run}
use Rattle.bus_call_specs.specs.Ready.{run_reply, run_goes_on}
use Rattle.bus_call_specs.specs.Run.{answer_on, not_yet, run_answer, kept_after}
use Rattle.bus_call_specs.specs.Lists.{called, replied, notes_told, period_told, run_told, reader_told}
use Rattle.bus_call_specs.proofs.InOrder.{InOrder, in_order, order_reply}
use Rattle.bus_call_specs.proofs.RunSingle.{goes_facts, first_ran, first_kept, period_single, run_single}
use Rattle.bus_call_specs.proofs.QuietRuns as quiet
use Rattle.bus_call_specs.proofs.RunLeft.{run_left, run_leaves_lem}
use Rattle.period_text.proofs.Room.{period_fits}
use Rattle.report.specs.Told.{done, done_all, book_told, all_book_told, RunAsPeriods, OneRun, RunFits}
use Rattle.report.proofs.Order.{order_settled, order_called}

-- ---- A period looks at no notes of the one before.
settled_ran : (k : Kept) → period_answer (settled k) ≡ period_answer k
unfolding settled period_answer bus_in reader_run answers_in has_notes
settled_ran k = refl

settled_kept : (k : Kept) → kept_run (settled k) ≡ kept_run k
unfolding settled kept_run period_answer bus_in reader_run octets_run answers_in has_notes
settled_kept k = refl

-- ---- The first period, where all is in order and one can be run.
module _ (k : Kept) (o : InOrder k) (l : k.bus.periods.0 < most_periods) where
  not_refused : (n : ℕ) → run_reply (suc n) k ≡ 0
  not_refused n = order_reply (suc n) k o ∙ rw (lt-ltb 0 (suc n) (omega arith), lt-leb most_periods k.bus.periods.0 l)

  one_accepted : (run_answer 1 k).reply ≡ 0
  unfolding period_answer
  one_accepted = rw (period_single k (not_refused 0)).answer_is

  one_more : (run_answer 1 k).bus.periods.0 ≡ k.bus.periods.0 + 1
  unfolding period_answer period_run timed heard_by bus_in
  one_more = rw (period_single k (not_refused 0)).answer_is

  period_told_lem : book_told k period ≡ period_told k.bus.periods.0 (run_answer 1 k) (kept_after 1 k).notes (kept_after 1 k).octets
  unfolding book_told notes_told replied
  period_told_lem = rw one_accepted

  told_book : notes_told k period ≡ book_told k period
  unfolding book_told notes_told replied
  told_book = rw one_accepted

  -- the run ends after it
  run_ends : (n : ℕ) → run_goes_on (run_answer 1 k) n ≡ false → RunAsPeriods k (suc n)
  unfolding done_all done called all_book_told
  run_ends n g =
      let s = run_single n k in
      let now : (run_answer 1 k).bus.periods.0 - 1 ≡ k.bus.periods.0 = omega (arith, one_more) in
      record {
        count = 1;
        some = omega arith;
        within = omega arith;
        accepted = rw (s.answer_is, g) one_accepted;
        left = rw (s.kept_is, g);
        run = rw (s.answer_is, g) one_more;
        tells =
            rw (s.answer_is, s.kept_is, g, now, append-nil (book_told k period), period_told_lem);
      }

-- a run of one ends there
no_more : (last : RunAnswer) → run_goes_on last 0 ≡ false
no_more last =
    by_test (run_goes_on last 0) (λ g. absurd (omega (arith, ltb-true 0 0 (goes_facts last 0 g).0))) (λ g. g)

-- ---- What a run tells.
run_told_lem : (n : ℕ) (k : Kept) → (run_answer n k).reply ≡ 0
    → run_told n k ≡ period_told ((run_answer n k).bus.periods.0 - 1) (run_answer n k) (kept_after n k).notes (kept_after n k).octets
unfolding run_told
run_told_lem n k e = rw e

told_on : (n : ℕ) (k : Kept) → run_goes_on (run_answer 1 k) (suc n) ≡ true → run_told (suc (suc n)) k ≡ notes_told k period ++ run_told (suc n) (kept_after 1 k)
told_on n k g = quiet.told_on (suc n) k g ∙ rw (quiet.goes_quiet k (suc n) g)

-- ---- .. or goes on from there, whatever the notes of the first: it has none.
module _ (n : ℕ) (k : Kept) (o : InOrder k) (l : k.bus.periods.0 + 1 < most_periods) (g : run_goes_on (run_answer 1 k) (suc n) ≡ true) where
  abbrev next : Kept
  next = kept_after 1 k

  first : k.bus.periods.0 < most_periods
  first = omega arith

  next_order : InOrder next
  unfolding called
  next_order = order_called k period o

  next_periods : next.bus.periods.0 ≡ k.bus.periods.0 + 1
  next_periods = rw (sym (run_leaves_lem 1 k).bus_is) (one_more k o first)

  settled_periods : (settled next).bus.periods.0 ≡ k.bus.periods.0 + 1
  unfolding settled
  settled_periods = next_periods

  again : next.bus.periods.0 < most_periods
  again = omega (arith, next_periods)

  answer_on_lem : run_answer (suc n) (settled next) ≡ run_answer (suc n) next
  answer_on_lem =
      first_ran n (settled next) (not_refused (settled next) (order_settled next next_order) (omega (arith, settled_periods)) n)
      ∙ (rw (settled_ran next, settled_kept next) (sym (first_ran n next (not_refused next next_order again n))))

  kept_on_lem : kept_after (suc n) (settled next) ≡ kept_after (suc n) next
  kept_on_lem =
      first_kept n (settled next) (not_refused (settled next) (order_settled next next_order) (omega (arith, settled_periods)) n)
      ∙ (rw (settled_ran next, settled_kept next) (sym (first_kept n next (not_refused next next_order again n))))

  run_on : RunAsPeriods (settled next) (suc n) → RunAsPeriods k (suc (suc n))
  unfolding done_all done called all_book_told
  run_on r =
      let s = run_single (suc n) k in
      let answer_is : run_answer (suc (suc n)) k ≡ run_answer (suc n) next = s.answer_is ∙ rw g in
      let kept_is : kept_after (suc (suc n)) k ≡ kept_after (suc n) next = s.kept_is ∙ rw g in
      let accepted : (run_answer (suc n) next).reply ≡ 0 = rw answer_on_lem at r.accepted in
      let all : (run_answer (suc (suc n)) k).reply ≡ 0 = rw answer_is accepted in
      record {
        count = suc r.count;
        some = omega arith;
        within = omega (arith, r.within);
        accepted = all;
        left = rw kept_is (rw kept_on_lem at r.left);
        run = rw answer_is (omega (arith, settled_periods, rw answer_on_lem at r.run));
        tells =
            sym (run_told_lem (suc (suc n)) k all)
            ∙ (told_on n k g
            ∙ (ap (λ (ns : List Note). notes_told k period ++ ns) (run_told_lem (suc n) next accepted ∙ (rw (answer_on_lem, kept_on_lem) at r.tells))
            ∙ ap (λ (ns : List Note). ns ++ all_book_told (settled next) (replicate r.count period)) (told_book k o first)));
      }

-- ---- Every run.
runs_on : (n : ℕ) (k : Kept) → InOrder k → k.bus.periods.0 + suc n ≤ most_periods → RunAsPeriods k (suc n)
runs_on zero k o l = run_ends k o (omega arith) 0 (no_more (run_answer 1 k))
runs_on (suc n) k o l =
    by_test (run_goes_on (run_answer 1 k) (suc n))
    (λ g.
    run_on n k o (omega arith) g
    (runs_on n (settled (kept_after 1 k)) (order_settled (kept_after 1 k) (next_order n k o (omega arith) g))
    (omega (arith, settled_periods n k o (omega arith) g))))
    (λ g. run_ends k o (omega arith) (suc n) g)

pub one_run : OneRun
one_run k zero h l m = absurd (omega arith)
one_run k (suc n) h l m = runs_on n k (in_order 0 k h) m

-- ---- What it tells has room: a heard body is one that a body may be, and the notes are those of eight terminals.
body_first : (a : Result ReaderAnswer Refusal) (more : List (Result ReaderAnswer Refusal)) → ((n : ℕ) → a ≡ Ok (Heard n) → n ≤ longest_body) → body_of more ≤ longest_body →
    body_of (a ∷ more) ≤ longest_body
unfolding body_of
body_first (Ok (Heard n)) more h rest = h n refl
body_first (Ok Torn) more h rest = omega arith
body_first (Ok Nothing) more h rest = rest
body_first (Err k) more h rest = rest

body_most : (bs : List Bool) (r : Reader) (buf : List ℕ) → body_of (answers_after bs r buf) ≤ longest_body
unfolding answers_after
body_most [] r buf = unfold body_of in omega arith
body_most (b ∷ bs) r buf =
    body_first (read_bit b buf r).answer (answers_after bs (read_bit b buf r).reader (read_octets b r buf)) (λ n e. (heard_call b r buf n e).2)
    (body_most bs (read_bit b buf r).reader (read_octets b r buf))

ran_body : (n : ℕ) (last : RunAnswer) (k : Kept) → last.body ≤ longest_body → (answer_on n last k).body ≤ longest_body
unfolding answer_on period_answer answers_in
ran_body zero last k h = h
ran_body (suc n) last k h =
    by_test (run_goes_on last (suc n))
    (λ g. rw g (ran_body n (period_answer k) (kept_run k) (body_most (d_read (bus_in k)) k.bus.reader k.octets)))
    (λ g. rw g h)

run_body : (n : ℕ) (k : Kept) → (run_answer n k).body ≤ longest_body
unfolding run_answer not_yet refused_run
run_body n k = ran_body n (not_yet n k) k (omega arith)

-- of the octets lent only the body's are told
body_alone : (now : ℕ) (r : RunAnswer) (ns : List UnitNotes) (octets : List ℕ) → period_told now r ns octets ≡ period_told now r ns (take r.body octets)
unfolding period_told reader_told
body_alone now r ns octets = rw (take-take r.body r.body octets (omega arith))

pub run_fits : RunFits
run_fits k zero h l m = absurd (omega arith)
run_fits k (suc n) h l m =
    let r : RunAsPeriods k (suc n) = one_run k (suc n) h l m in
    let last : ℕ = (run_answer (suc n) k).bus.periods.0 - 1 in
    let body : List ℕ = take (run_answer (suc n) k).body (kept_after (suc n) k).octets in
    let few : length body ≤ longest_body = rw (length-take (run_answer (suc n) k).body (kept_after (suc n) k).octets) (omega (arith, run_body (suc n) k)) in
    rw (body_alone last (run_answer (suc n) k) (kept_after (suc n) k).notes (kept_after (suc n) k).octets)
    (period_fits last (run_answer (suc n) k) (kept_after (suc n) k).notes body
    (omega (arith, r.run, r.within)) (run_left (suc n) k (in_order 0 k h)).order.notes_fit few)
