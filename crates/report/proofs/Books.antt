-- What holds of every book's calls: its lines' periods do not fall, so that the periods before a line can be run; refusals are those of a book; values
-- are octets; and demand 3 speaks of them.
use mathlib.Core.Path.{◌≡◌, refl}
use mathlib.Core.Bool.{Bool, true, false, cond, not, ◌&&◌}
use mathlib.Core.List.{List, [], ◌∷◌, ◌++◌, map}
use Prim.Native.Nat.{ℕ, zero, suc, ◌+◌, ◌-◌, ◌≤◌, ◌<◌}
use native.Mathlib.Omega.{arith}
use lib.Dec.{eqb, leb}
use lib.ListN.{length, take, drop, replicate}
use borrow.Author.Tests.{eqb-true, leb-true}
use Rattle.test_lemmas.proofs.ByCases.{by_test, clash, and_left, and_right}
use Rattle.symbols.specs.Symbols.{line_length, fits}
use Rattle.combining.specs.Hit.{keep_letter, plus_letter, minus_letter, none_letter}
use Rattle.timing.specs.Counts.{most_periods}
use Rattle.notes_and_cells.specs.Names.{ascii}
use Rattle.text.specs.Text.{LF, split, same}
use Rattle.notes_and_cells.specs.Events.{HIT}
use Rattle.book_line.specs.Line.{formed, in_order, is_end, value_fits, period_of, unit_of, event_of}
use Rattle.book_line.specs.Value.{letter_code, value_octets}
use Rattle.book_line.proofs.Judging.{formed_parts}
use Rattle.book_line.proofs.Values.{value_octets_lem, hit_fits_lem}
use Rattle.book_reader.specs.Book.{Answer, first_line, nothing, closing, lines, answers_from, answers}
use Rattle.book_reader.specs.Book.Answer.{entry, fault}
use Rattle.bus_rules.specs.Event.{call_reasons, state_reasons, reasons, first_holding, refusal}
use Rattle.bus_rules.specs.Bus.{Bus, fresh_bus}
use Rattle.bus_rules.specs.Calls.{Call, reply, after, after_all}
use Rattle.bus_rules.specs.Calls.Call.{event, period}
use Rattle.bus_rules.specs.Ranges.{runs, periods_run}
use Rattle.bus_rules.proofs.Refusals.{first_listed, period_not_refused}
use Rattle.bus_rules.proofs.Ranges.{periods_counted}
use Rattle.bus_rules.proofs.Sound.{sound_fresh}
use Rattle.bus_rules.proofs.Demand3.{demand3_of_lists}
use Rattle.bus_call_specs.specs.Lists.{OctetValues}
use Rattle.report.specs.Report.{call_at, calls_of_answers, book_calls}
use Rattle.report.specs.Laws.{RunsToLine, InBook, AllInBook, BooksRefused, NoneLate, BooksInTime, BooksOctets, BookCalls, BookCallsFrom}

-- the letters of a hit have the same codes on a line and on the bus
pub same_letters : map letter_code (ascii "kpmn") ≡ keep_letter ∷ plus_letter ∷ minus_letter ∷ none_letter ∷ []
unfolding letter_code
same_letters = refl

-- ---- The answers of a book, after so many periods: each line's period can be run to, and its value is of its event's form.
pub data InTime : ℕ → List Answer → Type 0 where
  none : {run : ℕ} → InTime run []
  stops : {run number : ℕ} {more : List Answer} → InTime run (fault number ∷ more)
  goes : {run at unit number : ℕ} {value : List ℕ} {more : List Answer}
      → run ≤ at → at ≤ most_periods → value_fits number value ≡ true → InTime at more → InTime run (entry at unit number value ∷ more)

either : {run : ℕ} (t : Bool) (a b : List Answer) → InTime run a → InTime run b → InTime run (cond t a b)
either true a b p q = p
either false a b p q = q

closing_in_time : (run : ℕ) (pieces : List (List ℕ)) → InTime run (closing pieces)
unfolding closing
closing_in_time run pieces = either (nothing pieces) [] (fault 14 ∷ []) none stops

in_order_lem : (last p : ℕ) → in_order last p ≡ true → (last ≤ p) × (p ≤ most_periods)
unfolding in_order
in_order_lem last p h =
    let after_last = leb last p in
    let at_most = leb p most_periods in
    (leb-true last p (and_left after_last at_most h), leb-true p most_periods (and_right after_last at_most h))

pub lines_in_time : (last : ℕ) (pieces : List (List ℕ)) → InTime last (lines last pieces)
unfolding lines
lines_in_time last [] = none
lines_in_time last (piece ∷ []) = stops
lines_in_time last (l ∷ next ∷ more) =
    by_test (formed l)
    (λ f. rw f
    (by_test (in_order last (period_of l))
    (λ o. rw o
    (let p = in_order_lem last (period_of l) o in
    goes p.0 p.1 (formed_parts l f).value
    (either (is_end (unit_of l) (event_of l)) (closing (next ∷ more)) (lines (period_of l) (next ∷ more))
    (closing_in_time (period_of l) (next ∷ more)) (lines_in_time (period_of l) (next ∷ more)))))
    (λ o. rw o stops)))
    (λ f. rw f stops)

pub answers_in_time : (book : List ℕ) → InTime 0 (answers book)
unfolding answers_from
answers_in_time book =
    by_test (same (take (length first_line) book) first_line)
    (λ t. rw t (lines_in_time 0 (split LF (drop (length first_line) book))))
    (λ t. rw t stops)

-- ---- Periods.
period_counts : (b : Bus) → b.periods < most_periods → (after b period).periods ≡ b.periods + 1
unfolding after_all periods_run runs
period_counts b h = omega (arith, rw (period_not_refused b h) at (periods_counted (period ∷ []) b))

event_counts : (b : Bus) (unit number : ℕ) (value : List ℕ) → (after b (event unit number value)).periods ≡ b.periods
unfolding after_all periods_run runs
event_counts b unit number value = omega (arith, periods_counted (event unit number value ∷ []) b)

pub run_counts : (n : ℕ) (b : Bus) → b.periods + n ≤ most_periods → (after_all b (replicate n period)).periods ≡ b.periods + n
unfolding after_all
run_counts zero b h = omega arith
run_counts (suc n) b h =
    let one = period_counts b (omega arith) in
    omega (arith, run_counts n (after b period) (omega arith))

pub runs_to : RunsToLine
runs_to b at h k = omega (arith, run_counts (at - b.periods) b (omega arith))

-- ---- The numbers that come back: of a hit that is of right form the letters are letters, so that no reason before 3 holds.
no_wrong_letters : (number : ℕ) (value : List ℕ) → value_fits number value ≡ true
    → (eqb number HIT && not (fits line_length none_letter (value_octets number value))) ≡ false
no_wrong_letters number value h =
    by_test (eqb number HIT)
    (λ t. let hit = eqb-true number HIT t in rw hit (rw (hit_fits_lem value (rw hit at h))))
    (λ t. rw t)

event_in_book : (b : Bus) (unit number : ℕ) (value : List ℕ) → value_fits number value ≡ true
    → InBook (reply b (event unit number (value_octets number value)))
unfolding reply refusal reasons call_reasons state_reasons first_holding
event_in_book b unit number value h =
    rw (no_wrong_letters number value h) (first_listed (drop 1 (reasons b unit number (value_octets number value))))

run_in_book : (n : ℕ) (b : Bus) (more : List Call) → b.periods + n ≤ most_periods → AllInBook (after_all b (replicate n period)) more
    → AllInBook b (replicate n period ++ more)
unfolding AllInBook after_all
run_in_book zero b more h m = m
run_in_book (suc n) b more h m = (
  rw (period_not_refused b (omega arith)),
  run_in_book n (after b period) more (let one = period_counts b (omega arith) in omega arith) m,
)

line_in_book : (b : Bus) (unit number : ℕ) (value : List ℕ) (more : List Call) → value_fits number value ≡ true
    → ((c : Bus) → c.periods ≡ b.periods → AllInBook c more) → AllInBook b (call_at unit number value ++ more)
unfolding call_at AllInBook
line_in_book b unit number value more fit h =
    by_test (is_end unit number)
    (λ t. rw t (h b refl))
    (λ t. rw t (
      event_in_book b unit number value fit,
      h (after b (event unit number (value_octets number value))) (event_counts b unit number (value_octets number value)),
    ))

calls_in_book : {run : ℕ} {given : List Answer} → InTime run given → (b : Bus) → b.periods ≡ run → AllInBook b (calls_of_answers run given)
unfolding calls_of_answers AllInBook
calls_in_book none b e = tt
calls_in_book stops b e = tt
calls_in_book (goes {run = run} {at = at} {unit = unit} {number = number} {value = value} {more = more} from to fit rest) b e =
    let there = run_counts (at - run) b (omega arith) in
    run_in_book (at - run) b (call_at unit number value ++ calls_of_answers at more) (omega arith)
    (line_in_book (after_all b (replicate (at - run) period)) unit number value (calls_of_answers at more) fit (λ c same. calls_in_book rest c (omega arith)))

pub books_refused : BooksRefused
unfolding book_calls
books_refused book = calls_in_book (answers_in_time book) fresh_bus refl

-- 9 is none of them
in_time : (b : Bus) (calls : List Call) → AllInBook b calls → NoneLate b calls
unfolding AllInBook NoneLate
in_time b [] a = tt
in_time b (c ∷ more) a = (λ nine. clash _ (rw nine at a.0) refl, in_time (after b c) more a.1)

pub none_late : BooksInTime
none_late book = in_time fresh_bus (book_calls book) (books_refused book)

-- ---- Values are octets.
run_octets : (n : ℕ) (more : List Call) → OctetValues more → OctetValues (replicate n period ++ more)
unfolding OctetValues
run_octets zero more h = h
run_octets (suc n) more h = (tt, run_octets n more h)

line_octets : (unit number : ℕ) (value : List ℕ) (more : List Call) → OctetValues more
    → OctetValues (call_at unit number value ++ more)
unfolding call_at OctetValues
line_octets unit number value more h = by_test (is_end unit number) (λ t. rw t h) (λ t. rw t (value_octets_lem number value, h))

calls_octets : {run : ℕ} {given : List Answer} → InTime run given → OctetValues (calls_of_answers run given)
unfolding calls_of_answers OctetValues
calls_octets none = tt
calls_octets stops = tt
calls_octets (goes {run = run} {at = at} {unit = unit} {number = number} {value = value} {more = more} from to fit rest) =
    run_octets (at - run) (call_at unit number value ++ calls_of_answers at more) (line_octets unit number value (calls_of_answers at more) (calls_octets rest))

pub books_octets : BooksOctets
unfolding book_calls
books_octets book = calls_octets (answers_in_time book)

-- ---- Demand 3 of a book's calls is demand 3 of the bus.
pub book_calls_from : BookCallsFrom
book_calls_from b start book before during later is stretch = demand3_of_lists b start before during later stretch

pub book_calls_lem : BookCalls
book_calls_lem = book_calls_from fresh_bus sound_fresh
