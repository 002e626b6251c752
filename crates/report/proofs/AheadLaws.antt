-- What each answer of the book's reader does to what is ahead. The laws are over any stands, and the later one is known by what its fields
-- are; their premises on what the book says are as the laws of crate `book_reader` give them (specs/Laws.antt there).
use mathlib.Core.Path.{◌≡◌, refl, sym, ap, ◌∙◌}
use mathlib.Core.Bool.{true, false}
use mathlib.Core.List.{List, [], ◌∷◌, ◌++◌, append-nil, append_assoc}
use Prim.Native.Nat.{ℕ, ◌+◌, ◌-◌, ◌≤◌}
use native.Mathlib.Omega.{arith}
use lib.Dec.{eqb}
use lib.ListN.{replicate, replicate-append-replicate}
use Rattle.test_lemmas.proofs.ByCases.{by_test}
use Rattle.timing.specs.declared.counts.Periods.{Periods}
use Rattle.book_line.specs.Line.{is_end}
use Rattle.book_line.specs.Value.{value_octets}
use Rattle.book_reader.specs.Step.{at_lines, after_end}
use Rattle.book_reader.specs.Book.{Answer}
use Rattle.book_reader.specs.Book.Answer.{entry, fault}
use Rattle.book_reader.specs.Parts.{Place, past, to_come}
use Rattle.notes_and_cells.specs.Events.{HIT}
use Rattle.bus_rules.specs.Calls.{Call}
use Rattle.bus_rules.specs.Calls.Call.{event, period}
use Rattle.bus_event.specs.Event as parts
use Rattle.bus_call_specs.specs.Kept.{Kept, settled}
use Rattle.bus_call_specs.specs.Event.{reason, event_told}
use Rattle.bus_call_specs.specs.Lists as lists
use Rattle.bus_call_specs.specs.Lists.{called}
use Rattle.note_text.specs.NoteText.{heading, notes_in, notes_text, stopped_line}
use Rattle.note_text.specs.declared.form.Form.TheVariants.{Line}
use Rattle.note_text.proofs.NoteLaws.{form_append}
use Rattle.report.specs.Report.{call_at, calls_of_answers, stop_of}
use Rattle.report.specs.Told.{done, done_all, book_told, all_book_told}
use Rattle.report.specs.Ahead.{BookState, answers_ahead, calls_ahead, text_ahead}

-- ---- From a state to another: the calls made between, and the text that they and the lines between put into the report.
pub record Moves (s : BookState) (left : List ℕ) (made : List Call) (new : List ℕ) (s' : BookState) (left' : List ℕ) : Type 0 where
  pub kept_is : s'.kept ≡ done_all s.kept made
  pub calls_are : calls_ahead s left ≡ made ++ calls_ahead s' left'
  pub text_is : text_ahead s left ≡ new ++ text_ahead s' left'

-- ---- Lists of calls, one after the other.
pub done_append : (k : Kept) (a b : List Call) → done_all k (a ++ b) ≡ done_all (done_all k a) b
unfolding done_all
done_append k [] b = refl
done_append k (c ∷ a) b = done_append (done k c) a b

pub told_append : (k : Kept) (a b : List Call) → all_book_told k (a ++ b) ≡ all_book_told k a ++ all_book_told (done_all k a) b
unfolding done_all all_book_told
told_append k [] b = refl
told_append k (c ∷ a) b =
    rw (told_append (done k c) a b) (sym (append_assoc (book_told k c) (all_book_told (done k c) a) (all_book_told (done_all (done k c) a) b)))

pub moves_none : (s : BookState) (left : List ℕ) → Moves s left [] [] s left
unfolding done_all
moves_none s left = record { kept_is = refl; calls_are = refl; text_is = refl }

pub moves_then : {s s' s'' : BookState} {left left' left'' : List ℕ} {made made' : List Call} {new new' : List ℕ}
    → Moves s left made new s' left' → Moves s' left' made' new' s'' left'' → Moves s left (made ++ made') (new ++ new') s'' left''
moves_then {s = s} {s'' = s''} {left'' = left''} {made = made} {made' = made'} {new = new} {new' = new'} a b =
    record {
      kept_is = b.kept_is ∙ rw a.kept_is (sym (done_append s.kept made made'));
      calls_are = a.calls_are ∙ rw b.calls_are (sym (append_assoc made made' (calls_ahead s'' left'')));
      text_is = a.text_is ∙ rw b.text_is (sym (append_assoc new new' (text_ahead s'' left'')));
    }

-- ---- Nothing is ahead of a book that is over.
module _ (s : BookState) (left : List ℕ) (h : s.over ≡ true) where
  pub no_text : text_ahead s left ≡ []
  unfolding text_ahead
  no_text = rw h

  pub no_calls : calls_ahead s left ≡ []
  unfolding calls_ahead
  no_calls = rw h

-- ---- A book that is under way: its report has its first line, and it is not over.
pub record UnderWay (s : BookState) : Type 0 where
  pub begun_is : s.begun ≡ true
  pub over_is : s.over ≡ false

abbrev pub run : BookState → ℕ
run s = s.kept.bus.periods.0

module _ (s : BookState) (left : List ℕ) (w : UnderWay s) where
  calls_on : calls_ahead s left ≡ calls_of_answers (run s) (answers_ahead s left)
  unfolding calls_ahead
  calls_on = rw w.over_is

  text_on : text_ahead s left ≡ notes_text (all_book_told s.kept (calls_of_answers (run s) (answers_ahead s left))) ++ stop_of (answers_ahead s left)
  unfolding text_ahead
  text_on = rw (w.over_is, w.begun_is)

-- what is ahead of s are these calls, and then what is ahead of s'
module _ (s s' : BookState) (left left' : List ℕ) (made : List Call) (w : UnderWay s) (w' : UnderWay s') (k : s'.kept ≡ done_all s.kept made) where
  goes_on : calls_of_answers (run s) (answers_ahead s left) ≡ made ++ calls_of_answers (run s') (answers_ahead s' left')
      → stop_of (answers_ahead s left) ≡ stop_of (answers_ahead s' left') → Moves s left made (notes_text (all_book_told s.kept made)) s' left'
  goes_on c e =
      let rest = calls_of_answers (run s') (answers_ahead s' left') in
      let told = all_book_told s.kept made in
      record {
        kept_is = k;
        calls_are = calls_on s left w ∙ (c ∙ ap (λ (l : List Call). made ++ l) (sym (calls_on s' left' w')));
        text_is =
            text_on s left w
            ∙ (rw (c, e, told_append s.kept made rest, ← k, form_append Line told (all_book_told s'.kept rest))
            (append_assoc (notes_text told) (notes_text (all_book_told s'.kept rest)) (stop_of (answers_ahead s' left')))
            ∙ ap (λ (l : List ℕ). notes_text told ++ l) (sym (text_on s' left' w')));
      }

-- ---- The report's first line is written.
pub heading_ahead : (s s' : BookState) (left : List ℕ) → s.begun ≡ false → s.over ≡ false → UnderWay s' → s'.kept ≡ s.kept → s'.stage ≡ s.stage
    → Moves s left [] heading s' left
unfolding done_all text_ahead calls_ahead answers_ahead
heading_ahead s s' left b o w k g =
    record {
      kept_is = k;
      calls_are = rw (o, w.over_is, k, g);
      text_is = rw (o, b, w.over_is, w.begun_is, k, g);
    }

-- ---- An answer that makes no call.
place_is : (s : BookState) (left : List ℕ) (p : Place) → s.stage ≡ p.stage → run s ≡ p.last → answers_ahead s left ≡ to_come p left
unfolding answers_ahead
place_is s left p g r = rw (g, r)

quiet : (s s' : BookState) (left left' : List ℕ) → UnderWay s → UnderWay s' → s'.kept ≡ s.kept
    → calls_of_answers (run s) (answers_ahead s left) ≡ calls_of_answers (run s') (answers_ahead s' left')
    → stop_of (answers_ahead s left) ≡ stop_of (answers_ahead s' left') → Moves s left [] [] s' left'
unfolding done_all all_book_told notes_in
quiet s s' left left' w w' k c e = goes_on s s' left left' [] w w' k c e

-- The book's first line is taken.
pub first_ahead_lem : (s s' : BookState) (left left' : List ℕ) → UnderWay s → UnderWay s' → s'.kept ≡ s.kept → s'.stage ≡ at_lines
    → answers_ahead s left ≡ to_come (record { stage = at_lines; last = run s }) left' → Moves s left [] [] s' left'
first_ahead_lem s s' left left' w w' k g e =
    let e' = place_is s' left' (record { stage = at_lines; last = run s }) g (ap (λ (x : Kept). x.bus.periods.0) k) in
    quiet s s' left left' w w' k (rw (e, e', k)) (rw (e, e'))

-- a line at the period that comes next
line_now : (now at unit number : ℕ) (value : List ℕ) (more : List Answer) → now ≡ at
    → calls_of_answers now (entry at unit number value ∷ more) ≡ call_at unit number value ++ calls_of_answers at more
unfolding calls_of_answers
line_now now at unit number value more e = let z : at - now ≡ 0 = omega arith in rw z

-- `end` is accepted, at its period.
pub end_ahead : (s s' : BookState) (left left' : List ℕ) (at unit number : ℕ) (value : List ℕ) → UnderWay s → UnderWay s'
    → s'.kept ≡ s.kept → s'.stage ≡ after_end → run s ≡ at → is_end unit number ≡ true
    → answers_ahead s left ≡ entry at unit number value ∷ to_come (past at unit number) left' → Moves s left [] [] s' left'
unfolding call_at stop_of
end_ahead s s' left left' at unit number value w w' k g r t e =
    let there : run s' ≡ at = ap (λ (x : Kept). x.bus.periods.0) k ∙ r in
    let e' = place_is s' left' (past at unit number) (rw t g) there in
    quiet s s' left left' w w' k
    (rw (e, e', line_now (run s) at unit number value (to_come (past at unit number) left') r, t, there))
    (rw (e, e'))

-- ---- Periods towards a line are run.
towards : (from at m : ℕ) (rest : List Call) → from + m ≤ at
    → replicate (at - from) period ++ rest ≡ replicate m period ++ (replicate (at - (from + m)) period ++ rest)
towards from at m rest h =
    let n : at - from ≡ m + (at - (from + m)) = omega arith in
    rw (n, ← replicate-append-replicate m (at - (from + m)) period) (append_assoc (replicate m period) (replicate (at - (from + m)) period) rest)

pub run_ahead : (s s' : BookState) (left : List ℕ) (at unit number m : ℕ) (value : List ℕ) (more : List Answer) → UnderWay s → UnderWay s'
    → s'.kept ≡ done_all s.kept (replicate m period) → run s' ≡ run s + m → run s + m ≤ at
    → answers_ahead s left ≡ entry at unit number value ∷ more → answers_ahead s' left ≡ entry at unit number value ∷ more
    → Moves s left (replicate m period) (notes_text (all_book_told s.kept (replicate m period))) s' left
unfolding calls_of_answers
run_ahead s s' left at unit number m value more w w' k r h e e' =
    goes_on s s' left left (replicate m period) w w' k
    (rw (e, e', r) (towards (run s) at m (call_at unit number value ++ calls_of_answers at more) h))
    (rw (e, e'))

-- ---- An event is given to the bus, at its period. It runs none, so that the period stays the last line's.
pub event_periods : (k : Kept) (unit number : ℕ) (value : List ℕ) → (done k (event unit number value)).bus.periods ≡ k.bus.periods
unfolding done settled called lists.told event_told parts.event_settled parts.told parts.network_told parts.network_asked
event_periods k unit number value =
    by_test (eqb (reason unit number value k.bus k.terminals k.images k.letters) 0)
    (λ t. rw t
    (by_test (eqb unit 0)
    (λ u. rw u (by_test (eqb number HIT) (λ v. rw v) (λ v. rw v)))
    (λ u. rw u)))
    (λ t. rw t)

pub event_ahead : (s s' : BookState) (left left' : List ℕ) (at unit number : ℕ) (value : List ℕ) → UnderWay s → UnderWay s'
    → s'.kept ≡ done s.kept (event unit number (value_octets number value)) → s'.stage ≡ at_lines → run s ≡ at → is_end unit number ≡ false
    → answers_ahead s left ≡ entry at unit number value ∷ to_come (past at unit number) left'
    → Moves s left (event unit number (value_octets number value) ∷ [])
    (notes_text (book_told s.kept (event unit number (value_octets number value)))) s' left'
unfolding call_at stop_of done_all all_book_told
event_ahead s s' left left' at unit number value w w' k g r t e =
    let c = event unit number (value_octets number value) in
    let there : run s' ≡ at =
    ap (λ (x : Kept). x.bus.periods.0) k ∙ (ap (λ (p : Periods). p.0) (event_periods s.kept unit number (value_octets number value)) ∙ r) in
    let e' = place_is s' left' (past at unit number) (rw t g) there in
    rw (append-nil (book_told s.kept c)) at
    (goes_on s s' left left' (c ∷ []) w w' k
    (rw (e, e', line_now (run s) at unit number value (to_come (past at unit number) left') r, t, there))
    (rw (e, e')))

-- ---- The book ends: with the line `stopped`, or with nothing.
module _ (s s' : BookState) (left left' : List ℕ) (w : UnderWay s) (o : s'.over ≡ true) (k : s'.kept ≡ s.kept) where
  pub fault_ahead : (number : ℕ) (more : List Answer) → answers_ahead s left ≡ fault number ∷ more → Moves s left [] (stopped_line number) s' left'
  unfolding done_all calls_of_answers stop_of all_book_told notes_in
  fault_ahead number more e =
      record {
        kept_is = k;
        calls_are = calls_on s left w ∙ rw (e, no_calls s' left' o);
        text_is = text_on s left w ∙ rw (e, no_text s' left' o, append-nil (stopped_line number));
      }

  pub done_ahead : answers_ahead s left ≡ [] → Moves s left [] [] s' left'
  unfolding done_all calls_of_answers stop_of all_book_told notes_in
  done_ahead e =
      record {
        kept_is = k;
        calls_are = calls_on s left w ∙ rw (e, no_calls s' left' o);
        text_is = text_on s left w ∙ rw (e, no_text s' left' o);
      }
