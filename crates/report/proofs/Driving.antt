-- However a book is cut into parts and whatever room is lent each time: what is written, taken together, is the book's report, and the calls
-- made are the book's; and a driver whose room holds the notes of a period comes to its end.
use mathlib.Core.Path.{◌≡◌, refl, sym, ap, ◌∙◌}
use mathlib.Core.Bool.{Bool, true, false, cond}
use mathlib.Core.List.{List, [], ◌∷◌, ◌++◌, append-nil, append_assoc}
use Prim.Native.Nat.{ℕ, zero, suc, ◌+◌, ◌≤◌, ◌<◌}
use native.Mathlib.Omega.{arith}
use lib.ListN.{length, take, drop, length-append}
use lib.Seq.{length-take-le}
use Rattle.test_lemmas.proofs.ByCases.{clash}
use Rattle.bus_rules.specs.Calls.{Call}
use Rattle.book_reader.specs.Book.{answers}
use Rattle.book_reader.specs.Parts.{to_come, joined}
use Rattle.book_reader.specs.declared.step.Step.{Step}
use Rattle.book_reader.proofs.Cut.{call_law}
use Rattle.period_text.specs.PeriodText.{period_room}
use Rattle.report.specs.Report.{calls_of_answers, report, book_calls}
use Rattle.report.specs.Ahead.{BookState, answers_ahead, calls_ahead, text_ahead, TEXT, ROOM, OVER, Advanced, Stopped, TextFew, Driven, WrittenRight, Ending, NoneGoesOn, ReadyState, FreshStateReady, StateStaysReady, OneCall, EveryCall, Ends, DriverEnds}
use Rattle.report.specs.Ahead.Ending.{ending}
use Rattle.report.specs.Ahead.Driven.{over, emptied, filled, told}
use Rattle.report.proofs.Books.{books_octets}
use Rattle.report.proofs.ToldRight.{fresh_ready, told_right}
use Rattle.report.proofs.Order.{stays_ready}
use Rattle.report.proofs.AheadLaws.{no_text, no_calls}

-- ---- What was ahead is what is written and what the calls are, from any state on.
record Drove (s : BookState) (left w : List ℕ) (calls : List Call) : Type 0 where
  text_is : text_ahead s left ≡ w
  calls_are : calls_ahead s left ≡ calls

-- one call, and what is driven after it
module _ {s : BookState} {held room : List ℕ} {whole : Bool} {s' : BookState} {taken wrote why : ℕ} {room' : List ℕ}
    (g : Advanced s held room whole s' taken wrote why room') (later : List ℕ) (fit : whole ≡ true → later ≡ []) where
  last_call : s'.over ≡ true → Drove s (held ++ later) (take wrote room') g.made
  last_call h =
      record {
        text_is = g.written later fit ∙ rw (no_text s' (drop taken held ++ later) h, append-nil (take wrote room'));
        calls_are = g.calls later fit ∙ rw (no_calls s' (drop taken held ++ later) h, append-nil g.made);
      }

  then_drove : (w : List ℕ) (calls : List Call) → Drove s' (drop taken held ++ later) w calls
      → Drove s (held ++ later) (take wrote room' ++ w) (g.made ++ calls)
  then_drove w calls d =
      record { text_is = g.written later fit ∙ rw d.text_is; calls_are = g.calls later fit ∙ rw d.calls_are }

never : {X : Type 0} → false ≡ true → X
never e = clash false e refl

pub text_few : TextFew
text_few s s' text room room' whole taken wrote why g y =
    (call_law (record { stage = s'.stage; last = s'.kept.bus.periods.0 }) text taken false [] never Step.More (g.for_text y).3).few

driven_right : {s : BookState} {held : List ℕ} {whole : Bool} {parts : List (List ℕ)} {w : List ℕ} {calls : List Call}
    → Driven s held whole parts w calls → (whole ≡ true → parts ≡ []) → Drove s (held ++ joined parts) w calls
unfolding joined
driven_right (over {parts = parts} room room' s' taken wrote g) fit =
    last_call g.went (joined parts) (λ w. ap joined (fit w)) (g.went.finished refl)
driven_right (emptied {parts = parts} {w = w} {calls = calls} room room' s' taken wrote g d) fit =
    then_drove g.went (joined parts) (λ w. ap joined (fit w)) w calls (driven_right d fit)
driven_right (filled {held = held} {part = part} {parts = parts} {w = w} {calls = calls} room room' s' taken wrote g d) fit =
    then_drove g.went (part ++ joined parts) never w calls
    (rw (append_assoc (drop taken held) part (joined parts)) at (driven_right d never))
driven_right (told d) fit = driven_right d (λ w. refl)

pub written_right : WrittenRight
unfolding text_ahead calls_ahead answers_ahead to_come report book_calls
written_right images octets letters parts w calls i o l d =
    let k = driven_right d never in
    record {
      report_is = sym k.text_is ∙ rw (told_right images octets letters (calls_of_answers 0 (answers (joined parts))) i o l (books_octets (joined parts)));
      calls_are = sym k.calls_are;
    }

-- ---- What falls with every call of a driver: the text ahead, or the parts left, or the flag.
unfoldable to_go : BookState → List ℕ → Bool → List (List ℕ) → ℕ
to_go s held whole parts = length (text_ahead s (held ++ joined parts)) + length parts + cond whole 0 1

-- the text ahead is shorter by what is written
module _ {s : BookState} {held room : List ℕ} {whole : Bool} {s' : BookState} {taken wrote why : ℕ} {room' : List ℕ}
    (g : Advanced s held room whole s' taken wrote why room') (later : List ℕ) (fit : whole ≡ true → later ≡ []) where
  wrote_less : length (text_ahead s (held ++ later)) ≡ wrote + length (text_ahead s' (drop taken held ++ later))
  wrote_less =
      let n : length (take wrote room') ≡ wrote = length-take-le wrote room' (omega (arith, g.long, g.fits)) in
      ap length (g.written later fit) ∙ (length-append (take wrote room') (text_ahead s' (drop taken held ++ later)) ∙ rw n)

abbrev Falls : ℕ → Type 0
Falls fuel =
    (s : BookState) (held : List ℕ) (whole : Bool) (parts : List (List ℕ)) → (whole ≡ true → parts ≡ [])
    → to_go s held whole parts < fuel → Ending s held whole parts

module _ (fuel : ℕ) (next : Falls fuel) (s : BookState) (held : List ℕ) (whole : Bool) (parts : List (List ℕ)) (fit : whole ≡ true → parts ≡ [])
    (h : to_go s held whole parts < suc fuel) where
  on_room : (room room' : List ℕ) (s' : BookState) (taken wrote : ℕ) → period_room ≤ length room
      → Stopped s held room whole s' taken wrote ROOM room' → Ending s' (drop taken held) whole parts
  unfolding to_go joined
  on_room room room' s' taken wrote big g =
      let less = wrote_less g.went (joined parts) (λ w. ap joined (fit w)) in
      next s' (drop taken held) whole parts fit (omega (arith, g.went.for_room refl))

  on_text : (room room' : List ℕ) (s' : BookState) (taken wrote : ℕ) (part : List ℕ) (rest : List (List ℕ)) → parts ≡ part ∷ rest
      → Stopped s held room whole s' taken wrote TEXT room' → Ending s' (drop taken held ++ part) whole rest
  unfolding to_go joined
  on_text room room' s' taken wrote part rest p g =
      let less = rw (p, ← append_assoc (drop taken held) part (joined rest)) at (wrote_less g.went (joined parts) (λ w. ap joined (fit w))) in
      let more = rw p at h in
      next s' (drop taken held ++ part) whole rest (λ w. clash whole w (g.went.for_text refl).0) (omega arith)

  on_told : whole ≡ false → parts ≡ [] → Ending s held true []
  unfolding to_go joined
  on_told cut none = let more = rw (cut, none) at h in next s held true [] (λ w. refl) (omega arith)

falls : (fuel : ℕ) → Falls fuel
falls zero s held whole parts fit h = absurd (omega arith)
falls (suc fuel) s held whole parts fit h =
    ending (on_room fuel (falls fuel) s held whole parts fit h) (on_text fuel (falls fuel) s held whole parts fit h)
    (on_told fuel (falls fuel) s held whole parts fit h)

pub none_goes_on : NoneGoesOn
none_goes_on s held parts = falls (suc (to_go s held false parts)) s held false parts never (omega arith)

-- ---- No call of a driver is refused.
pub fresh_state_ready : FreshStateReady
fresh_state_ready images octets letters i o l = fresh_ready images octets letters i o l

pub state_stays_ready : StateStaysReady
state_stays_ready s s' text room room' whole taken wrote why g o = rw g.went.left (stays_ready s.kept g.went.made o)

-- ---- Where there is a call for every argument, a driver comes to its end.

-- one of the three reasons to stop
by_why : {X : Type 0} (why : ℕ) → (why ≡ 0 → ⊥) → why ≤ OVER → (why ≡ TEXT → X) → (why ≡ ROOM → X) → (why ≡ OVER → X) → X
by_why zero go h t r o = absurd (go refl)
by_why (suc zero) go h t r o = t refl
by_why (suc (suc zero)) go h t r o = r refl
by_why (suc (suc (suc n))) go h t r o = o (omega arith)

module _ (every : EveryCall) (room : List ℕ) (big : period_room ≤ length room) where
  -- a call, where what comes after it is known to end
  module _ (s : BookState) (held : List ℕ) (o : ReadyState s) where
    abbrev ThenEmptied : Bool → List (List ℕ) → Type 0
    ThenEmptied whole parts =
        (room' : List ℕ) (s' : BookState) (taken wrote : ℕ) → Stopped s held room whole s' taken wrote ROOM room' → Ends s' (drop taken held) whole parts

    abbrev ThenFilled : Bool → List (List ℕ) → Type 0
    ThenFilled whole parts =
        (room' : List ℕ) (s' : BookState) (taken wrote : ℕ) (part : List ℕ) (rest : List (List ℕ)) → parts ≡ part ∷ rest
        → Stopped s held room whole s' taken wrote TEXT room' → Ends s' (drop taken held ++ part) whole rest

    on_over : (whole : Bool) (parts : List (List ℕ)) (c : OneCall s held room whole) → c.why ≡ OVER → Ends s held whole parts
    on_over whole parts c e =
        let g : Stopped s held room whole c.after c.taken c.wrote OVER c.room_after = rw e at c.stopped in
        record { written = _; made = _; driven = over room c.room_after c.after c.taken c.wrote g }

    on_emptied : (whole : Bool) (parts : List (List ℕ)) → ThenEmptied whole parts
        → (c : OneCall s held room whole) → c.why ≡ ROOM → Ends s held whole parts
    on_emptied whole parts then c e =
        let g : Stopped s held room whole c.after c.taken c.wrote ROOM c.room_after = rw e at c.stopped in
        let d = then c.room_after c.after c.taken c.wrote g in
        record {
          written = take c.wrote c.room_after ++ d.written;
          made = g.went.made ++ d.made;
          driven = emptied {w = d.written} {calls = d.made} room c.room_after c.after c.taken c.wrote g d.driven;
        }

    on_filled : (part : List ℕ) (parts : List (List ℕ)) → ThenFilled false (part ∷ parts)
        → (c : OneCall s held room false) → c.why ≡ TEXT → Ends s held false (part ∷ parts)
    on_filled part parts then c e =
        let g : Stopped s held room false c.after c.taken c.wrote TEXT c.room_after = rw e at c.stopped in
        let d = then c.room_after c.after c.taken c.wrote part parts refl g in
        record {
          written = take c.wrote c.room_after ++ d.written;
          made = g.went.made ++ d.made;
          driven = filled {w = d.written} {calls = d.made} room c.room_after c.after c.taken c.wrote g d.driven;
        }

    on_call : (whole : Bool) (parts : List (List ℕ)) → ThenEmptied whole parts → ThenFilled whole parts
        → (whole ≡ false → parts ≡ [] → Ends s held true []) → Ends s held whole parts
    on_call true parts e f t =
        let c = every s held room true o in
        by_why c.why c.stopped.goes_not_on c.stopped.listed
        (λ y. clash true refl (c.stopped.went.for_text y).0) (on_emptied true parts e c) (on_over true parts c)
    on_call false [] e f t = let d = t refl refl in record { written = _; made = _; driven = told d.driven }
    on_call false (part ∷ parts) e f t =
        let c = every s held room false o in
        by_why c.why c.stopped.goes_not_on c.stopped.listed
        (on_filled part parts f c) (on_emptied false (part ∷ parts) e c) (on_over false (part ∷ parts) c)

  comes : {s : BookState} {held : List ℕ} {whole : Bool} {parts : List (List ℕ)} → Ending s held whole parts → ReadyState s → Ends s held whole parts
  comes {s = s} {held = held} {whole = whole} {parts = parts} (ending e f t) o =
      on_call s held o whole parts
      (λ room' s' taken wrote g. comes (e room room' s' taken wrote big g) (state_stays_ready s s' held room room' whole taken wrote ROOM g o))
      (λ room' s' taken wrote part rest p g.
      comes (f room room' s' taken wrote part rest p g) (state_stays_ready s s' held room room' whole taken wrote TEXT g o))
      (λ cut none. comes (t cut none) o)

pub driver_ends : DriverEnds
driver_ends every room big s held parts o = comes every room big (none_goes_on s held parts) o
