-- The loop of `go_on`: what holds before each turn, and what the call gives back.
use mathlib.Core.Path.{◌≡◌, refl, sym, ap}
use mathlib.Core.Bool.{Bool, true, false, cond}
use mathlib.Core.List.{List}
use Prim.Native.Nat.{ℕ, zero, suc, ◌+◌, ◌≤◌, ◌<◌}
use native.Mathlib.Omega.{arith}
use lib.Dec.{eqb}
use lib.ListN.{length, take}
use borrow.Author.Tests.{ne_eqb, eqb-true, eqb-false}
use Rattle.std.specs.Prelude.{Option, Some, None, Result, Ok, Err, ◌&&◌}
use Rattle.test_lemmas.proofs.ByCases.{by_test, clash}
use Rattle.refusals.specs.Numbers.{number, reason_of}
use Rattle.refusals.specs.declared.Refusal.{Refusal}
use Rattle.refusals.specs.declared.Refusal.TheVariants.{OutOfRange, WrongSlice}
use Rattle.refusals.proofs.Laws.{number_some}
use Rattle.bus_record.specs.Record.{record_in_range}
use Rattle.bus_call_specs.specs.Ready.{eight_in_range, lent_fits, run_reason, run_reply}
use Rattle.bus_record.specs.NetworkSide.{refused_run}
use Rattle.bus_record.specs.declared.side.RunAnswer.{RunAnswer}
use Rattle.bus_call_specs.specs.Kept.{Kept}
use Rattle.bus_call_specs.specs.Run.{run_answer, answer_on, kept_after, kept_on, not_yet}
use Rattle.bus_call_specs.specs.Kept.{found}
use Rattle.book_reader.specs.Step.{step_at}
use Rattle.book_reader.specs.declared.step.Step.{Step}
use Rattle.note_text.proofs.RoomLaws.{put_length, take_laid, drop_laid}
use Rattle.period_text.specs.PeriodText.{period_room}
use Rattle.report.specs.Told.{Ready}
use Rattle.report.specs.Ahead.{BookState, ReadyState, TEXT, ROOM, OVER, Stopped}
use Rattle.report.proofs.Order.{stays_ready}
use Rattle.book_go_on.specs.Progress.{fresh_progress, book_state_of, reason, refusal}
use Rattle.book_go_on.specs.Steps.{Moves, to_do, Steps}
use Rattle.book_go_on.specs.GoOn.{reply_of, GoesOn, FreshBookState, NeverRefused}
use Rattle.book_go_on.specs.declared.progress.Progress.{Progress}
use Rattle.book_go_on.specs.declared.progress.GoneOn.{GoneOn}
use Rattle.book_go_on.proofs.Moving.{moves_none, moves_then}

-- ---- Where nothing is refused.
pub accepted_ready : (s : BookState) → reason s ≡ 0 → ReadyState s
unfolding reason
accepted_ready s e = e

-- ---- The reasons 1 and 2.
reason_few : (s : BookState) → reason s ≤ 2
unfolding reason run_reply run_reason
reason_few s =
    by_test (eight_in_range s.kept.terminals && record_in_range s.kept.bus)
    (λ r. by_test (lent_fits (length s.kept.images) (length s.kept.octets) s.kept.letters (length s.kept.notes))
    (λ l. rw (r, l) (omega arith))
    (λ l. rw (r, l) (omega arith)))
    (λ r. rw r (omega arith))

pub none_refused : (s : BookState) → reason s ≡ 0 → None ≡ refusal s
none_refused s e = rw e

pub first_refused : (s : BookState) → reason s ≡ 1 → Some OutOfRange ≡ refusal s
first_refused s e = rw e

pub second_refused : (s : BookState) → (reason s ≡ 0 → ⊥) → (reason s ≡ 1 → ⊥) → Some WrongSlice ≡ refusal s
second_refused s n m = let e : reason s ≡ 2 = few (reason s) (reason_few s) n m in rw e
  where
    few : (r : ℕ) → r ≤ 2 → (r ≡ 0 → ⊥) → (r ≡ 1 → ⊥) → r ≡ 2
    few r l n m = omega arith

pub accepted_none : (s : BookState) → None ≡ refusal s → reason s ≡ 0
accepted_none s e =
    by_test (eqb (reason s) 0) (eqb-true (reason s) 0)
    (λ f. let z : ◌≡◌ {A = Option Refusal} None (Some (reason_of (reason s))) = rw f at e in let o : ◌≡◌ {A = ℕ} 0 1 = cc in absurd (omega arith))

number_back : (n : ℕ) → n ≤ 2 → eqb n 0 ≡ false → number (reason_of n) ≡ n
number_back zero h e = clash true refl e
number_back (suc zero) h e = refl
number_back (suc (suc zero)) h e = refl
number_back (suc (suc (suc n))) h e = absurd (omega arith)

refused_number : (s : BookState) (e : Refusal) → Some e ≡ refusal s → number e ≡ reason s
refused_number s e is =
    by_test (eqb (reason s) 0)
    (λ t. let z : ◌≡◌ {A = Option Refusal} (Some e) None = rw t at is in let o : ◌≡◌ {A = ℕ} 0 1 = cc in absurd (omega arith))
    (λ f. let z : ◌≡◌ {A = Option Refusal} (Some e) (Some (reason_of (reason s))) = rw f at is in
    let same : e ≡ reason_of (reason s) = cc in rw same (number_back (reason s) (reason_few s) f))

err_ok : {X : Type 0} {e : Refusal} {w : GoneOn} → ◌≡◌ {A = Result GoneOn Refusal} (Err e) (Ok w) → X
err_ok q = let o : ◌≡◌ {A = ℕ} 0 1 = cc in absurd (omega arith)

-- no reason has the number 0
numbered : (e : Refusal) → number e ≡ 0 → ⊥
numbered e = eqb-false (number e) 0 (number_some e)

-- a call that replies 0 has gone on
pub gone_on_call : (r : Result GoneOn Refusal) → reply_of r ≡ 0 → (w : GoneOn) × (r ≡ Ok w)
gone_on_call (Ok w) h = (w, refl)
gone_on_call (Err e) h = absurd (numbered e h)

pub never_refused : NeverRefused
unfolding reason
never_refused s g = g

pub fresh_book_state_lem : FreshBookState
unfolding fresh_progress
fresh_book_state_lem images octets letters = refl

-- as `reason` comes to it
module _ (p : Progress) (images octets letters : List ℕ) where
  abbrev k : Kept
  k = found p.bus p.terminals images octets letters

  -- octets that the check has left are accepted again
  pub still_accepted : (octets₁ : List ℕ) → octets₁ ≡ octets → reason (book_state_of p images octets letters) ≡ 0
      → reason (book_state_of p images octets₁ letters) ≡ 0
  still_accepted octets₁ o z = rw o z

  pub checked_run : (r : RunAnswer) → r ≡ run_answer 0 k → (octets' : List ℕ) → octets' ≡ (kept_after 0 k).octets
      → (r.reply ≡ reason (book_state_of p images octets letters)) × (octets' ≡ octets)
  unfolding reason run_answer answer_on kept_after kept_on not_yet refused_run
  checked_run r e octets' o = (ap (λ (x : RunAnswer). x.reply) e, o)

-- ---- Before each turn.
pub record Going (text : List ℕ) (whole : Bool) (s₀ : BookState) (room₀ : List ℕ) (s : BookState) (at : ℕ) (room : List ℕ) (wrote why : ℕ) : Type 0 where
  pub sound : ReadyState s₀
  pub moves : Moves text whole s₀ 0 room₀ 0 s at room wrote
  pub for_text : why ≡ TEXT
      → (whole ≡ false) × (s.over ≡ false) × (s.begun ≡ true)
      × (step_at text at s.stage s.kept.bus.periods.0 false ≡ Step.More)
  pub for_room : why ≡ ROOM → length room₀ < wrote + period_room
  pub finished : why ≡ OVER → s.over ≡ true
  pub over_said : (why ≡ 0 → ⊥) → s.over ≡ true → why ≡ OVER
  pub listed : why ≤ OVER

pub going_first : (text : List ℕ) (whole : Bool) (s : BookState) (room : List ℕ) → ReadyState s → Going text whole s room s 0 room 0 0
going_first text whole s room g =
    record {
      sound = g;
      moves = moves_none s 0 room 0 (omega arith);
      for_text = λ z. absurd (omega arith);
      for_room = λ z. absurd (omega arith);
      finished = λ z. absurd (omega arith);
      over_said = λ n. absurd (n refl);
      listed = omega arith;
    }

pub turns_left : List ℕ → BookState → ℕ → ℕ → ℕ
turns_left text s at why = cond (eqb why 0) (suc (to_do text s at)) 0

module _ {text : List ℕ} {whole : Bool} {s₀ : BookState} {room₀ : List ℕ} {s : BookState} {at : ℕ} {room : List ℕ} {wrote why : ℕ}
    (g : Going text whole s₀ room₀ s at room wrote why) where
  wrote_is : wrote ≡ length g.moves.new
  wrote_is = omega (arith, g.moves.put.wrote_is, g.moves.fits)

  pub going_ready : Ready s.kept
  going_ready = rw g.moves.left (stays_ready s₀.kept g.moves.made g.sound)

  pub going_within : at ≤ length text
  going_within = g.moves.within (omega arith)

  pub going_fits : wrote ≤ length room
  going_fits = omega (arith, wrote_is, g.moves.fits, put_length g.moves.put)

  module _ {s' : BookState} {at' : ℕ} {room' : List ℕ} {wrote' why' : ℕ} (t : Steps text whole s at room wrote s' at' room' wrote' why') where
    pub going_on : Going text whole s₀ room₀ s' at' room' wrote' why'
    going_on =
        record {
          sound = g.sound;
          moves = moves_then g.moves t.moves;
          for_text = t.for_text;
          for_room = λ z. omega (arith, t.for_room z, put_length g.moves.put);
          finished = t.finished;
          over_said = λ n. t.over_said;
          listed = t.listed;
        }

    pub going_less : why ≡ 0 → turns_left text s' at' why' < turns_left text s at why
    unfolding turns_left
    going_less go = rw go (less why' refl)
      where
        less : (n : ℕ) → why' ≡ n → cond (eqb why' 0) (suc (to_do text s' at')) 0 < suc (to_do text s at)
        less zero e = rw e (omega (arith, t.on e))
        less (suc n) e = rw (ne_eqb why' 0 (λ z. omega arith)) (omega arith)

  -- it has stopped
  new_is : take wrote room ≡ g.moves.new
  new_is =
      let z : 0 + length g.moves.new ≡ length g.moves.new = omega arith in
      rw (wrote_is, g.moves.put.room_is) (rw z at (take_laid room₀ 0 g.moves.new g.moves.fits))

  pub going_stops : (why ≡ 0 → ⊥) → Stopped s₀ text room₀ whole s at wrote why room
  going_stops n =
      let z : 0 + length g.moves.new ≡ length g.moves.new = omega arith in
      record {
        went = record {
          made = g.moves.made;
          left = g.moves.left;
          calls = g.moves.calls;
          written = rw new_is g.moves.says;
          behind = rw (wrote_is, g.moves.put.room_is) (rw z at (drop_laid room₀ 0 g.moves.new g.moves.fits));
          long = put_length g.moves.put;
          fits = omega (arith, going_fits, put_length g.moves.put);
          within = going_within;
          for_text = g.for_text;
          for_room = g.for_room;
          finished = g.finished;
          over_said = g.over_said n;
        };
        goes_not_on = n;
        listed = g.listed;
      }

-- ---- What is given back.
module _ (p : Progress) (images octets letters text room : List ℕ) (whole : Bool) where
  abbrev here : BookState
  here = book_state_of p images octets letters

  pub refused_call : (e : Refusal) → Some e ≡ refusal here → (octets' : List ℕ) → octets' ≡ octets
      → GoesOn p images octets letters text room whole (Err e) images octets' letters room
  refused_call e is octets' o =
      record { replies = refused_number here e is; refused = λ _ _. (refl, o, refl, refl); stops = λ w q. err_ok q }

  -- the octets are the same after the check
  module _ (octets₁ : List ℕ) (o : octets₁ ≡ octets) (z : reason here ≡ 0) where
    abbrev checked : BookState
    checked = book_state_of p images octets₁ letters

    pub stopped_call : (w : GoneOn) (images' octets' letters' room' : List ℕ)
        → Stopped checked text room whole (book_state_of w.progress images' octets' letters') w.taken w.wrote w.why room'
        → GoesOn p images octets letters text room whole (Ok w) images' octets' letters' room'
    stopped_call w images' octets' letters' room' s =
        record { replies = sym z; refused = λ e q. err_ok (sym q); stops = λ w' q. let same : w ≡ w' = cc in rw (sym same, sym o) s }
