-- A turn, and what holds after it.
use mathlib.Core.Bool.{Bool, true, false}
use mathlib.Core.List.{List}
use mathlib.Core.Path.{◌≡◌, refl, sym, ap, subst, ◌∙◌}
use Prim.Native.Nat.{ℕ, ◌≤◌, ◌<◌}
use native.Mathlib.Omega.{arith}
use lib.ListN.{length, take, drop, length-append, replicate}
use lib.Seq.{length-take-le, take-append_seam}
use Rattle.symbols.specs.Symbols.{line_length, fits, within}
use Rattle.hdlc.specs.Image.{longest_body}
use Rattle.bus_event.specs.Event.{images_room, are_letters}
use Rattle.book_line.specs.Line.{longest_line}
use Rattle.book_reader.specs.Rest.{rest_of, kept}
use Rattle.report.specs.Ahead.{Stopped, TEXT}
use Rattle.report.proofs.Driving.{text_few, fresh_state_ready, state_stays_ready}
use Rattle.book_go_on.specs.Progress.{book_state_of, fresh_progress}
use Rattle.book_go_on.specs.GoOn.{GoesOn}
use Rattle.std.specs.Prelude.{Result, Ok, IsOk}
use Rattle.refusals.specs.declared.Refusal.{Refusal}
use Rattle.book_go_on.proofs.Going.{never_refused, gone_on_call}
use Rattle.book_go_on.specs.declared.progress.Progress.{Progress}
use Rattle.book_go_on.specs.declared.progress.GoneOn.{GoneOn}
use Rattle.driver.specs.Turn.{Fills, Turned, Going, held_state, first}
use Rattle.driver.specs.declared.turn.Held.{Held}

-- ---- A turn.
module _ (most : ℕ) (h : Held) (text room images octets letters : List ℕ) (g : Going h text images octets letters)
    (have : ℕ) (whole : Bool) (filled : List ℕ) (f : Fills most text h.have h.why h.whole filled have whole)
    (said : Result GoneOn Refusal) (room' images' octets' letters' : List ℕ)
    (o : GoesOn h.progress images octets letters (take have filled) room whole said images' octets' letters' room') where
  -- the call is not refused
  pub accepted : IsOk said
  accepted = let g = gone_on_call said (o.replies ∙ never_refused (held_state h images octets letters) g.sound) in rw g.1

  module _ (w : GoneOn) (is : said ≡ Ok w) where
    abbrev rest : List ℕ
    rest = rest_of w.taken have filled

    goes : Stopped (held_state h images octets letters) (take have filled) room whole
        (book_state_of w.progress images' octets' letters') w.taken w.wrote w.why room'
    goes = o.stops w is

    pub wrote_fits : w.wrote ≤ length room'
    wrote_fits = omega (arith, goes.went.fits, goes.went.long)

    pub turned : (failed : Bool) (left : ℕ) (text' : List ℕ) → left ≡ length rest → text' ≡ kept w.taken have filled
        → Turned most h text room images octets letters
        (record { progress = w.progress; have = left; why = w.why; whole = whole; failed = failed })
        text' room' images' octets' letters'
    turned failed left text' n is =
        record {
          part = f.part;
          few = f.few;
          asked = f.asked;
          unasked = f.unasked;
          taken = w.taken;
          wrote = w.wrote;
          stopped =
              subst
              (λ (l : List ℕ). Stopped (held_state h images octets letters) l room whole
              (book_state_of w.progress images' octets' letters') w.taken w.wrote w.why room')
              f.behind goes;
          rest = rw (n, is) (take-append_seam rest _ ∙ ap (drop w.taken) f.behind);
          within = rw (n, is) (omega (arith, length-append rest (drop (length rest) filled)));
        }

-- ---- What holds after it.
pub goes_on : (most : ℕ) (h : Held) (text room images octets letters : List ℕ) (r : Held) (text' room' images' octets' letters' : List ℕ)
    → Going h text images octets letters → Turned most h text room images octets letters r text' room' images' octets' letters'
    → Going r text' images' octets' letters'
goes_on most h text room images octets letters r text' room' images' octets' letters' g t =
    record {
      sound = state_stays_ready _ _ _ _ _ _ _ _ _ t.stopped g.sound;
      within = t.within;
      few = λ y.
          subst (λ (n : ℕ). n < longest_line)
          (sym (ap length t.rest) ∙ length-take-le r.have text' t.within)
          (text_few _ _ _ _ _ _ _ _ _ t.stopped.went y);
    }

-- ---- Before the first. No hit is given yet: any letters will do.
pub any_letters : are_letters (replicate line_length 0) ≡ true
unfolding fits within
any_letters = refl

begins : (text images octets letters : List ℕ) → length images ≡ images_room → longest_body ≤ length octets → are_letters letters ≡ true
    → Going first text images octets letters
unfolding fresh_progress
begins text images octets letters i o l = record { sound = fresh_state_ready images octets letters i o l; within = omega arith; few = λ _. omega arith }

pub starts : (text images octets letters : List ℕ) (p : Progress) → p ≡ fresh_progress
    → length images ≡ images_room → longest_body ≤ length octets → are_letters letters ≡ true
    → Going (record { progress = p; have = 0; why = TEXT; whole = false; failed = false }) text images octets letters
starts text images octets letters p e i o l = rw e (begins text images octets letters i o l)
