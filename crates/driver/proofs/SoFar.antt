-- The turns so far, and those that are left of the count.
use mathlib.Core.Bool.{Bool, true, false, cond, ◌||◌}
use mathlib.Core.List.{List, [], ◌∷◌, ◌++◌}
use mathlib.Core.Path.{◌≡◌, refl, ◌∙◌}
use Prim.Native.Nat.{ℕ, ◌+◌, ◌≤◌, ◌<◌, ◌-◌}
use native.Mathlib.Omega.{arith}
use lib.Dec.{eqb}
use lib.ListN.{length, length-append}
use borrow.Author.Tests.{eqb-true, eqb-false, eq-eqb, ne_eqb}
use Rattle.std.specs.Prelude.{Option, Some, None, MatchOption}
use Rattle.std.specs.Option.{unwrap_or}
use Rattle.std.specs.NonZero.{non_zero_usize_get}
use Rattle.std.specs.declared.num.NonZeroUsize.{NonZeroUsize}
use Rattle.test_lemmas.proofs.ByCases.{by_test, clash}
use Rattle.hdlc.specs.Image.{longest_body}
use Rattle.bus_event.specs.Event.{images_room, are_letters}
use Rattle.period_text.specs.PeriodText.{period_room}
use Rattle.report.specs.Ahead.{TEXT, OVER}
use Rattle.book_go_on.specs.Progress.{fresh_progress}
use Rattle.book_go_on.specs.declared.progress.Progress.{Progress}
use Rattle.driver.specs.Turn.{Turned, Due, Chain, Drives, Runs, first, most_turns}
use Rattle.driver.specs.Turn.Chain.{none, more}
use Rattle.driver.specs.declared.turn.Held.{Held}

pub record SoFar (most : ℕ) (text₀ room₀ images₀ octets₀ letters₀ : List ℕ) (turns : ℕ) (h : Held) (text room images octets letters : List ℕ)
    : Type 0 where
  pub parts : List (List ℕ)
  pub out : List ℕ
  pub chain : Chain most first text₀ room₀ images₀ octets₀ letters₀ h text room images octets letters parts out
  pub count : turns + length parts ≡ most_turns

-- ---- The test of the loop.
abbrev pub is_done : Held → Bool
is_done h = h.failed || eqb h.why OVER

or_none : (a b : Bool) → (a || b) ≡ false → (a ≡ false) × (b ≡ false)
or_none false b e = (refl, e)
or_none true b e = clash true refl e

pub is_due : (h : Held) → is_done h ≡ false → Due h
is_due h e = let n = or_none h.failed (eqb h.why OVER) e in (n.0, eqb-false _ _ n.1)

not_due : {X : Type 0} (h : Held) → is_done h ≡ true → Due h → X
not_due h e d = clash (is_done h) e (rw (d.0, ne_eqb h.why OVER d.1))

-- ---- Before the first turn, after one more, and at the end.
none_yet : (most : ℕ) (text room images octets letters : List ℕ)
    → SoFar most text room images octets letters most_turns first text room images octets letters
none_yet most text room images octets letters = record { parts = []; out = []; chain = none; count = refl }

pub no_turn : (most : ℕ) (text room images octets letters : List ℕ) (p : Progress) → p ≡ fresh_progress
    → SoFar most text room images octets letters most_turns (record { progress = p; have = 0; why = TEXT; whole = false; failed = false })
    text room images octets letters
no_turn most text room images octets letters p e = rw e (none_yet most text room images octets letters)

module _ {most : ℕ} {text₀ room₀ images₀ octets₀ letters₀ : List ℕ} {turns : ℕ} {h : Held} {text room images octets letters : List ℕ}
    (s : SoFar most text₀ room₀ images₀ octets₀ letters₀ turns h text room images octets letters) where
  pub one_more : {r : Held} {text' room' images' octets' letters' : List ℕ} → 0 < turns → is_done h ≡ false
      → Turned most h text room images octets letters r text' room' images' octets' letters'
      → SoFar most text₀ room₀ images₀ octets₀ letters₀ (turns - 1) r text' room' images' octets' letters'
  one_more l e t =
      record {
        parts = s.parts ++ (t.part ∷ []);
        out = _;
        chain = more s.chain (is_due h e) t;
        count = omega (arith, l, s.count, length-append s.parts (t.part ∷ []));
      }

  at_end : (Due h → length s.parts ≡ most_turns) → Drives most text₀ room₀ images₀ octets₀ letters₀ text room images octets letters
  at_end ended = record { held = h; parts = s.parts; out = s.out; chain = s.chain; ended = ended }

  pub no_more : is_done h ≡ true → Drives most text₀ room₀ images₀ octets₀ letters₀ text room images octets letters
  no_more e = at_end (λ d. not_due h e d)

  pub used_up : turns ≡ 0 → Drives most text₀ room₀ images₀ octets₀ letters₀ text room images octets letters
  used_up e = at_end (λ d. omega (arith, s.count))

-- ---- A run: 0 octets at most count as 1,
pub for_most : (most : ℕ) (part : Option NonZeroUsize) → MatchOption part (most ≡ 0) (λ x. non_zero_usize_get x ≡ most)
    → (one : NonZeroUsize) → non_zero_usize_get one ≡ 1 → non_zero_usize_get (unwrap_or part one) ≡ cond (eqb most 0) 1 most
for_most most None zero one is = rw (eq-eqb most 0 zero) is
for_most most (Some x) e one is = e ∙ by_test (eqb most 0) (λ z. absurd (omega (arith, eqb-true most 0 z, e, x.ok))) (λ z. rw z)

-- with too little room, and otherwise
pub runs_idle : (most : ℕ) (room : List ℕ) → length room < period_room → Runs most room room
runs_idle most room few = record { idle = λ _. refl; driven = λ big. absurd (omega (arith, few, big)) }

pub runs_driven : {most part : ℕ} {text room images octets letters text' room' images' octets' letters' : List ℕ} → period_room ≤ length room
    → part ≡ cond (eqb most 0) 1 most → length images ≡ images_room → longest_body ≤ length octets → are_letters letters ≡ true
    → Drives part text room images octets letters text' room' images' octets' letters' → Runs most room room'
runs_driven {most} {part} {text} {room} {images} {octets} {letters} {text'} {room'} {images'} {octets'} {letters'} big p i o l d =
    record {
      idle = λ few. absurd (omega (arith, few, big));
      driven = λ _.
          record {
            text = text;
            images = images;
            octets = octets;
            letters = letters;
            images_long = i;
            octets_long = o;
            letters_right = l;
            text' = text';
            images' = images';
            octets' = octets';
            letters' = letters';
            drives = rw (← p) d;
          };
    }
