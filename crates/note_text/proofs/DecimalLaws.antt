-- A number in decimal: its last digit behind those of a tenth of it, and how many digits it has.
use mathlib.Core.List.{List, [], ◌∷◌, ◌++◌, append_assoc, append-nil}
use mathlib.Core.Path.{◌≡◌, refl, sym, ◌∙◌}
use Prim.Native.Nat.{ℕ, zero, suc, ◌-◌, ◌/◌, ◌%◌, ◌^◌, ◌≤◌, ◌<◌}
use native.Mathlib.Omega.{arith}
use borrow.Author.Tests.{lt-ltb, le-ltb, ltb-true, ltb-false}
use lib.Dec.{ltb}
use lib.ListN.{length, set, take, drop, replicate, length-append, length-set, length-drop}
use lib.Seq.{drop-cons, drop-set-lt, get_or-set_same, take_all}
use Rattle.std.specs.Fmt.{decimal as printed}
use Rattle.std.proofs.lemmas.Fmt.{decimal_by_steps}
use Rattle.test_lemmas.proofs.ByCases.{by_test}
use Rattle.note_text.specs.NoteText.{digit, decimal_in, decimal}

-- more digits than it has change nothing
same_digits : (f g n : ℕ) → n ≤ f → n ≤ g → decimal_in (suc f) n ≡ decimal_in (suc g) n
unfolding decimal_in
same_digits zero g n h k = rw (lt-ltb n 10 (omega arith))
same_digits (suc f) zero n h k = rw (lt-ltb n 10 (omega arith))
same_digits (suc f) (suc g) n h k =
    by_test (ltb n 10) (λ t. rw t)
    (λ t. rw (t, same_digits f g (n / 10) (omega (arith, ltb-false n 10 t)) (omega (arith, ltb-false n 10 t))))

pub decimal_short : (n : ℕ) → n ≤ 9 → decimal n ≡ digit n ∷ []
unfolding decimal decimal_in
decimal_short n h = rw (lt-ltb n 10 (omega arith))

pub decimal_long : (n : ℕ) → 9 < n → decimal n ≡ decimal (n / 10) ++ (digit (n % 10) ∷ [])
unfolding decimal decimal_in
decimal_long zero h = absurd (omega arith)
decimal_long (suc n) h =
    rw (le-ltb (suc n) 10 (omega arith), same_digits n (suc n / 10) (suc n / 10) (omega arith) (omega arith))

pub decimal_length : (k n : ℕ) → n < 10 ^ suc k → length (decimal n) ≤ suc k
decimal_length zero n h = rw (decimal_short n (omega arith)) (omega arith)
decimal_length (suc k) n h =
    by_test (ltb n 10) (λ t. rw (decimal_short n (omega (arith, ltb-true n 10 t))) (omega arith))
    (λ t. rw (decimal_long n (omega (arith, ltb-false n 10 t)), length-append (decimal (n / 10)) (digit (n % 10) ∷ []))
    (omega (arith, decimal_length k (n / 10) (omega arith))))

-- ---- One digit after the other, the last first, as a loop writes them into an array that has a place for each digit of
-- the largest number: those past place `at` are written.
abbrev most : ℕ
most = 20

pub record Spelling (n : ℕ) (text : List ℕ) (at rest : ℕ) : Type 0 where
  pub below : rest < 10 ^ suc at
  pub place : at < most
  pub long : length text ≡ most
  pub digits_are : decimal n ≡ decimal rest ++ drop (suc at) text

-- a digit more
drop_written : (text : List ℕ) (at d : ℕ) → at < length text → drop at (set text at d) ≡ d ∷ drop (suc at) text
drop_written text at d h =
    drop-cons (set text at d) at 0 (rw (length-set text at d) h)
    ∙ rw (get_or-set_same text at d 0 h, drop-set-lt (suc at) text at d (omega arith))

pub spelling_starts : (n : ℕ) → n < 2 ^ 64 → Spelling n (replicate most 0) 19 n
spelling_starts n h = record { below = omega arith; place = omega arith; long = refl; digits_are = sym (append-nil (decimal n)) }

module _ (n : ℕ) (text : List ℕ) where
  pub spelling_on : (at rest : ℕ) → Spelling n text at rest → 9 < rest → 1 ≤ at
  spelling_on zero rest s h = absurd (omega (arith, s.below))
  spelling_on (suc at) rest s h = omega arith

  pub spelling_next : (at rest : ℕ) → Spelling n text at rest → 9 < rest
      → Spelling n (set text at (digit (rest % 10))) (at - 1) (rest / 10)
  spelling_next zero rest s h = absurd (omega (arith, s.below))
  spelling_next (suc at) rest s h =
      let e : suc at - 1 ≡ at = omega arith in
      rw e
      (record {
        below = omega (arith, s.below);
        place = omega (arith, s.place);
        long = length-set text (suc at) (digit (rest % 10)) ∙ s.long;
        digits_are =
            s.digits_are
            ∙ rw (decimal_long rest h, drop_written text (suc at) (digit (rest % 10)) (omega (arith, s.place, s.long)))
            (append_assoc (decimal (rest / 10)) (digit (rest % 10) ∷ []) (drop (suc (suc at)) text));
      })

  pub spelling_ends : (at rest : ℕ) → Spelling n text at rest → rest ≤ 9 → take (most - at) (drop at (set text at (digit rest))) ≡ decimal n
  spelling_ends at rest s h =
      let written = set text at (digit rest) in
      let e : length (drop at written) ≡ most - at = rw (length-drop at written, length-set text at (digit rest), s.long) in
      take_all (most - at) (drop at written) (omega arith)
      ∙ (drop_written text at (digit rest) (omega (arith, s.place, s.long)) ∙ sym (s.digits_are ∙ rw (decimal_short rest h)))

-- ---- It is the text that std writes of a number.
pub decimal_same : (n : ℕ) → n < 2 ^ 64 → printed n ≡ decimal n
decimal_same n h =
    decimal_by_steps (λ (m : ℕ) (s : List ℕ). s ≡ decimal m) (λ m k. sym (decimal_short m (omega arith)))
    (λ m s k e. rw e (sym (decimal_long m (omega arith)))) n h
