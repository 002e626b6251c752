-- What terminals give together that send INFO 0, INFO 1 or INFO 3.
use mathlib.Core.Path.{◌≡◌, refl, sym, ap, ◌∙◌}
use mathlib.Core.Bool.{Bool, true, false, not, cond, ◌&&◌, ◌||◌}
use mathlib.Core.List.{List, [], ◌∷◌, ◌++◌, map, map-append, append_assoc, append-nil}
use Prim.Native.Nat.{ℕ, zero, suc, ◌<◌}
use native.Mathlib.Omega.{arith}
use borrow.Author.Tests.{eqb-true}
use lib.Dec.{eqb}
use lib.ListN.{get_or, get_or-replicate}
use Rattle.test_lemmas.proofs.ByCases.{by_test, at_each_below}
use Rattle.symbols.specs.Symbols.{line_length, none, plus, minus, level, levels, tabulate}
use Rattle.symbols.proofs.Levels.{level_at}
use Rattle.frame.specs.Four.{pick, and_all}
use Rattle.frame.specs.Bits.{d_bits, d_index, fa_bit, fa_index}
use Rattle.frame.specs.Up.{up_line}
use Rattle.frame.specs.declared.fields.Four.{Four}
use Rattle.frame.specs.declared.fields.UpFields.{UpFields}
use Rattle.frame.proofs.Laws.{d_symbol_up, fa_symbol_up, pick_and, pick_ones, pick_d, pick_same, d_index_in_line}
use Rattle.info.specs.Info.{info0, info1}
use Rattle.combining.specs.Combine.{is_sent, only, column, combined}
use Rattle.combining.specs.Groups.{all_of}
use Rattle.combining.specs.Sent.{Sent, sent_line}
use Rattle.combining.specs.SentD.{sent_d, sent_fa, is_calling, any_calling, frames, is_info3, frames_line, heard_with_info1}
use Rattle.combining.specs.Sent.Sent.{silent, calling, frame}
use Rattle.combining.proofs.Columns.{combined_at, combined_silent, de_morgan}
use Rattle.combining.proofs.ByGroup.{combined_idle}

pub combined_info0 : (ls ms : List (List ℕ)) → combined (ls ++ (info0 ∷ ms)) ≡ combined (ls ++ ms)
unfolding combined
combined_info0 ls ms = combined_silent line_length ls ms

-- ---- Without INFO 1: those that send INFO 3 give the line.
only_frames : (fs : List UpFields) (xs : List Sent) → any_calling xs ≡ false → combined (map up_line fs ++ map sent_line xs) ≡ combined (map up_line (fs ++ frames xs))
unfolding frames any_calling
only_frames fs [] h = simp append-nil
only_frames fs (silent ∷ xs) h = combined_info0 (map up_line fs) (map sent_line xs) ∙ only_frames fs xs h
only_frames fs (calling ∷ xs) h = cc
only_frames fs (frame f ∷ xs) h =
    ap combined (simp (map-append, append_assoc))
    ∙ (only_frames (fs ++ (f ∷ [])) xs h ∙ ap (λ (l : List UpFields). combined (map up_line l)) (append_assoc fs (f ∷ []) (frames xs)))

pub of_frames : (fs : List UpFields) → all_of is_info3 fs ≡ true → combined (map up_line fs) ≡ frames_line fs
unfolding combined is_sent tabulate
of_frames [] i = refl
of_frames (f ∷ fs) i = combined_idle f fs i

pub combined_sent : (xs : List Sent) → all_of is_info3 (frames xs) ≡ true → any_calling xs ≡ false → combined (map sent_line xs) ≡ frames_line (frames xs)
combined_sent xs i h = only_frames [] xs h ∙ of_frames (frames xs) i

-- What is heard where a plus is sent or not, and a minus where not all bits are 1.
heard : (p b : Bool) → level (only p (not b)) ≡ cond p (not b) b
heard true true = refl
heard true false = refl
heard false true = refl
heard false false = refl

-- ---- The D bits, whatever is sent: the symbol of one terminal at a D.
module _ (k : ℕ) (h : k < 4) where
  info1_symbol : get_or info1 (d_index k) none ≡ cond (eqb k 1) plus none
  info1_symbol =
      eqb-true (get_or info1 (d_index k) none) (cond (eqb k 1) plus none)
      (at_each_below (λ j. eqb (get_or info1 (d_index j) none) (cond (eqb j 1) plus none)) 4 k refl h)

  info0_symbol : get_or info0 (d_index k) none ≡ none
  info0_symbol = get_or-replicate {A = ℕ} line_length (d_index k) none none (d_index_in_line k h)

  -- A minus is a D of 0.
  is_minus : (x : Sent) → eqb (get_or (sent_line x) (d_index k) none) minus ≡ not (pick k (sent_d x))
  is_minus silent = rw (info0_symbol, pick_ones k)
  is_minus calling = rw (info1_symbol, pick_ones k) (by_test (eqb k 1) (λ t. rw t) (λ t. rw t))
  is_minus (frame f) = rw (d_symbol_up k f h) (by_test (pick k f.d) (λ t. rw t) (λ t. rw t))

  -- A plus is INFO 1's, at position 25.
  is_plus : (x : Sent) → eqb (get_or (sent_line x) (d_index k) none) plus ≡ (eqb k 1 && is_calling x)
  is_plus silent = rw info0_symbol (by_test (eqb k 1) (λ t. rw t) (λ t. rw t))
  is_plus calling = rw info1_symbol (by_test (eqb k 1) (λ t. rw t) (λ t. rw t))
  is_plus (frame f) = rw (d_symbol_up k f h) (by_test (pick k f.d) (λ t. rw t (by_test (eqb k 1) (λ u. rw u) (λ u. rw u))) (λ t. rw t (by_test (eqb k 1) (λ u. rw u) (λ u. rw u))))

  minus_sent : (xs : List Sent) → is_sent minus (column (d_index k) (map sent_line xs)) ≡ not (pick k (and_all (map sent_d xs)))
  unfolding is_sent and_all
  minus_sent [] = rw (pick_ones k)
  minus_sent (x ∷ xs) = rw (is_minus x, minus_sent xs, pick_and k (sent_d x) (and_all (map sent_d xs))) (de_morgan (pick k (sent_d x)) (pick k (and_all (map sent_d xs))))

  distribute : (c a b : Bool) → ((c && a) || (c && b)) ≡ (c && (a || b))
  distribute true a b = refl
  distribute false a b = refl

  plus_sent : (xs : List Sent) → is_sent plus (column (d_index k) (map sent_line xs)) ≡ (eqb k 1 && any_calling xs)
  unfolding is_sent any_calling
  plus_sent [] = by_test (eqb k 1) (λ t. rw t) (λ t. rw t)
  plus_sent (x ∷ xs) = rw (is_plus x, plus_sent xs) (distribute (eqb k 1) (is_calling x) (any_calling xs))

  d_heard_lem : (xs : List Sent) → pick k (d_bits (levels (combined (map sent_line xs)))) ≡ cond (eqb k 1 && any_calling xs) (not (pick k (and_all (map sent_d xs)))) (pick k (and_all (map sent_d xs)))
  d_heard_lem xs =
      rw (pick_d k (combined (map sent_line xs)) h, combined_at (map sent_line xs) (d_index k) (d_index_in_line k h), plus_sent xs, minus_sent xs)
      (heard (eqb k 1 && any_calling xs) (pick k (and_all (map sent_d xs))))

pub pick_heard : (k : ℕ) (info1 : Bool) (d : Four) → k < 4 → pick k (heard_with_info1 info1 d) ≡ cond (eqb k 1 && info1) (not (pick k d)) (pick k d)
unfolding pick
pick_heard zero c d h = refl
pick_heard (suc zero) c d h = refl
pick_heard (suc (suc zero)) c d h = refl
pick_heard (suc (suc (suc zero))) c d h = refl
pick_heard (suc (suc (suc (suc k)))) c d h = absurd (omega arith)

pub combined_sent_d : (xs : List Sent) → d_bits (levels (combined (map sent_line xs))) ≡ heard_with_info1 (any_calling xs) (and_all (map sent_d xs))
combined_sent_d xs =
    pick_same _ _ (λ k h. d_heard_lem k h xs ∙ sym (pick_heard k (any_calling xs) (and_all (map sent_d xs)) h))

-- ---- FA, whatever is sent: a minus is a FA of 0, and nobody sends a plus there.
fa_minus : (x : Sent) → eqb (get_or (sent_line x) fa_index none) minus ≡ not (sent_fa x)
fa_minus silent = refl
fa_minus calling = refl
fa_minus (frame f) = rw (fa_symbol_up f) (by_test f.fa (λ t. rw t) (λ t. rw t))

fa_plus : (x : Sent) → eqb (get_or (sent_line x) fa_index none) plus ≡ false
fa_plus silent = refl
fa_plus calling = refl
fa_plus (frame f) = rw (fa_symbol_up f) (by_test f.fa (λ t. rw t) (λ t. rw t))

fa_minus_sent : (xs : List Sent) → is_sent minus (column fa_index (map sent_line xs)) ≡ not (all_of sent_fa xs)
unfolding is_sent all_of
fa_minus_sent [] = refl
fa_minus_sent (x ∷ xs) = rw (fa_minus x, fa_minus_sent xs) (de_morgan (sent_fa x) (all_of sent_fa xs))

fa_plus_sent : (xs : List Sent) → is_sent plus (column fa_index (map sent_line xs)) ≡ false
unfolding is_sent
fa_plus_sent [] = refl
fa_plus_sent (x ∷ xs) = rw (fa_plus x, fa_plus_sent xs)

pub combined_sent_fa : (xs : List Sent) → fa_bit (levels (combined (map sent_line xs))) ≡ all_of sent_fa xs
combined_sent_fa xs =
    rw (level_at (combined (map sent_line xs)) fa_index, combined_at (map sent_line xs) fa_index (omega arith), fa_plus_sent xs, fa_minus_sent xs)
    (heard false (all_of sent_fa xs))
