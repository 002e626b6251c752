-- One call against the whole book: whatever octets come later, what the call takes and what is then still to come are what was to come.
use mathlib.Core.Path.{◌≡◌, refl, sym, ap, ◌∙◌, subst}
use mathlib.Core.Bool.{Bool, true, false, cond}
use mathlib.Core.List.{List, [], ◌∷◌, ◌++◌, append-nil}
use Prim.Native.Nat.{ℕ, zero, suc, ◌+◌, ◌-◌, ◌≤◌, ◌<◌}
use native.Mathlib.Omega.{arith}
use lib.Dec.{eqb, ltb}
use lib.ListN.{length, take, drop, length-take, length-drop, length-append}
use lib.Seq.{take_all, length-take-le, take-append-le, drop-append-le, drop-drop}
use borrow.Author.Tests.{eqb-true, eqb-false, ne_eqb, lt-ltb, le-ltb, ltb-true, ltb-false}
use Rattle.test_lemmas.proofs.ByCases.{by_test}
use Rattle.text.specs.Text.{LF, split, upto, same, onto}
use Rattle.text.specs.Fields.{ends_of}
use Rattle.text.proofs.Pieces.{upto_le, split_upto, split_some, same_length}
use Rattle.book_line.specs.Line.{longest_line, formed, in_order, is_end, period_of, unit_of, event_of, value_of}
use Rattle.book_line.specs.Judging.{judged}
use Rattle.book_reader.specs.Book.{first_line, nothing, closing, lines, answers_from}
use Rattle.book_reader.specs.Book.Answer.{entry, fault}
use Rattle.book_reader.specs.Step.{before_first_line, at_lines, head_step, ruled, unended, window, line_step, tail_step, step_of, step_at}
use Rattle.book_reader.specs.Parts.{Place, begun, past, to_come}
use Rattle.book_reader.specs.Laws.{Law}
use Rattle.book_reader.specs.declared.step.Step.{Step}
use Rattle.book_reader.specs.declared.step.Step.TheVariants.{Begun, Entry, Done, Fault, More}

-- ---- a separator in the octets at hand is the first one, whatever comes later
found_later : (sep n : ℕ) (t later : List ℕ) → upto sep (take n t) < length (take n t) → upto sep (t ++ later) ≡ upto sep (take n t)
unfolding upto
found_later sep zero t later h = absurd (omega arith)
found_later sep (suc n) [] later h = absurd (omega arith)
found_later sep (suc n) (c ∷ t) later h =
    by_test (eqb c sep) (λ e. simp e)
    (λ e. let k : suc (upto sep (take n t)) < suc (length (take n t)) = simp e at h in simp (e, found_later sep n t later (omega arith)))

none_later : (sep n : ℕ) (t later : List ℕ) → length (take n t) ≤ upto sep (take n t) → length (take n t) ≤ upto sep (t ++ later)
unfolding upto
none_later sep zero t later h = omega arith
none_later sep (suc n) [] later h = omega arith
none_later sep (suc n) (c ∷ t) later h =
    by_test (eqb c sep)
    (λ e. let k : suc (length (take n t)) ≤ 0 = simp e at h in absurd (omega arith))
    (λ e. let k : suc (length (take n t)) ≤ suc (upto sep (take n t)) = simp e at h in
    simp e (omega (arith, none_later sep n t later (omega arith))))

-- ---- what is still to come, by how far the book has come
module _ (p : Place) (left : List ℕ) where
  pub come_head : eqb p.stage before_first_line ≡ true → to_come p left ≡ answers_from p.last left
  unfolding to_come
  come_head e = rw e

  come_lines : eqb p.stage before_first_line ≡ false → eqb p.stage at_lines ≡ true → to_come p left ≡ lines p.last (split LF left)
  unfolding to_come
  come_lines e f = rw (e, f)

  come_tail : eqb p.stage before_first_line ≡ false → eqb p.stage at_lines ≡ false → to_come p left ≡ closing (split LF left)
  unfolding to_come
  come_tail e f = rw (e, f)

come_past : (q u e : ℕ) (left : List ℕ) → to_come (past q u e) left ≡ cond (is_end u e) (closing (split LF left)) (lines q (split LF left))
unfolding to_come
come_past q u e left = by_test (is_end u e) (λ y. rw y) (λ n. rw n)

-- ---- lines
-- a line that has its LF
lines_go : (last : ℕ) (line : List ℕ) (ps : List (List ℕ)) → 0 < length ps
    → lines last (line ∷ ps) ≡ cond (formed line)
    (cond (in_order last (period_of line))
    (entry (period_of line) (unit_of line) (event_of line) (value_of line)
    ∷ cond (is_end (unit_of line) (event_of line)) (closing ps) (lines (period_of line) ps))
    (fault 13 ∷ []))
    (fault 12 ∷ [])
unfolding lines
lines_go last line [] h = absurd (omega arith)
lines_go last line (p ∷ ps) h = refl

unformed : (line : List ℕ) → longest_line ≤ length line → formed line ≡ false
unfolding formed
unformed line h = rw (le-ltb (length line) longest_line h)

-- too long, with its LF or without
lines_long : (last : ℕ) (line : List ℕ) (ps : List (List ℕ)) → longest_line ≤ length line → lines last (line ∷ ps) ≡ fault 12 ∷ []
unfolding lines nothing
lines_long last line [] h = rw (ne_eqb (length line) 0 (λ e. omega arith))
lines_long last line (p ∷ ps) h = rw (unformed line h)

-- no LF is left
lines_alone : (last : ℕ) (t : List ℕ) → length t ≤ upto LF t → lines last (split LF t) ≡ fault (cond (eqb (length t) 0) 14 12) ∷ []
unfolding lines nothing
lines_alone last t h =
    let e : split LF t ≡ t ∷ [] = split_upto LF t ∙ rw (le-ltb (upto LF t) (length t) h, take_all (upto LF t) t h) in
    ap (lines last) e

-- ---- after `end`
nothing_onto : (c : ℕ) (ps : List (List ℕ)) → nothing (onto c ps) ≡ false
unfolding nothing onto
nothing_onto c [] = refl
nothing_onto c (q ∷ []) = ne_eqb (length (c ∷ q)) 0 (λ e. omega arith)
nothing_onto c (q ∷ r ∷ ps) = refl

nothing_after : (ps : List (List ℕ)) → 0 < length ps → nothing ([] ∷ ps) ≡ false
unfolding nothing
nothing_after [] h = absurd (omega arith)
nothing_after (q ∷ ps) h = refl

closing_is : (t : List ℕ) → closing (split LF t) ≡ cond (eqb (length t) 0) [] (fault 14 ∷ [])
unfolding closing nothing split
closing_is [] = refl
closing_is (c ∷ t) =
    by_test (eqb c LF)
    (λ e. rw (e, nothing_after (split LF t) (split_some LF t), ne_eqb (length (c ∷ t)) 0 (λ z. omega arith)))
    (λ e. rw (e, nothing_onto c (split LF t), ne_eqb (length (c ∷ t)) 0 (λ z. omega arith)))

-- ---- the law of a call: what is at hand is drop at text
module _ (p : Place) (text : List ℕ) (at : ℕ) (whole : Bool) (later : List ℕ) (fit : whole ≡ true → later ≡ []) where
  abbrev t : List ℕ
  t = drop at text

  -- the law at an answer that is known to be another
  law_at : (x y : Step) → x ≡ y → Law p text at whole later y → Law p text at whole later x
  law_at x y e = subst (Law p text at whole later) (sym e)

  -- all of the book is at hand
  all_at_hand : whole ≡ true → t ++ later ≡ t
  all_at_hand w = ap (λ (l : List ℕ). t ++ l) (fit w) ∙ append-nil t

  -- ---- the book's first line
  module _ (s : eqb p.stage before_first_line ≡ true) where
    head_few : length t < length first_line → Law p text at whole later (head_step t whole)
    unfolding head_step answers_from
    head_few h =
        let l : ltb (length t) (length first_line) ≡ true = lt-ltb (length t) (length first_line) h in
        let n : answers_from p.last t ≡ fault 11 ∷ [] = rw
        (same_length (take (length first_line) t) first_line (λ e. omega (arith, length-take (length first_line) t))) in
        by_test whole
        (λ w. law_at (head_step t whole) (Fault 11) (rw (l, w)) (come_head p (t ++ later) s ∙ (ap (answers_from p.last) (all_at_hand w) ∙ n)))
        (λ w. law_at (head_step t whole) More (rw (l, w)) (record { cut = w; few = omega arith }))

    head_long : length first_line ≤ length t → Law p text at whole later (head_step t whole)
    unfolding head_step answers_from
    head_long h =
        let l : ltb (length t) (length first_line) ≡ false = le-ltb (length t) (length first_line) h in
        let k : take (length first_line) (t ++ later) ≡ take (length first_line) t = take-append-le (length first_line) t later h in
        by_test (same (take (length first_line) t) first_line)
        (λ e. law_at (head_step t whole) Begun (rw (l, e))
        (record {
          within = omega (arith, length-drop at text);
          said =
              come_head p (t ++ later) s
              ∙ (rw (k, e, drop-append-le (length first_line) t later h, drop-drop (length first_line) at text)
              (sym (come_lines (begun p) (drop (at + length first_line) text ++ later) refl refl)));
        }))
        (λ e. law_at (head_step t whole) (Fault 11) (rw (l, e)) (come_head p (t ++ later) s ∙ rw (k, e)))

    head_law : Law p text at whole later (head_step t whole)
    head_law =
        by_test (ltb (length t) (length first_line))
        (λ h. head_few (ltb-true (length t) (length first_line) h))
        (λ h. head_long (ltb-false (length t) (length first_line) h))

  -- ---- after `end`
  tail_law : eqb p.stage before_first_line ≡ false → eqb p.stage at_lines ≡ false → Law p text at whole later (tail_step (length t) whole)
  unfolding tail_step
  tail_law s r =
      by_test (eqb (length t) 0)
      (λ e. by_test whole
      (λ w. law_at (tail_step (length t) whole) Done (rw (e, w))
      (come_tail p (t ++ later) s r ∙ (ap (λ (l : List ℕ). closing (split LF l)) (all_at_hand w) ∙ (closing_is t ∙ rw e))))
      (λ w. law_at (tail_step (length t) whole) More (rw (e, w)) (record { cut = w; few = omega (arith, eqb-true (length t) 0 e) })))
      (λ e. law_at (tail_step (length t) whole) (Fault 14) (rw e)
      (come_tail p (t ++ later) s r
      ∙ (closing_is (t ++ later)
      ∙ rw (ne_eqb (length (t ++ later)) 0 (λ z. eqb-false (length t) 0 e (omega (arith, length-append t later)))))))

  -- ---- a line
  module _ (s : eqb p.stage before_first_line ≡ false) (r : eqb p.stage at_lines ≡ true) where
    -- with its LF at k of what is at hand
    module _ (k : ℕ) (u : upto LF (t ++ later) ≡ k) (h : k < length t) (few : k < longest_line) where
      abbrev line : List ℕ
      line = take k t

      abbrev after : List ℕ
      after = drop (at + suc k) text ++ later

      split_found : split LF (t ++ later) ≡ line ∷ split LF after
      split_found =
          split_upto LF (t ++ later)
          ∙ rw (
            u,
            lt-ltb k (length (t ++ later)) (omega (arith, length-append t later)),
            take-append-le k t later (omega arith),
            drop-append-le (suc k) t later h,
            drop-drop (suc k) at text,
          )

      first_line_lem : to_come p (t ++ later) ≡ cond (formed line)
          (cond (in_order p.last (period_of line))
          (entry (period_of line) (unit_of line) (event_of line) (value_of line)
          ∷ cond (is_end (unit_of line) (event_of line)) (closing (split LF after)) (lines (period_of line) (split LF after)))
          (fault 13 ∷ []))
          (fault 12 ∷ [])
      first_line_lem =
          come_lines p (t ++ later) s r ∙ (ap (lines p.last) split_found ∙ lines_go p.last line (split LF after) (split_some LF after))

      found_law : Law p text at whole later (ruled p.last (k + 1) (judged line))
      unfolding ruled judged
      found_law =
          by_test (formed line)
          (λ e. by_test (in_order p.last (period_of line))
          (λ f. law_at (ruled p.last (k + 1) (judged line)) (Entry (period_of line) (unit_of line) (event_of line) (ends_of line) (k + 1)) (rw (e, f))
          (let a : k + 1 - 1 ≡ k = omega arith in let b : at + (k + 1) ≡ at + suc k = omega arith in
          record {
            within = omega (arith, length-drop at text);
            lf = omega arith;
            few = omega arith;
            said = rw (a, b) (first_line_lem ∙ rw (e, f, come_past (period_of line) (unit_of line) (event_of line) after));
          }))
          (λ f. law_at (ruled p.last (k + 1) (judged line)) (Fault 13) (rw (e, f)) (first_line_lem ∙ rw (e, f))))
          (λ e. law_at (ruled p.last (k + 1) (judged line)) (Fault 12) (rw e) (first_line_lem ∙ rw e))

    -- without
    module _ (n : length (window t) ≤ upto LF (window t)) where
      none_long : longest_line ≤ length t → to_come p (t ++ later) ≡ fault 12 ∷ []
      none_long h =
          let u : longest_line ≤ upto LF (t ++ later) = omega (arith, none_later LF longest_line t later n, length-take longest_line t) in
          come_lines p (t ++ later) s r
          ∙ (ap (lines p.last) (split_upto LF (t ++ later))
          ∙ lines_long p.last (take (upto LF (t ++ later)) (t ++ later)) _
          (omega (arith, length-take-le (upto LF (t ++ later)) (t ++ later) (upto_le LF (t ++ later)))))

      none_law : Law p text at whole later (unended (length t) whole)
      unfolding unended
      none_law =
          by_test (ltb (length t) longest_line)
          (λ h. let few : length t < longest_line = ltb-true (length t) longest_line h in
          let m : length t ≤ upto LF t = rw (take_all longest_line t (omega arith)) at n in
          by_test whole
          (λ w. law_at (unended (length t) whole) (Fault (cond (eqb (length t) 0) 14 12)) (rw (h, w))
          (come_lines p (t ++ later) s r ∙ (ap (λ (l : List ℕ). lines p.last (split LF l)) (all_at_hand w) ∙ lines_alone p.last t m)))
          (λ w. law_at (unended (length t) whole) More (rw (h, w)) (record { cut = w; few = few })))
          (λ h. law_at (unended (length t) whole) (Fault 12) (rw h) (none_long (ltb-false (length t) longest_line h)))

    line_law : Law p text at whole later (line_step t p.last whole)
    unfolding line_step
    line_law =
        by_test (ltb (upto LF (window t)) (length (window t)))
        (λ h. let l : upto LF (window t) < length (window t) = ltb-true (upto LF (window t)) (length (window t)) h in
        law_at (line_step t p.last whole) (ruled p.last (upto LF (window t) + 1) (judged (take (upto LF (window t)) t))) (rw h)
        (found_law (upto LF (window t)) (found_later LF longest_line t later l) (omega (arith, length-take longest_line t))
        (omega (arith, length-take longest_line t))))
        (λ h. let l : length (window t) ≤ upto LF (window t) = ltb-false (upto LF (window t)) (length (window t)) h in
        law_at (line_step t p.last whole) (unended (length t) whole) (rw h) (none_law l))

  -- ---- any call
  step_law : Law p text at whole later (step_at text at p.stage p.last whole)
  unfolding step_of
  step_law =
      by_test (eqb p.stage before_first_line)
      (λ s. law_at (step_at text at p.stage p.last whole) (head_step t whole) (rw s) (head_law s))
      (λ s. by_test (eqb p.stage at_lines)
      (λ r. law_at (step_at text at p.stage p.last whole) (line_step t p.last whole) (rw (s, r)) (line_law s r))
      (λ r. law_at (step_at text at p.stage p.last whole) (tail_step (length t) whole) (rw (s, r)) (tail_law s r)))

  -- at the answer that it gave
  pub call_law : (a : Step) → step_at text at p.stage p.last whole ≡ a → Law p text at whole later a
  call_law a e = subst (Law p text at whole later) e step_law
