-- Each way out of the calls on lent text, over plain values.
use mathlib.Core.Path.{◌≡◌, refl, sym, ap, ◌∙◌}
use mathlib.Core.Bool.{Bool, true, false}
use mathlib.Core.List.{List}
use Prim.Native.Nat.{ℕ, ◌+◌, ◌-◌, ◌≤◌, ◌<◌, min}
use native.Mathlib.Omega.{arith}
use lib.Dec.{ltb}
use lib.ListN.{length, take, drop, length-take, length-drop, drop_of_length-le}
use lib.Seq.{take_all}
use borrow.Author.Tests.{eq-eqb, ne_eqb, lt-ltb, le-ltb, ltb-true, ltb-false}
use Rattle.test_lemmas.proofs.ByCases.{by_test}
use Rattle.std.specs.Prelude.{Result, Ok, Err}
use Rattle.refusals.specs.declared.Refusal.{Refusal}
use Rattle.refusals.specs.Numbers.{number}
use Rattle.text.specs.Text.{LF, upto}
use Rattle.text.specs.declared.field.Ends.{Ends}
use Rattle.book_line.specs.Line.{longest_line, in_order}
use Rattle.book_line.specs.Judging.{judged}
use Rattle.book_line.specs.declared.line.Entry.{Entry}
use Rattle.book_reader.specs.Step.{before_first_line, at_lines, ruled, window, line_step, unended, head_step, tail_step, step_of, step_at}
use Rattle.book_reader.specs.Step.{value_from, value_to}
use Rattle.book_reader.specs.declared.step.Step.{Step}

-- ---- a line that is judged
module _ (last end : ℕ) where
  pub ruled_wrong : (reason : Refusal) (j : Result Entry Refusal) → Err reason ≡ j → Step.Fault (number reason) ≡ ruled last end j
  unfolding ruled
  ruled_wrong reason j q = ap (ruled last end) q

  pub ruled_late : (e : Entry) (j : Result Entry Refusal) → Ok e ≡ j → in_order last e.period ≡ false → Step.Fault 13 ≡ ruled last end j
  unfolding ruled
  ruled_late e j q f = let z : Step.Fault 13 ≡ ruled last end (Ok e) = rw f in z ∙ ap (ruled last end) q

  pub ruled_entry : (e : Entry) (j : Result Entry Refusal) → Ok e ≡ j → in_order last e.period ≡ true
      → Step.Entry e.period e.unit e.event e.ends end ≡ ruled last end j
  unfolding ruled
  ruled_entry e j q f = let z : Step.Entry e.period e.unit e.event e.ends end ≡ ruled last end (Ok e) = rw f in z ∙ ap (ruled last end) q

-- ---- the four answers that are no entry have no value
no_entry : (said : Step) → ((p u e : ℕ) (ends : Ends) (octets : ℕ) → said ≡ Step.Entry p u e ends octets → ⊥)
    → (value_from said ≡ 0) × (value_to said ≡ 0)
unfolding value_from value_to
no_entry Step.Begun k = (refl, refl)
no_entry (Step.Entry p u e ends octets) k = absurd (k p u e ends octets refl)
no_entry Step.Done k = (refl, refl)
no_entry (Step.Fault n) k = (refl, refl)
no_entry Step.More k = (refl, refl)

-- ---- the search for a line's LF
-- no more than are there
take_least : (t : List ℕ) (most n : ℕ) → n ≡ min most (length t) → take n t ≡ take most t
take_least t most n e =
    by_test (ltb (length t) most)
    (λ h. take_all n t (omega (arith, ltb-true (length t) most h)) ∙ sym (take_all most t (omega (arith, ltb-true (length t) most h))))
    (λ h. let z : n ≡ most = omega (arith, ltb-false (length t) most h) in rw z)

module _ (t : List ℕ) (last : ℕ) (whole : Bool) (n end : ℕ) (most : n ≡ min longest_line (length t)) (ends : end ≡ 0 + upto LF (take n t)) where
  here : end ≡ upto LF (window t)
  here = let w : 0 + upto LF (take n t) ≡ upto LF (take n t) = omega arith in ends ∙ (w ∙ ap (upto LF) (take_least t longest_line n most))

  pub step_line : end < n → ruled last (end + 1) (judged (take end t)) ≡ line_step t last whole
  unfolding line_step
  step_line h =
      let l : ltb (upto LF (window t)) (length (window t)) ≡ true = lt-ltb (upto LF (window t)) (length (window t))
      (omega (arith, here, length-take longest_line t)) in
      rw l (rw (sym here))

  pub step_unended : n ≤ end → unended (length t) whole ≡ line_step t last whole
  unfolding line_step
  step_unended h =
      let l : ltb (upto LF (window t)) (length (window t)) ≡ false = le-ltb (upto LF (window t)) (length (window t))
      (omega (arith, here, length-take longest_line t)) in
      rw l

-- ---- a position past the text's end is the end
module _ (text : List ℕ) (at from : ℕ) (least : from ≡ min at (length text)) where
  from_drop : drop from text ≡ drop at text
  from_drop =
      by_test (ltb at (length text))
      (λ h. let z : from ≡ at = omega (arith, ltb-true at (length text) h) in rw z)
      (λ h. drop_of_length-le text {i = from} (omega (arith, ltb-false at (length text) h)) ∙ sym
      (drop_of_length-le text {i = at} (ltb-false at (length text) h)))

  rest_whole : take (length text - from) (drop from text) ≡ drop at text
  rest_whole = take_all (length text - from) (drop from text) (omega (arith, length-drop from text)) ∙ from_drop

  pub at_head : (stage last : ℕ) (whole : Bool) → stage ≡ before_first_line
      → head_step (take (length text - from) (drop from text)) whole ≡ step_at text at stage last whole
  unfolding step_of
  at_head stage last whole e = ap (λ (t : List ℕ). head_step t whole) rest_whole ∙ rw (eq-eqb stage before_first_line e)

  pub at_line : (stage last : ℕ) (whole : Bool) → (stage ≡ before_first_line → ⊥) → stage ≡ at_lines
      → line_step (take (length text - from) (drop from text)) last whole ≡ step_at text at stage last whole
  unfolding step_of
  at_line stage last whole n e =
      ap (λ (t : List ℕ). line_step t last whole) rest_whole ∙ rw (ne_eqb stage before_first_line n, eq-eqb stage at_lines e)

  pub at_tail : (stage last : ℕ) (whole : Bool) → (stage ≡ before_first_line → ⊥) → (stage ≡ at_lines → ⊥)
      → tail_step (length (take (length text - from) (drop from text))) whole ≡ step_at text at stage last whole
  unfolding step_of
  at_tail stage last whole n m =
      ap (λ (t : List ℕ). tail_step (length t) whole) rest_whole ∙ rw (ne_eqb stage before_first_line n, ne_eqb stage at_lines m)
