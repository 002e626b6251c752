-- An entry: what is known of its line; and that any number up to its period may stand for the last line's: periods run towards a line do not
-- change what the book says.
use mathlib.Core.Path.{◌≡◌, refl, sym, ap, ◌∙◌}
use mathlib.Core.Bool.{Bool, true, false}
use mathlib.Core.List.{List, [], ◌++◌}
use Prim.Native.Nat.{ℕ, ◌+◌, ◌-◌, ◌≤◌, ◌<◌}
use native.Mathlib.Omega.{arith}
use lib.Dec.{eqb, ltb, leb}
use lib.ListN.{length, take, drop, length-take, length-drop}
use lib.Seq.{take_all, drop-drop, length-take-le}
use borrow.Author.Tests.{eqb-true, ne_eqb, ltb-true, leb-true, le-leb}
use Rattle.test_lemmas.proofs.ByCases.{by_test, clash, and_right}
use Rattle.test_lemmas.proofs.Operators.{and_both}
use Rattle.text.specs.Text.{LF, upto, same}
use Rattle.text.specs.Fields.{field_start, field_end, ends_of, field_from, field_to}
use Rattle.text.specs.declared.field.Ends.{Ends}
use Rattle.text.proofs.Fields.{field_part, fields_end, field_behind}
use Rattle.timing.specs.Counts.{most_periods}
use Rattle.book_line.specs.Line.{longest_line, formed, in_order, period_of, unit_of, event_of, value_of}
use Rattle.book_line.specs.Judging.{judged}
use Rattle.book_line.proofs.Judging.{formed_parts}
use Rattle.book_reader.specs.Book.{first_line}
use Rattle.book_reader.specs.Step.{before_first_line, at_lines, head_step, ruled, unended, window, line_step, tail_step, step_of, step_at, value_from, value_to}
use Rattle.book_reader.specs.Parts.{to_come}
use Rattle.book_reader.specs.Laws.{Entered}
use Rattle.book_reader.specs.declared.step.Step.{Step}
use Rattle.book_reader.specs.declared.step.Step.TheVariants.{Begun, Entry, Done, Fault, More}
use Rattle.book_reader.proofs.Moving.{rest_is}
use Rattle.book_reader.proofs.Cut.{call_law}

-- ---- what is no entry
is_entry : Step → Bool
is_entry Begun = false
is_entry (Entry p u e ends octets) = true
is_entry Done = false
is_entry (Fault n) = false
is_entry More = false

head_none : (t : List ℕ) (whole : Bool) → is_entry (head_step t whole) ≡ false
unfolding is_entry head_step
head_none t whole =
    by_test (ltb (length t) (length first_line))
    (λ h. by_test whole (λ w. rw (h, w)) (λ w. rw (h, w)))
    (λ h. by_test (same (take (length first_line) t) first_line) (λ e. rw (h, e)) (λ e. rw (h, e)))

unended_none : (n : ℕ) (whole : Bool) → is_entry (unended n whole) ≡ false
unfolding is_entry unended
unended_none n whole = by_test (ltb n longest_line) (λ h. by_test whole (λ w. rw (h, w)) (λ w. rw (h, w))) (λ h. rw h)

tail_none : (n : ℕ) (whole : Bool) → is_entry (tail_step n whole) ≡ false
unfolding is_entry tail_step
tail_none n whole = by_test (eqb n 0) (λ h. by_test whole (λ w. rw (h, w)) (λ w. rw (h, w))) (λ h. rw h)

module _ (period unit event : ℕ) (ends : Ends) (octets : ℕ) where
  no_entry {ℓ} : {X : Type ℓ} (a : Step) → is_entry a ≡ false → a ≡ Entry period unit event ends octets → X
  unfolding is_entry
  no_entry a n e = clash (is_entry a) (ap is_entry e) n

  -- ---- a line that is an entry
  module _ (last n : ℕ) (line : List ℕ) where
    record Ruled : Type 0 where
      form : formed line ≡ true
      order : in_order last (period_of line) ≡ true
      is : Entry (period_of line) (unit_of line) (event_of line) (ends_of line) n ≡ Entry period unit event ends octets

    ruled_is : ruled last n (judged line) ≡ Entry period unit event ends octets → Ruled
    unfolding is_entry ruled judged
    ruled_is e =
        by_test (formed line)
        (λ f. by_test (in_order last (period_of line))
        (λ o. record { form = f; order = o; is = rw (f, o) at e })
        (λ o. no_entry (Fault 13) refl (rw (f, o) at e)))
        (λ f. no_entry (Fault 12) refl (rw f at e))

-- ---- the value of a line of right form is what follows its third space, up to the line's end
value_ends : (line : List ℕ) → formed line ≡ true → (field_from 3 (ends_of line) ≡ field_start 3 line) × (field_to 3 (ends_of line) ≡ length line)
value_ends line f = (sym (field_behind line 2), (fields_end line 3).0 (formed_parts line f).four)

value_behind : (line : List ℕ) → formed line ≡ true → value_of line ≡ drop (field_start 3 line) line
value_behind line f =
    let ends : field_end 3 line ≡ length line = (fields_end line 3).0 (formed_parts line f).four in
    field_part line 3 ∙ rw ends (take_all (length line - field_start 3 line) (drop (field_start 3 line) line) (omega (arith, length-drop (field_start 3 line) line)))

module _ (text : List ℕ) (at stage last : ℕ) (whole : Bool) (period unit event : ℕ) (ends : Ends) (octets : ℕ) where
  abbrev t : List ℕ
  t = drop at text

  abbrev k : ℕ
  k = upto LF (window t)

  record Found : Type 0 where
    lines : eqb stage at_lines ≡ true
    found : ltb k (length (window t)) ≡ true
    ruled_so : Ruled period unit event ends octets last (k + 1) (take k t)

  found : step_at text at stage last whole ≡ Entry period unit event ends octets → Found
  unfolding step_of line_step
  found e =
      by_test (eqb stage before_first_line)
      (λ s. no_entry period unit event ends octets (head_step t whole) (head_none t whole) (rw s at e))
      (λ s. by_test (eqb stage at_lines)
      (λ r. by_test (ltb k (length (window t)))
      (λ f. record { lines = r; found = f; ruled_so = ruled_is period unit event ends octets last (k + 1) (take k t) (rw (s, r, f) at e) })
      (λ f. no_entry period unit event ends octets (unended (length t) whole) (unended_none (length t) whole) (rw (s, r, f) at e)))
      (λ r. no_entry period unit event ends octets (tail_step (length t) whole) (tail_none (length t) whole) (rw (s, r) at e)))

  -- ---- what is known of an entry
  pub entered : step_at text at stage last whole ≡ Entry period unit event ends octets → Entered text at stage last period unit event ends octets
  unfolding in_order value_from value_to
  entered e =
      let f = found e in let r = f.ruled_so in
      let z : k + 1 ≡ octets = cc in
      let d : octets - 1 ≡ k = omega arith in
      let q : period ≡ period_of (take k t) = cc in
      let q' : event ≡ event_of (take k t) = cc in
      let v : ends ≡ ends_of (take k t) = cc in
      let l : k < length (window t) = ltb-true k (length (window t)) f.found in
      let o = and_both (leb last (period_of (take k t))) (leb (period_of (take k t)) most_periods) r.order in
      record {
        lines = eqb-true stage at_lines f.lines;
        within = omega (arith, length-take longest_line t, length-drop at text);
        lf = omega arith;
        few = omega (arith, length-take longest_line t);
        form = rw d r.form;
        period_is = rw d (cc);
        unit_is = rw d (cc);
        event_is = rw d (cc);
        value_is =
            let ends_at = value_ends (take k t) r.form in
            let whole-line : length (take k t) ≡ k = length-take-le k t (omega (arith, l, length-take longest_line t)) in
            rw (d, v, ends_at.0, ends_at.1, whole-line, sym (drop-drop (field_start 3 (take k t)) at text))
            (rest_is (field_start 3 (take k t)) k t ∙ sym (value_behind (take k t) r.form));
        fits = rw (d, q') (formed_parts (take k t) r.form).value;
        after = omega (arith, leb-true last (period_of (take k t)) o.0);
        most = omega (arith, leb-true (period_of (take k t)) most_periods o.1);
      }

  -- ---- any number up to the line's period in place of last
  pub run_on_step : (m : ℕ) → m ≤ period → step_at text at stage last whole ≡ Entry period unit event ends octets
      → step_at text at stage m whole ≡ Entry period unit event ends octets
  unfolding step_of line_step ruled judged in_order
  run_on_step m h e =
      let f = found e in let r = f.ruled_so in
      let q : period ≡ period_of (take k t) = cc in
      let o : leb (period_of (take k t)) most_periods ≡ true = and_right (leb last (period_of (take k t))) (leb (period_of (take k t)) most_periods)
      r.order in
      rw (
        ne_eqb stage before_first_line (λ z. omega (arith, eqb-true stage at_lines f.lines)),
        f.lines,
        f.found,
        r.form,
        le-leb m (period_of (take k t)) (omega arith),
        o,
      ) r.is

  -- what is then still to come is the same, whatever octets come later
  pub run_on : (m : ℕ) → m ≤ period → step_at text at stage last whole ≡ Entry period unit event ends octets
      → (later : List ℕ) → (whole ≡ true → later ≡ [])
      → to_come (record { stage = stage; last = m }) (drop at text ++ later) ≡ to_come (record { stage = stage; last = last }) (drop at text ++ later)
  run_on m h e later fit =
      (call_law (record { stage = stage; last = m }) text at whole later fit (Entry period unit event ends octets) (run_on_step m h e)).said
      ∙ sym (call_law (record { stage = stage; last = last }) text at whole later fit (Entry period unit event ends octets) e).said
