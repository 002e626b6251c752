-- Each way out of the judging of a line, over plain values; and what a line of right form is.
use mathlib.Core.Path.{◌≡◌, sym}
use mathlib.Core.Bool.{Bool, true, false, not, ◌&&◌}
use mathlib.Core.List.{List}
use Prim.Native.Nat.{ℕ, ◌≤◌, ◌<◌}
use native.Mathlib.Omega.{arith}
use lib.Dec.{eqb, ltb}
use lib.ListN.{length}
use borrow.Author.Tests.{eqb-true, eqb-false, ne_eqb, ltb-true, lt-ltb, le-ltb, not-true}
use Rattle.std.specs.Prelude.{Option, Some, None, Result, Ok, Err}
use Rattle.refusals.specs.declared.Refusal.{Refusal}
use Rattle.refusals.specs.declared.Refusal.TheVariants.{WrongLine}
use Rattle.test_lemmas.proofs.ByCases.{by_test, and_left, and_right, and_right_false}
use Rattle.text.specs.Text.{fields, field, number}
use Rattle.text.specs.Fields.{ends_of}
use Rattle.text.specs.declared.field.Ends.{Ends}
use Rattle.book_line.specs.EventNames.{event_named, event_if_named}
use Rattle.book_line.specs.Line.{longest_line, is_number, period_of, unit_of, event_of, value_fits, value_of, formed}
use Rattle.book_line.specs.Judging.{number_of, entry, judged, judged_fields}
use Rattle.book_line.specs.declared.line.Entry.{Entry}

-- ---- What the reading of a number says of its field.
number_wrong : (f : List ℕ) (r : Refusal) → Err r ≡ number_of f → is_number f ≡ false
unfolding number_of
number_wrong f r e =
    by_test (is_number f)
    (λ y. let z : ◌≡◌ {A = Result ℕ Refusal} (Err r) (Ok (number f)) = rw y at e in let o : ◌≡◌ {A = ℕ} 0 1 = cc in absurd (omega arith))
    (λ n. n)

number_twelve : (f : List ℕ) (r : Refusal) → Err r ≡ number_of f → r ≡ WrongLine
unfolding number_of
number_twelve f r e = let z : ◌≡◌ {A = Result ℕ Refusal} (Err r) (Err WrongLine) = rw (number_wrong f r e) at e in cc

record Said (f : List ℕ) (n : ℕ) : Type 0 where
  pub formed : is_number f ≡ true
  pub value : number f ≡ n

number_said : (f : List ℕ) (n : ℕ) → Ok n ≡ number_of f → Said f n
unfolding number_of
number_said f n e =
    by_test (is_number f)
    (λ y. let z : ◌≡◌ {A = Result ℕ Refusal} (Ok n) (Ok (number f)) = rw y at e in record { formed = y; value = cc })
    (λ w. let z : ◌≡◌ {A = Result ℕ Refusal} (Ok n) (Err WrongLine) = rw w at e in let o : ◌≡◌ {A = ℕ} 0 1 = cc in absurd (omega arith))

-- ---- What the look-up of an event's name says of it.
record Named (f : List ℕ) (event : ℕ) : Type 0 where
  some : eqb event 0 ≡ false
  value : event ≡ event_named f

name_said : (f : List ℕ) (event : ℕ) → Some event ≡ event_if_named f → Named f event
name_said f event e =
    by_test (eqb (event_named f) 0)
    (λ z. let w : ◌≡◌ {A = Option ℕ} (Some event) None = rw z at e in let o : ◌≡◌ {A = ℕ} 0 1 = cc in absurd (omega arith))
    (λ z. let w : ◌≡◌ {A = Option ℕ} (Some event) (Some (event_named f)) = rw z at e in
    let v : event ≡ event_named f = cc in record { some = rw v z; value = v })

-- ---- The ways out.
pub too_long : (line : List ℕ) → longest_line ≤ length line → Err WrongLine ≡ judged line
unfolding judged formed
too_long line h = rw (le-ltb (length line) longest_line h)

pub not_four : (line : List ℕ) → (length (fields line) ≡ 4 → ⊥) → Err WrongLine ≡ judged line
unfolding judged formed
not_four line h =
    rw (and_right_false (ltb (length line) longest_line) (eqb (length (fields line)) 4) (ne_eqb (length (fields line)) 4 h))

pub four_judged : (line f0 f1 f2 v : List ℕ) (ends : Ends) → length line < longest_line → length (fields line) ≡ 4
    → f0 ≡ field 0 line → f1 ≡ field 1 line → f2 ≡ field 2 line → v ≡ field 3 line → ends ≡ ends_of line
    → judged_fields f0 f1 f2 v ends ≡ judged line
unfolding judged formed judged_fields
four_judged line f0 f1 f2 v ends short four a b c d e = rw (a, b, c, d, e, lt-ltb (length line) longest_line short, four)

module _ (f0 f1 f2 v : List ℕ) (ends : Ends) where
  abbrev said : Bool
  said = not (eqb (event_named f2) 0) && value_fits (event_named f2) v

  pub wrong_period : (r : Refusal) → Err r ≡ number_of f0 → Err r ≡ judged_fields f0 f1 f2 v ends
  unfolding judged_fields
  wrong_period r h = rw (number_twelve f0 r h, number_wrong f0 r h)

  pub wrong_unit : (r : Refusal) → Err r ≡ number_of f1 → Err r ≡ judged_fields f0 f1 f2 v ends
  unfolding judged_fields
  wrong_unit r h = rw (number_twelve f1 r h, and_right_false (is_number f0) (is_number f1) (number_wrong f1 r h))

  pub wrong_name : (r : Refusal) → event_if_named f2 ≡ None → ◌≡◌ {A = Result ℕ Refusal} (Err r) (Err WrongLine) → Err r ≡ judged_fields f0 f1 f2 v ends
  unfolding judged_fields
  wrong_name r e same =
      by_test (eqb (event_named f2) 0)
      (λ z. let w : said ≡ false = rw z in let k : r ≡ WrongLine = cc in rw (k, and_right_false (is_number f0 && is_number f1) said w))
      (λ z. let w : ◌≡◌ {A = Option ℕ} (Some (event_named f2)) None = rw z at e in let o : ◌≡◌ {A = ℕ} 0 1 = cc in absurd (omega arith))

  pub wrong_value : (event : ℕ) → Some event ≡ event_if_named f2 → false ≡ value_fits event v → Err WrongLine ≡ judged_fields f0 f1 f2 v ends
  unfolding judged_fields
  wrong_value event e w =
      let n = name_said f2 event e in
      let x : said ≡ false = rw (sym n.value, n.some, sym w) in rw (and_right_false (is_number f0 && is_number f1) said x)

  -- of a name and a value together
  pub wrong_told : (event : ℕ) (fits : Bool) → event ≡ event_named f2 → fits ≡ value_fits event v → (not (eqb event 0) && fits) ≡ false
      → Err WrongLine ≡ judged_fields f0 f1 f2 v ends
  unfolding judged_fields
  wrong_told event fits e w h = rw (and_right_false (is_number f0 && is_number f1) said (rw (w, e) at h))

  pub right : (p u event : ℕ) → Ok p ≡ number_of f0 → Ok u ≡ number_of f1
      → Some event ≡ event_if_named f2 → true ≡ value_fits event v → Ok (entry p u event ends) ≡ judged_fields f0 f1 f2 v ends
  unfolding judged_fields
  right p u event period unit e w =
      let x = number_said f0 p period in
      let y = number_said f1 u unit in
      let n = name_said f2 event e in
      rw (sym n.value, x.formed, y.formed, n.some, sym w, x.value, y.value)

-- ---- A line of right form.
module _ (line : List ℕ) where
  -- the tests of the whole line, of the two numbers before an event, and of event and value
  abbrev shaped : Bool
  shaped = ltb (length line) longest_line && eqb (length (fields line)) 4

  abbrev numbered : Bool
  numbered = shaped && is_number (field 0 line) && is_number (field 1 line)

  abbrev told : Bool
  told = not (eqb (event_of line) 0) && value_fits (event_of line) (value_of line)

pub record Formed (line : List ℕ) : Type 0 where
  pub short : length line < longest_line
  pub four : length (fields line) ≡ 4
  pub period : is_number (field 0 line) ≡ true
  pub unit : is_number (field 1 line) ≡ true
  pub event : event_of line ≡ 0 → ⊥
  pub value : value_fits (event_of line) (value_of line) ≡ true

pub formed_parts : (line : List ℕ) → formed line ≡ true → Formed line
unfolding formed
formed_parts line e =
    let numbers = and_left (numbered line) (told line) e in
    let event = and_right (numbered line) (told line) e in
    let period = and_left (shaped line && is_number (field 0 line)) (is_number (field 1 line)) numbers in
    let shape = and_left (shaped line) (is_number (field 0 line)) period in
    record {
      short = ltb-true (length line) longest_line (and_left (ltb (length line) longest_line) (eqb (length (fields line)) 4) shape);
      four = eqb-true (length (fields line)) 4 (and_right (ltb (length line) longest_line) (eqb (length (fields line)) 4) shape);
      period = and_right (shaped line) (is_number (field 0 line)) period;
      unit = and_right (shaped line && is_number (field 0 line)) (is_number (field 1 line)) numbers;
      event =
          eqb-false (event_of line) 0
          (not-true (eqb (event_of line) 0) (and_left (not (eqb (event_of line) 0)) (value_fits (event_of line) (value_of line)) event));
      value = and_right (not (eqb (event_of line) 0)) (value_fits (event_of line) (value_of line)) event;
    }

-- a line that is refused is refused with 12
pub judged_twelve : (line : List ℕ) (r : Refusal) → Err r ≡ judged line → r ≡ WrongLine
unfolding judged
judged_twelve line r e =
    by_test (formed line)
    (λ f. let z : ◌≡◌ {A = Result Entry Refusal} (Err r) (Ok (entry (period_of line) (unit_of line) (event_of line) (ends_of line))) = rw f at e in
    let o : ◌≡◌ {A = ℕ} 0 1 = cc in absurd (omega arith))
    (λ f. let z : ◌≡◌ {A = Result Entry Refusal} (Err r) (Err WrongLine) = rw f at e in cc)
