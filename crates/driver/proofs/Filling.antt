-- A read behind what is in hand.
use mathlib.Core.Bool.{Bool}
use mathlib.Core.List.{List, [], ◌++◌, append-nil}
use mathlib.Core.Path.{◌≡◌, refl, sym, ap, ◌∙◌}
use Prim.Native.Nat.{ℕ, ◌+◌, ◌≤◌}
use native.Mathlib.Omega.{arith}
use lib.Dec.{eqb}
use lib.ListN.{length, take, drop, length-append, length-take}
use lib.Seq.{length-take-le, take-append-add, take-append-le}
use borrow.Rule.Slice.PartMut.{mid_of, post_of, put_mid}
use Rattle.report.specs.Ahead.{TEXT}
use Rattle.driver.specs.Turn.{Fills}

-- no text was asked for
pub not_asked : (most : ℕ) (text : List ℕ) (have why : ℕ) (whole : Bool) → (why ≡ TEXT → ⊥) → have ≤ length text
    → Fills most text have why whole text have whole
not_asked most text have why whole other there =
    record {
      part = [];
      few = omega arith;
      behind = sym (append-nil (take have text));
      within = there;
      asked = λ same. elim (other same) [ ];
      unasked = λ _. (refl, refl);
    }

-- k octets behind what is in hand were offered, and n have come at their front
module _ (text got : List ℕ) (most have k n why : ℕ) (whole : Bool) (asked : why ≡ TEXT) (there : have ≤ length text)
    (same : length got ≡ length (mid_of have k text)) (some : n ≤ length got) (least : k ≤ most) where
  abbrev after : List ℕ
  after = post_of have k text

  front : length (take have text) ≡ have
  front = length-take-le have text there

  behind : take (have + n) (put_mid have k text got) ≡ take have text ++ take n got
  behind =
      ap (λ (m : ℕ). take (m + n) (put_mid have k text got)) (sym front)
      ∙ (take-append-add (take have text) (got ++ after) n ∙ ap (λ (l : List ℕ). take have text ++ l) (take-append-le n got after some))

  pub read_behind : Fills most text have why whole (put_mid have k text got) (have + n) (eqb n 0)
  read_behind =
      record {
        part = take n got;
        few = omega (arith, length-take-le n got some, some, same, length-take k (drop have text), least);
        behind = behind;
        within = omega (arith, length-append (take have text) (got ++ after), length-append got after, front, some);
        asked = λ _. ap (λ (m : ℕ). eqb m 0) (sym (length-take-le n got some));
        unasked = λ other. elim (other asked) [ ];
      }
