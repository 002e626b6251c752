-- The loop that writes a frame's bits as symbols: what stands so far, and the symbols of the bits that are left.
use mathlib.Core.Path.{◌≡◌, refl, sym, ap, ◌∙◌}
use mathlib.Core.Bool.{Bool, false, cond}
use mathlib.Core.List.{List, [], ◌∷◌, ◌++◌, append_assoc, append-nil}
use Prim.Native.Nat.{ℕ, suc, ◌+◌, ◌-◌, ◌*◌, ◌/◌, ◌%◌, ◌<◌, ◌≤◌}
use native.Mathlib.Numerals.{add-one}
use native.Mathlib.Omega.{arith}
use lib.Dec.{eqb}
use lib.ListN.{length, take, drop, set, length-set, drop_of_length-le}
use borrow.Author.Tests.{eq-eqb}
use lib.Seq.{take-suc-set, take_all}
use borrow.Rule.Slice.PartMut.{put_mid}
use Rattle.symbols.specs.Symbols.{none, plus, minus, line_length}
use Rattle.symbols.specs.Calls.{has_line_length, leaves}
use Rattle.frame.specs.Polarity.{opposite, alternate, symbols}
use Rattle.frame.specs.Word.{top, top_bits}

pub length_alternate : (s : ℕ) (bs : List Bool) → length (alternate s bs) ≡ length bs
unfolding alternate
length_alternate s [] = refl
length_alternate s (b ∷ bs) = ap suc (length_alternate (cond b s (opposite s)) bs)

-- The symbols of the n highest bits of w.
abbrev pub symbols_of : ℕ → ℕ → List ℕ
symbols_of n w = alternate minus (top_bits n w)

-- At i the symbols stand up to there, and the rest of them are those of the bits left.
pub record Emitting (w : ℕ) (out₀ out : List ℕ) (bits next i : ℕ) : Type 0 where
  pub long : length out ≡ length out₀
  pub so_far : take i out ++ alternate next (top_bits (length out - i) bits) ≡ symbols_of (length out₀) w
  pub small : next < 4

pub emit_start : (w : ℕ) (l : List ℕ) → Emitting w l l w minus 0
emit_start w l = let all_left : length l - 0 ≡ length l = omega arith in record { long = refl; so_far = rw all_left; small = omega arith }

module _ {w : ℕ} {out₀ out : List ℕ} {bits next i : ℕ} (m : Emitting w out₀ out bits next i) where
  pub emit_next : i < length out → (s n : ℕ) → s ≡ cond (eqb (bits / top) 1) none next → n ≡ cond (eqb (bits / top) 1) next (opposite next) → n < 4
      → Emitting w out₀ (set out i s) (bits % top * 2) n (i + 1)
  unfolding alternate top_bits
  emit_next h s n es en k =
      let more : length out - i ≡ suc (length out - suc i) = omega arith in
      let so_far = rw more at m.so_far in
      record {
        long = length-set out i s ∙ m.long;
        so_far = rw (add-one, length-set, take-suc-set out i s h, append_assoc, es, en) so_far;
        small = k;
      }

  pub emit_done : length out ≤ i → out ≡ symbols_of (length out₀) w
  unfolding alternate top_bits
  emit_done h =
      let none_left : length out - i ≡ 0 = omega arith in
      let whole : take i out ≡ out = take_all i out h in
      sym (append-nil out) ∙ rw (none_left, whole) at m.so_far

-- The line of w's 46 bits.
abbrev pub line_of : ℕ → List ℕ
line_of w = symbols (false ∷ false ∷ top_bits 46 w)

-- F and L stand, and behind them the symbols of the bits: they are written into the part of the lent slice from index 2 on.
abbrev started : List ℕ → List ℕ
started l = set (set l 0 plus) 1 minus

pub emitted : (w : ℕ) (l rest : List ℕ) → length l ≡ line_length
    → rest ≡ symbols_of (length (take (length (started l) - 2) (drop 2 (started l)))) w
    → put_mid 2 (length (started l) - 2) (started l) rest ≡ leaves (has_line_length l) (line_of w) l
unfolding symbols
emitted w [] rest h e = absurd (omega arith)
emitted w (x ∷ []) rest h e = absurd (omega arith)
emitted w (x ∷ y ∷ l) rest h e =
    let long : length l ≡ 46 = omega arith in
    let behind : suc (suc (length l)) - 2 ≡ 46 = omega arith in
    let fits : length l ≤ 46 = omega arith in
    let is : rest ≡ symbols_of 46 w = rw (behind, take_all 46 l fits, long) at e in
    rw (eq-eqb (suc (suc (length l))) line_length h, behind, drop_of_length-le l fits, append-nil, is)

-- The line of the number whose bits are a frame's is the frame's.
pub of_bits : (bits : List Bool) (w : ℕ) → top_bits 46 w ≡ drop 2 bits → line_of w ≡ symbols bits
unfolding symbols
of_bits bits w e = rw e
