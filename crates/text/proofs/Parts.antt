-- Laws of parts of a text.
use mathlib.Core.Path.{◌≡◌, sym, ap, ◌∙◌}
use mathlib.Core.List.{List}
use Prim.Native.Nat.{ℕ, ◌+◌, ◌-◌, ◌≤◌, ◌<◌, min}
use native.Mathlib.Omega.{arith}
use lib.Dec.{ltb}
use lib.ListN.{length, take, drop, length-drop, drop_of_length-le}
use lib.Seq.{take_all, take-nil, drop-drop, length-take-le}
use borrow.Author.Tests.{ltb-true, ltb-false}
use denote.Ref.{Bor}
use Rattle.test_lemmas.proofs.ByCases.{by_test}
use Rattle.text.specs.Part.{IsPart, PartIsOne, PartLies, part_begin, part_end}

-- what is cut out from `from` to `to` is the same where both go no farther than the text
cut_same : (t : List ℕ) (from to : ℕ)
    → take (part_end to t - part_begin from to t) (drop (part_begin from to t) t) ≡ take (to - from) (drop from t)
cut_same t from to =
    by_test (ltb from (length t))
    (λ h. let i : from < length t = ltb-true from (length t) h in by_test (ltb to (length t))
    (λ k. let j : to < length t = ltb-true to (length t) k in by_test (ltb to from)
    (λ b. let y : to - from ≡ 0 = omega (arith, ltb-true to from b) in
    let z : part_end to t - part_begin from to t ≡ 0 = omega (arith, ltb-true to from b) in rw (z, y))
    (λ b. let y : part_begin from to t ≡ from = omega (arith, ltb-false to from b) in
    let z : part_end to t ≡ to = omega arith in rw (y, z)))
    (λ k. let j : length t ≤ to = ltb-false to (length t) k in let y : part_begin from to t ≡ from = omega arith in
    rw y (take_all (part_end to t - from) (drop from t) (omega (arith, length-drop from t)) ∙ sym
    (take_all (to - from) (drop from t) (omega (arith, length-drop from t))))))
    (λ h. let i : length t ≤ from = ltb-false from (length t) h in let z : part_end to t - part_begin from to t ≡ 0 = omega arith in
    rw (z, drop_of_length-le t {i = from} i) (sym (take-nil (to - from))))

module _ (text : Bor (List ℕ)) (from to : ℕ) (part : Bor (List ℕ)) where
  -- the first octets of what a text has from begin on
  pub part_cut : (begin end : ℕ) → end ≡ min to (length text.now) → begin ≡ min from end
      → part.ref_ptr.0 ≡ text.ref_ptr.0 → part.ref_ptr.1 ≡ begin + text.ref_ptr.1
      → part.now ≡ take (end - begin) (take (length text.now - begin) (drop begin text.now)) → IsPart text from to part
  part_cut begin end e b block place octets =
      let whole : take (length text.now - begin) (drop begin text.now) ≡ drop begin text.now =
      take_all (length text.now - begin) (drop begin text.now) (omega (arith, length-drop begin text.now)) in
      record { block = block; place = omega arith; octets = rw (sym e, sym b) (octets ∙ rw whole) }

  -- a part that begins behind a place past the text's end begins, as the text does there, at its end
  pub part_behind : (before least : ℕ) → from ≡ least + 1 → least ≡ min before (length text.now) → IsPart text from to part
      → IsPart text (before + 1) to part
  part_behind before least f l p =
      let e : part_begin (before + 1) to text.now ≡ part_begin from to text.now = omega arith in
      record { block = p.block; place = omega (arith, p.place, e); octets = rw e p.octets }

  -- what a part holds
  pub part_octets : IsPart text from to part → part.now ≡ take (to - from) (drop from text.now)
  part_octets p = p.octets ∙ cut_same text.now from to

-- ---- IsPart says all of a part's place and octets.
pub part_is_one : PartIsOne
part_is_one text p q from to a b =
    let block : p.ref_ptr.0 ≡ q.ref_ptr.0 = a.block ∙ sym b.block in
    let place : p.ref_ptr.1 ≡ q.ref_ptr.1 = omega (arith, a.place, b.place) in
    (λ i. (block i, place i), a.octets ∙ sym b.octets)

pub part_lies : PartLies
part_lies text part from to h k a =
    let place : part.ref_ptr.1 ≡ text.ref_ptr.1 + from = omega (arith, a.place) in
    let room : to - from ≤ length (drop from text.now) = omega (arith, length-drop from text.now) in
    let size : length part.now ≡ to - from =
    ap length (part_octets text from to part a) ∙ length-take-le (to - from) (drop from text.now) room in
    (λ i. (a.block i, place i), size)

-- the lesser of two numbers, both so much farther on; and of one that is past the other
shifted : (at x y : ℕ) → min (at + x) (at + y) ≡ at + min x y
shifted at x y = omega arith

past_end : (long at x y : ℕ) → long < at → y ≡ 0 → min (at + x) long ≡ long + min x y
past_end long at x y h e = omega arith

-- from `at` of a text of so many octets on, or from its end, `more` octets follow: where a place among them is in the text
place_in : (at long begin more to : ℕ) → begin ≡ min at long → more ≡ long - begin → min (at + to) long ≡ begin + min to more
place_in at long begin more to b m =
    by_test (ltb long at)
    (λ h. let l = ltb-true long at h in let c : begin ≡ long = omega arith in rw c (past_end long at to more l (omega arith)))
    (λ h. let l = ltb-false long at h in let c : begin ≡ at = omega arith in let z : long ≡ at + more = omega arith in rw (c, z) (shifted at to more))

-- a part of what a text has from a place on, or from its end where the place is past it, is a part of the text
module _ (text rest part : Bor (List ℕ)) (at begin from to : ℕ) (b : begin ≡ min at (length text.now))
    (octets : rest.now ≡ take (length text.now - begin) (drop begin text.now)) where
  rest_is : rest.now ≡ drop begin text.now
  rest_is = octets ∙ take_all (length text.now - begin) (drop begin text.now) (omega (arith, length-drop begin text.now))

  long : length rest.now ≡ length text.now - begin
  long = rw rest_is (length-drop begin text.now)

  ends : part_end (at + to) text.now ≡ begin + part_end to rest.now
  ends = place_in at (length text.now) begin (length rest.now) to b long

  starts : part_begin (at + from) (at + to) text.now ≡ begin + part_begin from to rest.now
  starts =
      by_test (ltb (length text.now) at)
      (λ h. let l = ltb-true (length text.now) at h in none (part_end (at + to) text.now) (part_end to rest.now) ends (omega arith)
      (none_left to (length rest.now) (omega (arith, long))))
      (λ h. let l = ltb-false (length text.now) at h in some (part_end (at + to) text.now) (part_end to rest.now) ends (omega arith))
    where
      none_left : (x y : ℕ) → y ≡ 0 → min x y ≡ 0
      none_left x y e = omega arith

      none : (e r : ℕ) → e ≡ begin + r → begin ≤ at → r ≡ 0 → min (at + from) e ≡ begin + min from r
      none e r h l z = omega arith

      some : (e r : ℕ) → e ≡ begin + r → begin ≡ at → min (at + from) e ≡ begin + min from r
      some e r h l = rw (h, l) (shifted at from r)

  size : part_end (at + to) text.now - part_begin (at + from) (at + to) text.now ≡ part_end to rest.now - part_begin from to rest.now
  size = apart (part_end (at + to) text.now) (part_end to rest.now) (part_begin (at + from) (at + to) text.now) (part_begin from to rest.now) ends starts
    where
      apart : (x x' y y' : ℕ) → x ≡ begin + x' → y ≡ begin + y' → x - y ≡ x' - y'
      apart x x' y y' h k = omega arith

  pub part_within : rest.ref_ptr.0 ≡ text.ref_ptr.0 → rest.ref_ptr.1 ≡ begin + text.ref_ptr.1 → IsPart rest from to part → IsPart text (at + from) (at + to) part
  part_within block place p =
      record {
        block = p.block ∙ block;
        place = omega (arith, p.place, starts);
        octets =
            p.octets
            ∙ (ap (λ (l : List ℕ). take (part_end to rest.now - part_begin from to rest.now) (drop (part_begin from to rest.now) l)) rest_is
            ∙ rw (drop-drop (part_begin from to rest.now) begin text.now, size, starts));
      }
