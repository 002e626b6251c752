-- The rest goes to the front: one octet more that is moved, and what stands in the buffer then.
use mathlib.Core.Path.{◌≡◌, sym, ap, ◌∙◌}
use mathlib.Core.List.{List, [], ◌∷◌, ◌++◌}
use Prim.Native.Nat.{ℕ, zero, suc, ◌+◌, ◌-◌, ◌≤◌, ◌<◌, min}
use native.Mathlib.Nat.{zero-add}
use native.Mathlib.Numerals.{add-one}
use native.Mathlib.Omega.{arith}
use lib.Dec.{ltb}
use lib.ListN.{length, get_or, set, take, drop, length-drop, length-take, length-append, drop_of_length-le}
use lib.Seq.{get_or-drop, take_all, take-nil, paste, paste-suc, drop-paste, length-paste, take-append_seam, drop-append_seam, length-take-le}
use borrow.Author.Tests.{ltb-true, ltb-false}
use Rattle.test_lemmas.proofs.ByCases.{by_test}
use Rattle.book_reader.specs.Rest.{rest_of, kept}

-- i octets from start on have been moved
abbrev pub fronted : ℕ → ℕ → List ℕ → List ℕ
fronted start i buf = paste buf 0 (drop start buf) i

module _ (buf : List ℕ) (start i : ℕ) (there : start + i ≤ length buf) where
  few : i ≤ length (drop start buf)
  few = omega (arith, length-drop start buf)

  pub length_fronted : length (fronted start i buf) ≡ length buf
  length_fronted = length-paste buf 0 (drop start buf) i (omega arith) few

  -- the octets ahead are as they were
  behind : drop i (fronted start i buf) ≡ drop i buf
  behind =
      sym (ap (λ (k : ℕ). drop k (fronted start i buf)) (zero-add i))
      ∙ (drop-paste buf 0 (drop start buf) i (omega arith) few ∙ ap (λ (k : ℕ). drop k buf) (zero-add i))

  ahead : get_or (fronted start i buf) (start + i) 0 ≡ get_or (drop start buf) i 0
  ahead =
      let e : start + i ≡ i + start = omega arith in
      rw e
      (sym (get_or-drop i (fronted start i buf) start 0)
      ∙ (ap (λ (l : List ℕ). get_or l start 0) behind
      ∙ (get_or-drop i buf start 0 ∙ (ap (λ (k : ℕ). get_or buf k 0) (sym e) ∙ sym (get_or-drop start buf i 0)))))

pub front_turn : (buf : List ℕ) (start i : ℕ) → start + i < length buf
    → set (fronted start i buf) i (get_or (fronted start i buf) (start + i) 0) ≡ fronted start (i + 1) buf
front_turn buf start i h =
    rw (add-one i)
    (ap (set (fronted start i buf) i) (ahead buf start i (omega arith))
    ∙ (sym (ap (λ (k : ℕ). set (fronted start i buf) k (get_or (drop start buf) i 0)) (zero-add i))
    ∙ paste-suc buf 0 (drop start buf) i 0 (omega arith) (omega (arith, length-drop start buf))))

pub rest_is : (f e : ℕ) (l : List ℕ) → take (e - f) (drop f l) ≡ drop f (take e l)
rest_is zero e l = let z : e - 0 ≡ e = omega arith in rw z
rest_is (suc f) zero l = let z : 0 - suc f ≡ 0 = omega arith in rw z
rest_is (suc f) (suc e) [] = take-nil (suc e - suc f)
rest_is (suc f) (suc e) (x ∷ l) = let z : suc e - suc f ≡ e - f = omega arith in rw z (rest_is f e l)

-- an end past the text's end, or before its start, changes nothing
clipped : (text : List ℕ) (at end from to : ℕ) → to ≡ min end (length text) → from ≡ min at to
    → take (to - from) (drop from text) ≡ take (end - at) (drop at text)
clipped text at end from to t f =
    by_test (ltb at (length text))
    (λ h. let i : at < length text = ltb-true at (length text) h in by_test (ltb end (length text))
    (λ k. let j : end < length text = ltb-true end (length text) k in by_test (ltb end at)
    (λ b. let z : to - from ≡ 0 = omega (arith, ltb-true end at b) in let y : end - at ≡ 0 = omega (arith, ltb-true end at b) in rw (z, y))
    (λ b. let z : to ≡ end = omega arith in let y : from ≡ at = omega (arith, ltb-false end at b) in rw (z, y)))
    (λ k. let j : length text ≤ end = ltb-false end (length text) k in let y : from ≡ at = omega arith in
    rw y (take_all (to - at) (drop at text) (omega (arith, length-drop at text)) ∙ sym
    (take_all (end - at) (drop at text) (omega (arith, length-drop at text))))))
    (λ h. let i : length text ≤ at = ltb-false at (length text) h in let z : to - from ≡ 0 = omega arith in
    rw (z, drop_of_length-le text {i = at} i) (sym (take-nil (end - at))))

-- the positions as far as they are there
module _ (buf : List ℕ) (from end to start : ℕ) (t : to ≡ min end (length buf)) (s : start ≡ min from to) where
  moved_is : take (to - start) (drop start buf) ≡ rest_of from end buf
  moved_is = clipped buf from end start to t s ∙ rest_is from end buf

  pub moved_count : to - start ≡ length (rest_of from end buf)
  moved_count = sym (length-take-le (to - start) (drop start buf) (omega (arith, length-drop start buf))) ∙ ap length moved_is

  pub moved_all : fronted start (to - start) buf ≡ kept from end buf
  moved_all =
      rw (zero-add (to - start))
      (ap (λ (l : List ℕ). l ++ drop (to - start) buf) moved_is ∙ ap (λ (n : ℕ). rest_of from end buf ++ drop n buf) moved_count)

-- ---- what a caller has of it
module _ (buf : List ℕ) (from end : ℕ) where
  pub kept_front : take (length (rest_of from end buf)) (kept from end buf) ≡ rest_of from end buf
  kept_front = take-append_seam (rest_of from end buf) (drop (length (rest_of from end buf)) buf)

  pub kept_behind : drop (length (rest_of from end buf)) (kept from end buf) ≡ drop (length (rest_of from end buf)) buf
  kept_behind = drop-append_seam (rest_of from end buf) (drop (length (rest_of from end buf)) buf)

  pub length_kept : length (kept from end buf) ≡ length buf
  length_kept =
      omega (
        arith,
        length-append (rest_of from end buf) (drop (length (rest_of from end buf)) buf),
        length-drop (length (rest_of from end buf)) buf,
        length-drop from (take end buf),
        length-take end buf,
      )
