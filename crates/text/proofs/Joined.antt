-- Texts laid one behind the other, as a table of octets has them, and the places where each begins: what lies between two places that follow each
-- other is the text itself.
use mathlib.Core.Path.{◌≡◌, refl}
use mathlib.Core.List.{List, [], ◌∷◌, ◌++◌}
use Prim.Native.Nat.{ℕ, zero, suc, ◌+◌, ◌-◌, ◌≤◌, ◌<◌}
use native.Mathlib.Nat.{sub-zero}
use native.Mathlib.Numerals.{add-one}
use native.Mathlib.Omega.{arith}
use lib.ListN.{length, get_or, take, drop, length-append}
use lib.Seq.{take-append_seam, drop-append-add}

abbrev pub joined : List (List ℕ) → List ℕ
joined [] = []
joined (t ∷ ts) = t ++ joined ts

-- where each begins, the first at `at`, and where the last one ends
abbrev begins : ℕ → List (List ℕ) → List ℕ
begins at [] = at ∷ []
begins at (t ∷ ts) = at ∷ begins (at + length t) ts

abbrev pub places : List (List ℕ) → List ℕ
places ts = begins 0 ts

first_begins : (at : ℕ) (ts : List (List ℕ)) → get_or (begins at ts) 0 0 ≡ at
first_begins at [] = refl
first_begins at (t ∷ ts) = refl

record LiesFrom (at : ℕ) (ts : List (List ℕ)) (k : ℕ) : Type 0 where
  low : at ≤ get_or (begins at ts) k 0
  order : get_or (begins at ts) k 0 ≤ get_or (begins at ts) (suc k) 0
  end : get_or (begins at ts) (suc k) 0 ≤ at + length (joined ts)
  octets : take (get_or (begins at ts) (suc k) 0 - get_or (begins at ts) k 0) (drop (get_or (begins at ts) k 0 - at) (joined ts)) ≡ get_or ts k []

lies_from : (at : ℕ) (ts : List (List ℕ)) (k : ℕ) → k < length ts → LiesFrom at ts k
lies_from at [] k h = absurd (omega arith)
lies_from at (t ∷ ts) zero h =
    let next = first_begins (at + length t) ts in
    let long : get_or (begins (at + length t) ts) 0 0 - at ≡ length t = omega arith in
    let here : at - at ≡ 0 = omega arith in
    record {
      low = omega arith;
      order = omega arith;
      end = omega (arith, length-append t (joined ts));
      octets = rw (long, here) (take-append_seam t (joined ts));
    }
lies_from at (t ∷ ts) (suc k) h =
    let l = lies_from (at + length t) ts k (omega arith) in
    let behind : get_or (begins (at + length t) ts) k 0 - at ≡ length t + (get_or (begins (at + length t) ts) k 0 - (at + length t)) =
    omega (arith, l.low) in
    record {
      low = omega (arith, l.low);
      order = l.order;
      end = omega (arith, l.end, length-append t (joined ts));
      octets = rw (behind, drop-append-add t (joined ts)) l.octets;
    }

-- Text k lies between places k and k + 1.
pub record Lies (ts : List (List ℕ)) (k : ℕ) : Type 0 where
  pub order : get_or (places ts) k 0 ≤ get_or (places ts) (k + 1) 0
  pub end : get_or (places ts) (k + 1) 0 ≤ length (joined ts)
  pub octets : take (get_or (places ts) (k + 1) 0 - get_or (places ts) k 0) (drop (get_or (places ts) k 0) (joined ts)) ≡ get_or ts k []

pub lies : (ts : List (List ℕ)) (k : ℕ) → k < length ts → Lies ts k
lies ts k h =
    let l = lies_from 0 ts k h in
    record { order = rw add-one l.order; end = rw add-one (omega (arith, l.end)); octets = rw add-one (rw sub-zero at l.octets) }
