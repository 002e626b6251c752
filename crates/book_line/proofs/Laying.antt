-- Octets laid into lent room one by one.
use mathlib.Core.Path.{◌≡◌, refl, ◌∙◌}
use mathlib.Core.List.{List, [], ◌++◌}
use Prim.Native.Nat.{ℕ, suc, ◌+◌, ◌≤◌, ◌<◌, min}
use native.Mathlib.Numerals.{add-one}
use native.Mathlib.Omega.{arith}
use lib.Dec.{ltb}
use lib.ListN.{length, get_or, set, take, drop, drop_of_length-le, length-set}
use lib.Seq.{paste-suc, take_all, take-nil}
use borrow.Author.Tests.{ltb-true, ltb-false}
use Rattle.test_lemmas.proofs.ByCases.{by_test}
use Rattle.book_line.specs.Laying.{Laid}

-- n octets have been laid
pub record Laying (octets room : List ℕ) (n : ℕ) (room' : List ℕ) : Type 0 where
  pub some : n ≤ length octets
  pub fits : n ≤ length room
  pub long : length room' ≡ length room
  pub lies : room' ≡ take n octets ++ drop n room

pub laying_start : {octets room : List ℕ} → Laying octets room 0 room
laying_start = record { some = omega arith; fits = omega arith; long = refl; lies = refl }

module _ {octets room room' : List ℕ} {n : ℕ} (l : Laying octets room n room') where
  pub laying_next : (x : ℕ) → n < length octets → n < length room' → x ≡ get_or octets n 0 → Laying octets room (n + 1) (set room' n x)
  laying_next x h k e =
      let z : 0 + n ≡ n = omega arith in
      let y : 0 + suc n ≡ suc n = omega arith in
      let p : set (take n octets ++ drop n room) n (get_or octets n 0) ≡ take (suc n) octets ++ drop (suc n) room =
      rw (z, y) at (paste-suc room 0 octets n 0 (omega arith) h) in
      record {
        some = omega arith;
        fits = omega arith;
        long = length-set room' n x ∙ l.long;
        lies = rw (l.lies, e, add-one n) p;
      }

  pub laying_done : min (length octets) (length room) ≤ n → Laid octets room n room'
  laying_done e =
      let w : n ≡ min (length octets) (length room) = omega (arith, l.some, l.fits) in
      record {
        count = w;
        lies = l.lies
            ∙ by_test (ltb (length room) (length octets))
            (λ h. let g = ltb-true (length room) (length octets) h in
            let v : n ≡ length room = omega arith in
            rw (v, drop_of_length-le room {i = length room} (omega arith), drop_of_length-le room {i = length octets} (omega arith)))
            (λ h. let g = ltb-false (length room) (length octets) h in
            let v : n ≡ length octets = omega arith in
            rw (v, take_all (length octets) octets (omega arith), take_all (length room) octets g));
      }

pub laid_nothing : (room : List ℕ) → Laid [] room 0 room
laid_nothing room = record { count = omega arith; lies = rw (take-nil (length room)) }
