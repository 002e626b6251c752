-- The fields' octets: what stands at each place.
use mathlib.Core.Path.{◌≡◌, refl, sym, ap}
use mathlib.Core.Bool.{Bool, true, false, ◌&&◌}
use mathlib.Core.List.{List, [], ◌∷◌}
use Prim.Native.Nat.{ℕ, zero, suc, ◌+◌, ◌≤◌, ◌<◌}
use native.Mathlib.Omega.{arith}
use mir.Val.{bool_byte}
use borrow.Author.Tests.{eqb-true, eqb-false, leb-true}
use lib.Dec.{eqb, leb}
use lib.ListN.{length, take, drop, get_or}
use lib.Seq.{get_or-drop, get_or-take}
use Rattle.test_lemmas.proofs.ByCases.{by_test, both, and_left, and_right}
use Rattle.symbols.specs.Symbols.{within, tabulate}
use Rattle.symbols.proofs.Fill.{tabulate_is}
use Rattle.frame.specs.Bits.{bit}
use Rattle.frame.proofs.Bits.{byte_bit}
use Rattle.frame.specs.declared.fields.DownFields.{DownFields}
use Rattle.frame.specs.declared.fields.UpFields.{UpFields}
use Rattle.host_frames.specs.Octets.{fields_length, down_octets, down_from, as_down, up_part, up_octets, up_from, is_down, is_up}

-- The octets as the code has them.
abbrev pub code_octets : DownFields → List ℕ
code_octets f =
    f.b1first
    ∷ f.b2first
    ∷ f.b1second
    ∷ f.b2second
    ∷ bool_byte f.d.first
    ∷ bool_byte f.d.second
    ∷ bool_byte f.d.third
    ∷ bool_byte f.d.fourth
    ∷ bool_byte f.e.first
    ∷ bool_byte f.e.second
    ∷ bool_byte f.e.third
    ∷ bool_byte f.e.fourth
    ∷ bool_byte f.a
    ∷ bool_byte f.fa
    ∷ bool_byte f.m
    ∷ bool_byte f.s
    ∷ []

pub code_octets_lem : (f : DownFields) → code_octets f ≡ down_octets f
unfolding down_octets
code_octets_lem f = simp byte_bit

-- A bit as an octet is 0 or 1, and comes back; an octet that is 0 or 1 is that of a bit.
bit_most : (b : Bool) → leb (bit b) 1 ≡ true
bit_most true = refl
bit_most false = refl

bit_back : (b : Bool) → eqb (bit b) 1 ≡ b
bit_back true = refl
bit_back false = refl

bit_of_lem : (x : ℕ) → x ≤ 1 → bit (eqb x 1) ≡ x
bit_of_lem x h = by_test (eqb x 1) (λ t. rw t (sym (eqb-true x 1 t))) (λ t. rw t (omega (arith, eqb-false x 1 t)))

within_at : (top : ℕ) (l : List ℕ) → within top l ≡ true → (i : ℕ) → get_or l i 0 ≤ top
unfolding within
within_at top [] e i = omega arith
within_at top (x ∷ l) e zero = leb-true x top (both (leb x top) (within top l) e).0
within_at top (x ∷ l) e (suc i) = within_at top l (both (leb x top) (within top l) e).1 i

-- Octets of fields: they are taken, and stand for those fields.
pub down_taken : (f : DownFields) → is_down (down_octets f) ≡ true
unfolding is_down down_octets within
down_taken f = simp bit_most

pub down_back : (f : DownFields) → down_from (down_octets f) ≡ f
unfolding down_octets
down_back f = simp bit_back

pub up_taken : (f : UpFields) → is_up (up_octets f) ≡ true
unfolding down_octets within
up_taken f = rw (down_taken (as_down f))

pub up_back : (f : UpFields) → up_from (up_octets f) ≡ f
up_back f = ap up_part (down_back (as_down f))

-- Octets that are taken: those from the first D on are bits, in an upward frame those from the first E on are 0.
module _ (fs : List ℕ) (e : is_down fs ≡ true) where
  down_long : length fs ≡ fields_length
  unfolding is_down
  down_long = eqb-true (length fs) fields_length (and_left (eqb (length fs) fields_length) (within 1 (drop 4 fs)) e)

  down_bit : (i : ℕ) → bit (eqb (get_or fs (4 + i) 0) 1) ≡ get_or fs (4 + i) 0
  unfolding is_down
  down_bit i = bit_of_lem (get_or fs (4 + i) 0) (rw get_or-drop at (within_at 1 (drop 4 fs) (and_right (eqb (length fs) fields_length) (within 1 (drop 4 fs)) e) i))

  pub down_exact : down_octets (down_from fs) ≡ fs
  unfolding down_octets tabulate
  down_exact =
      let b = down_bit in
      rw (b 0, b 1, b 2, b 3, b 4, b 5, b 6, b 7, b 8, b 9, b 10, b 11) (sym (tabulate_is fields_length fs (λ i. get_or fs i 0) down_long (λ i h. refl)))

pub up_exact : (fs : List ℕ) → is_up fs ≡ true → up_octets (up_from fs) ≡ fs
up_exact fs e =
    let echoes = within 0 (take 5 (drop 8 fs)) in
    let rest = within 0 (drop 14 fs) in
    let zeros = and_right (is_down fs) (echoes && rest) e in
    let none : (i : ℕ) → i < 5 → get_or fs (8 + i) 0 ≡ 0 = λ i h.
    omega (arith, rw (get_or-take 5 (drop 8 fs) i 0, get_or-drop) at (within_at 0 (take 5 (drop 8 fs)) (and_left echoes rest zeros) i)) in
    let last : (i : ℕ) → get_or fs (14 + i) 0 ≡ 0 = λ i. omega (arith, rw get_or-drop at (within_at 0 (drop 14 fs) (and_right echoes rest zeros) i)) in
    rw (none 0 (omega arith), none 1 (omega arith), none 2 (omega arith), none 3 (omega arith), none 4 (omega arith), last 0, last 1)
    at (down_exact fs (and_left (is_down fs) (echoes && rest) e))
