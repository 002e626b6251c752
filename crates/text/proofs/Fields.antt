-- Laws of fields: each is the part of the line that the definitions say, and where the last of them ends.
use mathlib.Core.Path.{◌≡◌, refl, sym, ap, ◌∙◌}
use mathlib.Core.List.{List, []}
use Prim.Native.Nat.{ℕ, zero, suc, ◌+◌, ◌-◌, ◌≤◌, ◌<◌}
use native.Mathlib.Omega.{arith}
use lib.Dec.{ltb, leb}
use lib.ListN.{length, get_or, take, drop, length-drop, drop_of_length-le}
use borrow.Author.Tests.{ltb-true, ltb-false, leb-true, leb-false}
use denote.Ref.{Bor}
use Rattle.test_lemmas.proofs.ByCases.{by_test}
use Rattle.text.specs.Text.{space, split, upto, fields, field}
use Rattle.text.specs.Part.{IsPart}
use Rattle.text.specs.Fields.{field_start, field_end, ends_of, field_from, field_to}
use Rattle.text.specs.declared.field.Ends.{Ends}
use Rattle.text.proofs.Parts.{part_octets}
use Rattle.text.proofs.Pieces.{upto_within, upto_le, split_some, piece_at, piece_after, piece_past, cut_here, cut_last}

-- a text that is past its end has empty pieces alone
none_past : (t : List ℕ) (i j : ℕ) → length t ≤ i → get_or (split space (drop i t)) j [] ≡ []
unfolding split
none_past t i zero h = rw (drop_of_length-le t h)
none_past t i (suc j) h = rw (drop_of_length-le t h)

module _ (line : List ℕ) where
  -- the pieces from where field k begins are the fields from k on
  from_start : (k j n : ℕ) → n ≡ j + k → get_or (split space (drop (field_start k line) line)) j [] ≡ field n line
  unfolding field_start
  from_start zero j n e = let w : n ≡ j = omega arith in rw w
  from_start (suc k) j n e =
      let from = field_start k line in
      let end = field_end k line in
      let rest = from_start k (suc j) n (omega arith) in
      by_test (ltb end (length line))
      (λ h. sym (piece_after space line from end refl j (ltb-true end (length line) h)) ∙ rest)
      (λ h. none_past line (end + 1) j (omega (arith, ltb-false end (length line) h))
      ∙ (sym (piece_past space line from end refl j (ltb-false end (length line) h)) ∙ rest))

  -- Field k is what stands from where it begins to where it ends.
  pub field_part : (k : ℕ) → field k line ≡ take (field_end k line - field_start k line) (drop (field_start k line) line)
  field_part k = sym (piece_at space line (field_start k line) (field_end k line) refl ∙ from_start k 0 k (omega arith))

  -- ---- How many fields there are.
  some_fields : (k : ℕ) → field_start k line ≤ length line → length (fields line) ≡ k + length (split space (drop (field_start k line) line))
  unfolding field_start
  some_fields zero h = omega arith
  some_fields (suc k) h =
      omega (arith, some_fields k (omega arith), ap length (cut_here space line (field_start k line) (field_end k line) refl (omega arith)))

  few_fields : (k : ℕ) → length line < field_start k line → length (fields line) ≤ k
  unfolding field_start
  few_fields zero h = absurd (omega arith)
  few_fields (suc k) h =
      by_test (leb (field_start k line) (length line))
      (λ l. omega (
        arith,
        some_fields k (leb-true (field_start k line) (length line) l),
        cut_last space line (field_start k line) (field_end k line) refl (omega arith),
      ))
      (λ l. omega (arith, few_fields k (leb-false (field_start k line) (length line) l)))

  last_ends : (k : ℕ) → length (fields line) ≡ suc k → field_end k line ≡ length line
  last_ends k e =
      by_test (leb (field_start k line) (length line))
      (λ l. let s = leb-true (field_start k line) (length line) l in
      by_test (ltb (field_end k line) (length line))
      (λ h. absurd (omega (
        arith,
        some_fields k s,
        ap length (cut_here space line (field_start k line) (field_end k line) refl (ltb-true (field_end k line) (length line) h)),
        split_some space (drop (field_end k line + 1) line),
      )))
      (λ h. omega (arith, upto_within space line (field_start k line) s, ltb-false (field_end k line) (length line) h)))
      (λ l. absurd (omega (arith, few_fields k (leb-false (field_start k line) (length line) l))))

  ends_last : (k : ℕ) → field_end k line ≡ length line → length (fields line) ≡ suc k
  ends_last k e =
      omega (arith, some_fields k (omega arith), cut_last space line (field_start k line) (field_end k line) refl (omega arith))

  -- A line has k + 1 fields exactly where field k ends with the line.
  pub fields_end : (k : ℕ)
      → (length (fields line) ≡ suc k → field_end k line ≡ length line) × (field_end k line ≡ length line → length (fields line) ≡ suc k)
  fields_end k = (last_ends k, ends_last k)

  -- A field begins behind the space that ends the one before it.
  pub field_behind : (k : ℕ) → field_start (suc k) line ≡ field_end k line + 1
  unfolding field_start
  field_behind k = refl

-- ---- A line that is split: each field begins behind the space at the end of the one before it.
pub ends_are : (line : List ℕ) (first second third fourth : ℕ) → first ≡ 0 + upto space (drop 0 line)
    → second ≡ first + 1 + upto space (drop (first + 1) line) → third ≡ second + 1 + upto space (drop (second + 1) line)
    → fourth ≡ third + 1 + upto space (drop (third + 1) line)
    → record { first = first; second = second; third = third; fourth = fourth } ≡ ends_of line
unfolding field_start
ends_are line first second third fourth a b c d = rw (d, c, b, a)

split_places : (line : List ℕ) (k : ℕ)
    → k ≤ 3 → (field_from k (ends_of line) ≡ field_start k line) × (field_to k (ends_of line) ≡ field_end k line)
unfolding field_start
split_places line zero h = (refl, refl)
split_places line (suc zero) h = (refl, refl)
split_places line (suc (suc zero)) h = (refl, refl)
split_places line (suc (suc (suc zero))) h = (refl, refl)
split_places line (suc (suc (suc (suc k)))) h = absurd (omega arith)

-- the next field begins at most one octet farther past the line's end
pub end_near : (line : List ℕ) (from more : ℕ) → from ≤ length line + more → from + upto space (drop from line) ≤ length line + more
end_near line from more h = omega (arith, upto_le space (drop from line), length-drop from line)

-- The parts that are handed back for a line that is split are its fields.
pub fields_told : (line part : Bor (List ℕ)) (ends : Ends) → ends ≡ ends_of line.now → (k : ℕ) → k ≤ 3
    → IsPart line (field_from k ends) (field_to k ends) part → part.now ≡ field k line.now
fields_told line part ends e k h p =
    let f = split_places line.now k h in
    let q : IsPart line (field_start k line.now) (field_end k line.now) part = rw (e, f.0, f.1) at p in
    part_octets line _ _ part q ∙ sym (field_part line.now k)
