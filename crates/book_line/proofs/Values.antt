-- What the octets of a value are, one by one: they are octets, as many as there are pairs of digits or letters.
use mathlib.Core.Path.{◌≡◌, refl, ◌∙◌}
use mathlib.Core.Bool.{true}
use mathlib.Core.List.{List, [], ◌∷◌, map}
use Prim.Native.Nat.{ℕ, zero, suc, ◌+◌, ◌*◌, ◌/◌, ◌%◌, ◌<◌}
use native.Mathlib.Nat.{mod-lt}
use native.Mathlib.Omega.{arith}
use lib.Dec.{eqb, leb}
use lib.ListN.{length, get_or, length-map}
use borrow.Author.Tests.{eqb-true, eq-eqb, le-leb}
use Rattle.test_lemmas.proofs.ByCases.{by_test, and_left}
use Rattle.symbols.specs.Symbols.{line_length, within, fits}
use Rattle.notes_and_cells.specs.Names.{ascii}
use Rattle.text.specs.Text.{space, all, is_letter}
use Rattle.text.proofs.Pieces.{piece_le, same_length}
use Rattle.notes_and_cells.specs.Events.{HIT}
use Rattle.book_line.specs.ValueForms.{form_of}
use Rattle.book_line.specs.Line.{longest_line, is_absent, is_hit_text, fits_form, value_fits, event_of, value_of, formed}
use Rattle.book_line.specs.Value.{hex_digit, pairs, body_of, letter_code, octets_in, value_octets}
use Rattle.book_line.specs.Laying.{value_room}
use Rattle.book_line.specs.declared.form.ValueForm.{ValueForm}
use Rattle.book_line.specs.declared.form.ValueForm.TheVariants.{Absent, Body, Letters}
use Rattle.book_line.proofs.Judging.{formed_parts}

pub hex_digit_small : (c : ℕ) → hex_digit c < 16
unfolding hex_digit
hex_digit_small c = by_test (leb c 57) (λ e. rw e (mod-lt c (omega arith))) (λ e. rw e (mod-lt (c % 16 + 9) (omega arith)))

pub length_pairs : (v : List ℕ) → length (pairs v) ≡ length v / 2
unfolding pairs
length_pairs [] = omega arith
length_pairs (a ∷ []) = omega arith
length_pairs (a ∷ b ∷ more) = omega (arith, length_pairs more)

pub pairs_at : (v : List ℕ) (n : ℕ) → n < length v / 2 → get_or (pairs v) n 0 ≡ hex_digit (get_or v (2 * n) 0) * 16 + hex_digit (get_or v (2 * n + 1) 0)
unfolding pairs
pairs_at [] n h = absurd (omega arith)
pairs_at (a ∷ []) n h = absurd (omega arith)
pairs_at (a ∷ b ∷ more) zero h = refl
pairs_at (a ∷ b ∷ more) (suc n) h =
    let x : 2 * suc n ≡ suc (suc (2 * n)) = omega arith in
    let y : 2 * suc n + 1 ≡ suc (suc (2 * n + 1)) = omega arith in rw (y, x) (pairs_at more n (omega arith))

-- `-` is no pair of digits
pub body_pairs : (v : List ℕ) → body_of v ≡ pairs v
unfolding body_of pairs is_absent
body_pairs [] = by_test (is_absent []) (λ e. rw e) (λ e. rw e)
body_pairs (a ∷ []) = by_test (is_absent (a ∷ [])) (λ e. rw e) (λ e. rw e)
body_pairs (a ∷ b ∷ more) = rw (same_length (a ∷ b ∷ more) (ascii "-") (λ e. omega arith))

pub letters_at_lem : (v : List ℕ) (n : ℕ) → n < length v → get_or (map letter_code v) n 0 ≡ letter_code (get_or v n 0)
letters_at_lem [] n h = absurd (omega arith)
letters_at_lem (c ∷ v) zero h = refl
letters_at_lem (c ∷ v) (suc n) h = letters_at_lem v n (omega arith)

-- ---- Every octet of a value is below 256, whatever the value.
letter_small : (c : ℕ) → letter_code c < 4
unfolding letter_code
letter_small c =
    by_test (eqb c 107) (λ k. rw k (omega arith))
    (λ k. by_test (eqb c 112) (λ p. rw (k, p) (omega arith))
    (λ p. by_test (eqb c 109) (λ m. rw (k, p, m) (omega arith)) (λ m. rw (k, p, m) (omega arith))))

pairs_small : (v : List ℕ) (i : ℕ) → get_or (pairs v) i 0 < 256
unfolding pairs
pairs_small [] i = omega arith
pairs_small (a ∷ []) i = omega arith
pairs_small (a ∷ b ∷ more) zero = omega (arith, hex_digit_small a, hex_digit_small b)
pairs_small (a ∷ b ∷ more) (suc i) = pairs_small more i

letters_small : (v : List ℕ) (i : ℕ) → get_or (map letter_code v) i 0 < 4
letters_small [] i = omega arith
letters_small (c ∷ v) zero = letter_small c
letters_small (c ∷ v) (suc i) = letters_small v i

octets_small : (form : ValueForm) (v : List ℕ) (i : ℕ) → get_or (octets_in form v) i 0 < 256
octets_small Absent v i = omega arith
octets_small Body v i = rw (body_pairs v) (pairs_small v i)
octets_small Letters v i = omega (arith, letters_small v i)

pub value_octets_lem : (event : ℕ) (v : List ℕ) (i : ℕ) → get_or (value_octets event v) i 0 < 256
unfolding value_octets
value_octets_lem event v i = octets_small (form_of event) v i

-- ---- The values of lines of right form.

-- the codes of a hit's letters are what the bus takes for one
codes_within : (v : List ℕ) → within 3 (map letter_code v) ≡ true
unfolding within
codes_within [] = refl
codes_within (c ∷ v) = rw (le-leb (letter_code c) 3 (omega (arith, letter_small c)), codes_within v)

letters_long : (v : List ℕ) → is_hit_text v ≡ true → length (map letter_code v) ≡ line_length
unfolding is_hit_text
letters_long v e = length-map v letter_code ∙ eqb-true (length v) line_length (and_left (eqb (length v) line_length) (all is_letter v) e)

pub hit_fits_lem : (v : List ℕ) → value_fits HIT v ≡ true → fits line_length 3 (value_octets HIT v) ≡ true
unfolding form_of value_fits value_octets fits
hit_fits_lem v e = rw (eq-eqb (length (map letter_code v)) line_length (letters_long v e), codes_within v)

-- every value has room
value_short : (form : ValueForm) (v : List ℕ) → length v < longest_line → fits_form form v ≡ true → length (octets_in form v) < value_room
value_short Absent v h e = omega arith
value_short Body v h e = rw (body_pairs v) (omega (arith, length_pairs v))
value_short Letters v h e = omega (arith, letters_long v e)

pub value_length : (line : List ℕ) → formed line ≡ true → length (value_octets (event_of line) (value_of line)) < value_room
unfolding value_fits value_octets
value_length line e =
    let f = formed_parts line e in
    value_short (form_of (event_of line)) (value_of line) (omega (arith, piece_le space line 3, f.short)) f.value
