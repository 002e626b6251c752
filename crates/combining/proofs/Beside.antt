-- INFO 1 beside INFO 3: terminals of which any sends INFO 1 give what INFO 1 and the line of those that send INFO 3 give.
use mathlib.Core.Path.{◌≡◌, refl, sym}
use mathlib.Core.Bool.{Bool, true, false, not, cond, ◌&&◌, ◌||◌, true≢false}
use mathlib.Core.List.{List, [], ◌∷◌, map}
use Prim.Native.Nat.{ℕ, ◌<◌}
use borrow.Author.Tests.{eqb-true, not-true}
use lib.Dec.{eqb}
use lib.ListN.{get_or, get_or-replicate}
use Rattle.test_lemmas.proofs.ByCases.{by_test, and_left, and_right, each_below, at_each_below}
use Rattle.symbols.specs.Symbols.{line_length, none, plus, minus, tabulate, same_symbols}
use Rattle.symbols.proofs.Fill.{tabulate_ext}
use Rattle.frame.specs.Four.{all_four}
use Rattle.frame.specs.Bits.{octet_bits, zeros}
use Rattle.frame.specs.Polarity.{alternate, symbols}
use Rattle.frame.specs.Up.{up_bits, up_line}
use Rattle.frame.specs.declared.fields.Four.{Four}
use Rattle.frame.specs.declared.fields.UpFields.{UpFields}
use Rattle.framed.specs.Framed.{first_pulse, framed_in, framed_up, has_pulse}
use Rattle.info.specs.Info.{info1, info3, info3_with, is_info1}
use Rattle.combining.specs.Combine.{is_sent, only, combined_symbol, column, combined}
use Rattle.combining.specs.Groups.{all_of}
use Rattle.combining.specs.Sent.{Sent, sent_line}
use Rattle.combining.specs.SentD.{any_calling, frames, is_info3, frames_line, all_ones}
use Rattle.combining.specs.Sent.Sent.{silent, calling, frame}
use Rattle.combining.proofs.Columns.{combined_at}
use Rattle.combining.proofs.ByGroup.{all_idle}
use Rattle.combining.proofs.Senders.{of_frames}

-- A test that antt computes at all sixteen values of four bits, and at both of FA, and what it says of one of them.
abbrev each_bit : (Bool → Bool) → Bool
each_bit f = f true && f false

at_each_bit : (f : Bool → Bool) (b : Bool) → each_bit f ≡ true → f b ≡ true
at_each_bit f true e = and_left (f true) (f false) e
at_each_bit f false e = and_right (f true) (f false) e

abbrev four : Bool → Bool → Bool → Bool → Four
four a b c d = record { first = a; second = b; third = c; fourth = d }

abbrev pub each_four : (Four → Bool) → Bool
each_four f = each_bit (λ a. each_bit (λ b. each_bit (λ c. each_bit (λ d. f (four a b c d)))))

pub at_each_four : (f : Four → Bool) (x : Four) → each_four f ≡ true → f x ≡ true
at_each_four f x e =
    at_each_bit (λ d. f (four x.first x.second x.third d)) x.fourth
    (at_each_bit (λ c. each_bit (λ d. f (four x.first x.second c d))) x.third
    (at_each_bit (λ b. each_bit (λ c. each_bit (λ d. f (four x.first b c d)))) x.second
    (at_each_bit (λ a. each_bit (λ b. each_bit (λ c. each_bit (λ d. f (four a b c d))))) x.first e)))

-- A pulse of INFO 3 has the polarity of the pulse in the same place where all D bits and FA are 0.
abbrev widest : List ℕ
widest = info3 (all_four false)

abbrev idle_line : UpFields → List ℕ
idle_line f = info3_with f.fa f.d

abbrev as_widest : List ℕ → ℕ → Bool
as_widest l i = eqb (get_or l i none) none || eqb (get_or l i none) (get_or widest i none)

as_widest_lem : (fa : Bool) (d : Four) (i : ℕ) → i < line_length → as_widest (info3_with fa d) i ≡ true
unfolding up_line up_bits symbols alternate octet_bits zeros
as_widest_lem fa d i h =
    at_each_below (as_widest (info3_with fa d)) line_length i
    (at_each_bit (λ b. each_below (as_widest (info3_with b d)) line_length) fa
    (at_each_four (λ x. each_bit (λ b. each_below (as_widest (info3_with b x)) line_length)) d refl)) h

other_symbol : (x w t : ℕ) → (eqb x none || eqb x w) ≡ true → eqb none t ≡ false → eqb w t ≡ false → eqb x t ≡ false
other_symbol x w t e n h = by_test (eqb x none) (λ u. rw (eqb-true x none u) n) (λ u. rw (eqb-true x w (rw u at e)) h)

only_plus : (p q : Bool) → q ≡ false → (p ≡ eqb (only p q) plus) × (q ≡ eqb (only p q) minus)
only_plus true q e = (rw e, rw e)
only_plus false q e = (rw e, rw e)

only_minus : (p q : Bool) → p ≡ false → (p ≡ eqb (only p q) plus) × (q ≡ eqb (only p q) minus)
only_minus p true e = (rw e, rw e)
only_minus p false e = (rw e, rw e)

module _ (i : ℕ) (h : i < line_length) where
  abbrev sent_at : ℕ → List (List ℕ) → Bool
  sent_at s ls = is_sent s (column i ls)

  -- So INFO 3 together never have both polarities in one place, and their line shows what is sent.
  other_polarity : (t : ℕ) → eqb none t ≡ false → eqb (get_or widest i none) t ≡ false → (fs : List UpFields) → sent_at t (map idle_line fs) ≡ false
  unfolding is_sent
  other_polarity t n w [] = refl
  other_polarity t n w (f ∷ fs) = rw (other_symbol (get_or (idle_line f) i none) (get_or widest i none) t (as_widest_lem f.fa f.d i h) n w, other_polarity t n w fs)

  shows : (fs : List UpFields) → all_of is_info3 fs ≡ true
      → (sent_at plus (map up_line fs) ≡ eqb (get_or (frames_line fs) i none) plus) × (sent_at minus (map up_line fs) ≡ eqb (get_or (frames_line fs) i none) minus)
  shows fs idle =
      rw (← of_frames fs idle, combined_at (map up_line fs) i h, all_idle fs idle)
      (by_test (eqb (get_or widest i none) plus)
      (λ t. only_plus (sent_at plus (map idle_line fs)) (sent_at minus (map idle_line fs)) (other_polarity minus refl (rw (eqb-true (get_or widest i none) plus t)) fs))
      (λ t. only_minus (sent_at plus (map idle_line fs)) (sent_at minus (map idle_line fs)) (other_polarity plus refl t fs)))

  -- What all send: INFO 1 where any sends it, and INFO 3.
  with_info1_lem : (s : ℕ) → eqb none s ≡ false → (xs : List Sent)
      → sent_at s (map sent_line xs) ≡ ((any_calling xs && eqb (get_or info1 i none) s) || sent_at s (map up_line (frames xs)))
  unfolding is_sent any_calling frames
  with_info1_lem s n [] = refl
  with_info1_lem s n (silent ∷ xs) = rw (get_or-replicate {A = ℕ} line_length i none none h, n, with_info1_lem s n xs)
  with_info1_lem s n (calling ∷ xs) = rw (with_info1_lem s n xs) (again (eqb (get_or info1 i none) s) (any_calling xs) (sent_at s (map up_line (frames xs))))
    where
      again : (a c b : Bool) → (a || ((c && a) || b)) ≡ (a || b)
      again true c b = refl
      again false true b = refl
      again false false b = refl
  with_info1_lem s n (frame f ∷ xs) = rw (with_info1_lem s n xs) (across (eqb (get_or (up_line f) i none) s) (any_calling xs && eqb (get_or info1 i none) s) (sent_at s (map up_line (frames xs))))
    where
      across : (a c b : Bool) → (a || (c || b)) ≡ (c || (a || b))
      across true true b = refl
      across true false b = refl
      across false c b = refl

  or_false : (a : Bool) → (a || false) ≡ a
  or_false true = refl
  or_false false = refl

  beside : (xs : List Sent) → all_of is_info3 (frames xs) ≡ true → any_calling xs ≡ true
      → combined_symbol (column i (map sent_line xs)) ≡ combined_symbol (column i (info1 ∷ frames_line (frames xs) ∷ []))
  unfolding is_sent
  beside xs idle c =
      rw (
        with_info1_lem plus refl xs,
        with_info1_lem minus refl xs,
        c,
        (shows (frames xs) idle).0,
        (shows (frames xs) idle).1,
        or_false (eqb (get_or (frames_line (frames xs)) i none) plus),
        or_false (eqb (get_or (frames_line (frames xs)) i none) minus),
      )

pub combined_calling : (xs : List Sent) → all_of is_info3 (frames xs) ≡ true → any_calling xs ≡ true → combined (map sent_line xs) ≡ combined (info1 ∷ frames_line (frames xs) ∷ [])
unfolding combined
combined_calling xs idle c = tabulate_ext line_length _ _ (λ i h. beside i h xs idle c)

-- ---- What INFO 1 beside one INFO 3 is, computed at all 32 values of FA and D.
each_up : (f : Bool → Four → Bool) (fa : Bool) (d : Four) → each_four (λ x. each_bit (λ b. f b x)) ≡ true → f fa d ≡ true
each_up f fa d e = at_each_bit (λ b. f b d) fa (at_each_four (λ x. each_bit (λ b. f b x)) d e)

both_ways : (a b : Bool) → cond a b (not b) ≡ true → a ≡ b
both_ways true b h = sym h
both_ways false true h = absurd (true≢false (sym h))
both_ways false false h = refl

abbrev with_info1 : Bool → Four → List ℕ
with_info1 fa d = combined (info1 ∷ info3_with fa d ∷ [])

pub beside_info3 : (fa : Bool) (d : Four) → (has_pulse (with_info1 fa d) ≡ true) × (framed_up (with_info1 fa d) ≡ false) × (is_info1 (with_info1 fa d) ≡ all_ones fa d)
unfolding combined is_sent tabulate has_pulse first_pulse framed_in same_symbols up_line up_bits symbols alternate octet_bits zeros
beside_info3 fa d = (
  each_up (λ b x. has_pulse (with_info1 b x)) fa d refl,
  not-true (framed_up (with_info1 fa d)) (each_up (λ b x. not (framed_up (with_info1 b x))) fa d refl),
  both_ways (is_info1 (with_info1 fa d)) (all_ones fa d) (each_up (λ b x. cond (is_info1 (with_info1 b x)) (all_ones b x) (not (all_ones b x))) fa d refl),
)
