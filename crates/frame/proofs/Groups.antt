-- Upward frames by groups: a group with its L leaves the polarity as it found it.
use mathlib.Core.Path.{◌≡◌, refl, ap, ◌∙◌}
use mathlib.Core.Bool.{Bool, true, false, cond}
use mathlib.Core.List.{List, [], ◌∷◌, ◌++◌}
use Prim.Native.Nat.{ℕ, zero, suc, ◌+◌, ◌-◌, ◌%◌, ◌<◌, ◌≤◌}
use native.Mathlib.Omega.{arith}
use borrow.Author.Tests.{eqb-true, eqb-false, eq-eqb, ne_eqb}
use lib.Dec.{eqb}
use lib.ListN.{get_or, replicate}
use Rattle.test_lemmas.proofs.ByCases.{by_test}
use Rattle.symbols.specs.Symbols.{none, plus, minus}
use Rattle.frame.specs.Bits.{octet_bits, zeros, balanced, d_index, fa_index}
use Rattle.frame.specs.Four.{pick}
use Rattle.frame.specs.Polarity.{opposite, alternate, next_pulse, symbols}
use Rattle.frame.specs.Up.{up_bits, up_line}
use Rattle.frame.specs.Groups.{group_symbols, up_groups, laid_out}
use Rattle.frame.specs.declared.fields.UpFields.{UpFields}

alternate_append : (s : ℕ) (xs ys : List Bool) → alternate s (xs ++ ys) ≡ alternate s xs ++ alternate (next_pulse s xs) ys
unfolding alternate next_pulse
alternate_append s [] ys = refl
alternate_append s (x ∷ xs) ys = rw (alternate_append (cond x s (opposite s)) xs ys)

next_append : (s : ℕ) (xs ys : List Bool) → next_pulse s (xs ++ ys) ≡ next_pulse (next_pulse s xs) ys
unfolding next_pulse
next_append s [] ys = refl
next_append s (x ∷ xs) ys = next_append (cond x s (opposite s)) xs ys

-- After an even number of 0s the polarity is as before, after an odd one it is the other.
next_zeros : (s : ℕ) (bs : List Bool) → s ≤ 3 → next_pulse s bs ≡ cond (eqb (zeros bs % 2) 0) s (opposite s)
unfolding next_pulse zeros
next_zeros s [] h = refl
next_zeros s (true ∷ bs) h = let same : 0 + zeros bs ≡ zeros bs = omega arith in rw same (next_zeros s bs h)
next_zeros s (false ∷ bs) h =
    let z = zeros bs in
    let back : 3 - (3 - s) ≡ s = omega arith in
    next_zeros (opposite s) bs (omega arith)
    ∙ by_test (eqb (z % 2) 0) (λ t. rw (t, ne_eqb ((1 + z) % 2) 0 (λ e. omega (arith, eqb-true (z % 2) 0 t))))
    (λ t. rw (t, eq-eqb ((1 + z) % 2) 0 (omega (arith, eqb-false (z % 2) 0 t)), back))

pub balanced_polarity : (bs : List Bool) → next_pulse minus (balanced bs) ≡ minus
unfolding next_pulse
balanced_polarity bs =
    next_append minus bs (eqb (zeros bs % 2) 0 ∷ [])
    ∙ rw (next_zeros minus bs (omega arith)) (by_test (eqb (zeros bs % 2) 0) (λ t. rw t) (λ t. rw t))

-- Groups with their Ls one after the other, as bits and as symbols.
bits_of : List (List Bool) → List Bool
bits_of [] = []
bits_of (g ∷ gs) = balanced g ++ bits_of gs

symbols_of : List (List Bool) → List ℕ
symbols_of [] = []
symbols_of (g ∷ gs) = group_symbols g ++ symbols_of gs

by_groups : (gs : List (List Bool)) → alternate minus (bits_of gs) ≡ symbols_of gs
unfolding alternate bits_of symbols_of
by_groups [] = refl
by_groups (g ∷ gs) = rw (alternate_append minus (balanced g) (bits_of gs), balanced_polarity g, by_groups gs)

pub groups_up : (f : UpFields) → up_line f ≡ laid_out up_groups f
unfolding up_line up_bits symbols bits_of symbols_of
groups_up f =
    ap (λ (l : List ℕ). plus ∷ minus ∷ l)
    (by_groups
    (octet_bits f.b1first
    ∷ (f.d.first ∷ [])
    ∷ (f.fa ∷ [])
    ∷ octet_bits f.b2first
    ∷ (f.d.second ∷ [])
    ∷ octet_bits f.b1second
    ∷ (f.d.third ∷ [])
    ∷ octet_bits f.b2second
    ∷ (f.d.fourth ∷ [])
    ∷ []))

-- Each D begins its group.
pub d_symbol_up : (k : ℕ) (f : UpFields) → k < 4 → get_or (up_line f) (d_index k) none ≡ cond (pick k f.d) none minus
unfolding alternate octet_bits pick
d_symbol_up zero f h = rw (groups_up f)
d_symbol_up (suc zero) f h = rw (groups_up f)
d_symbol_up (suc (suc zero)) f h = rw (groups_up f)
d_symbol_up (suc (suc (suc zero))) f h = rw (groups_up f)
d_symbol_up (suc (suc (suc (suc k)))) f h = absurd (omega arith)

pub fa_symbol_up : (f : UpFields) → get_or (up_line f) fa_index none ≡ cond f.fa none minus
unfolding alternate octet_bits
fa_symbol_up f = rw (groups_up f)

-- 1s are nones.
alternate_ones : (n : ℕ) → alternate minus (replicate n true) ≡ replicate n none
unfolding alternate
alternate_ones zero = refl
alternate_ones (suc n) = rw (alternate_ones n)

zeros_ones : (n : ℕ) → zeros (replicate n true) ≡ 0
unfolding zeros
zeros_ones zero = refl
zeros_ones (suc n) = rw (zeros_ones n)

ones_more : (n : ℕ) → replicate n true ++ (true ∷ []) ≡ replicate (suc n) true
ones_more zero = refl
ones_more (suc n) = rw (ones_more n)

pub group_of_ones : (n : ℕ) → group_symbols (replicate n true) ≡ replicate (suc n) none
group_of_ones n = rw (zeros_ones n, ones_more n) (alternate_ones (suc n))
