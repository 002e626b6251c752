-- Lists that are compared, and lines.
use mathlib.Core.Path.{◌≡◌, refl, sym, ◌∙◌}
use mathlib.Core.Bool.{Bool, true, false, ◌&&◌, true≢false}
use mathlib.Core.List.{List, [], ◌∷◌}
use Prim.Native.Nat.{ℕ, zero, suc, ◌≤◌}
use native.Mathlib.Omega.{arith}
use borrow.Author.Tests.{eqb-true, eq-eqb, leb-true, le-leb}
use lib.Dec.{eqb, leb}
use lib.ListN.{length, get_or}
use Rattle.test_lemmas.proofs.ByCases.{by_test}
use Rattle.symbols.specs.Symbols.{minus, line_length, same_symbols, within, fits, is_line, tabulate, line_by}
use Rattle.symbols.proofs.Fill.{length_tabulate}
use Rattle.symbols.proofs.Scan.{Tested, tested_done}

-- Two lists that pass the test are the same, and a list passes it with itself.
pub same_symbols_true : (xs ys : List ℕ) → same_symbols xs ys ≡ true → xs ≡ ys
unfolding same_symbols
same_symbols_true [] [] e = refl
same_symbols_true [] (y ∷ ys) e = cc
same_symbols_true (x ∷ xs) [] e = cc
same_symbols_true (x ∷ xs) (y ∷ ys) e =
    by_test (eqb x y) (λ t. rw (eqb-true x y t, same_symbols_true xs ys (simp t at e)))
    (λ t. let z : true ≡ false = cc in cc)

pub same_symbols_self : (xs : List ℕ) → same_symbols xs xs ≡ true
unfolding same_symbols
same_symbols_self [] = refl
same_symbols_self (x ∷ xs) = rw (eq-eqb x x refl, same_symbols_self xs)

-- What a slice that fits is long, and what its codes are.
pub fits_length : (n top : ℕ) (l : List ℕ) → fits n top l ≡ true → length l ≡ n
unfolding fits
fits_length n top l e = by_test (eqb (length l) n) (λ t. eqb-true (length l) n t) (λ t. absurd (true≢false (sym e ∙ rw t)))

pub fits_within : (n top : ℕ) (l : List ℕ) → fits n top l ≡ true → within top l ≡ true
unfolding fits
fits_within n top l e = by_test (eqb (length l) n) (λ t. rw t at e) (λ t. absurd (true≢false (sym e ∙ rw t)))

pub within_cons : (top x : ℕ) (l : List ℕ) → within top (x ∷ l) ≡ (leb x top && within top l)
unfolding within
within_cons top x l = by_test (leb x top) (λ t. rw t) (λ t. rw t)

pub fits_is : {n : ℕ} (top : ℕ) (l : List ℕ) {b : Bool} → length l ≡ n → b ≡ within top l → b ≡ fits n top l
unfolding fits
fits_is {n} top l h e = rw (eq-eqb (length l) n h) e

-- The loop that tests a slice of the right length has come to its end.
pub fits_done : (n top : ℕ) (l : List ℕ) (i : ℕ) (ok : Bool) → Tested (within top) l i ok → length l ≤ i → length l ≡ n → ok ≡ fits n top l
unfolding within
fits_done n top l i ok t e h = fits_is top l h (sym (tested_done t refl e))

-- Each symbol of a line is at most minus, the highest code.
abbrev pub Small : List ℕ → Type 0
Small l = (i : ℕ) → get_or l i 0 ≤ minus

pub within_small : (l : List ℕ) → within minus l ≡ true → Small l
unfolding within
within_small [] e i = omega arith
within_small (x ∷ l) e zero = by_test (leb x minus) (λ t. leb-true x minus t) (λ t. absurd (true≢false (sym e ∙ rw t)))
within_small (x ∷ l) e (suc i) =
    by_test (leb x minus) (λ t. within_small l (rw t at e) i) (λ t. absurd (true≢false (sym e ∙ rw t)))

pub line_small : (l : List ℕ) → is_line l ≡ true → Small l
line_small l h = within_small l (fits_within line_length minus l h)

pub line_length_lem : (l : List ℕ) → is_line l ≡ true → length l ≡ line_length
line_length_lem l h = fits_length line_length minus l h

-- What is given index by index is a line where each code is a symbol's.
within_tabulate : (n : ℕ) (f : ℕ → ℕ) → ((i : ℕ) → f i ≤ minus) → within minus (tabulate n f) ≡ true
unfolding within tabulate
within_tabulate zero f h = refl
within_tabulate (suc n) f h = rw (le-leb (f 0) minus (h 0)) (within_tabulate n (λ i. f (suc i)) (λ i. h (suc i)))

pub line_by_lem : (f : ℕ → ℕ) → ((i : ℕ) → f i ≤ minus) → is_line (line_by f) ≡ true
unfolding fits
line_by_lem f h = rw (length_tabulate line_length f) (within_tabulate line_length f h)

-- A call that looks first whether it is lent a line: what its test of that says.
pub is_line_lem : (l : List ℕ) {b : Bool} → b ≡ is_line l → b ≡ true → length l ≡ line_length
is_line_lem l e t = line_length_lem l (sym e ∙ t)
