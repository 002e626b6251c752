-- A loop that fills a slice of 48 index by index, from what f gives at each index.
use mathlib.Core.Path.{◌≡◌, refl, sym, ap, ◌∙◌}
use mathlib.Core.List.{List, ◌++◌}
use Prim.Native.Nat.{ℕ, zero, suc, ◌+◌, ◌-◌, ◌<◌, ◌≤◌}
use native.Mathlib.Omega.{arith}
use borrow.Author.Tests.{eqb-true, eqb-false, ltb-true, ltb-false}
use lib.Dec.{eqb, ltb}
use lib.ListN.{length, get_or, set, length-set, length-append, get_or-append}
use lib.Seq.{get_or-set_same, get_or-set_other, get_or-append-add, ext_get_or}
use Rattle.symbols.specs.Symbols.{line_length, tabulate, line_by}
use Rattle.test_lemmas.proofs.ByCases.{by_test}

-- The elements of a list that is given index by index.
pub length_tabulate : (n : ℕ) (f : ℕ → ℕ) → length (tabulate n f) ≡ n
unfolding tabulate
length_tabulate zero f = refl
length_tabulate (suc n) f = ap suc (length_tabulate n (λ i. f (suc i)))

pub get_d_tabulate : (n : ℕ) (f : ℕ → ℕ) (i : ℕ) → i < n → get_or (tabulate n f) i 0 ≡ f i
unfolding tabulate
get_d_tabulate zero f i h = absurd (omega arith)
get_d_tabulate (suc n) f zero h = refl
get_d_tabulate (suc n) f (suc i) h = get_d_tabulate n (λ j. f (suc j)) i (omega arith)

-- A list is that of its elements.
pub tabulate_is : (n : ℕ) (l : List ℕ) (f : ℕ → ℕ) → length l ≡ n → ((i : ℕ) → i < n → get_or l i 0 ≡ f i) → l ≡ tabulate n f
tabulate_is n l f h e =
    ext_get_or 0 l (tabulate n f) (h ∙ sym (length_tabulate n f)) (λ i k. let j : i < n = omega arith in e i j ∙ sym (get_d_tabulate n f i j))

pub line_is : (l : List ℕ) (f : ℕ → ℕ) → length l ≡ line_length → ((i : ℕ) → i < line_length → get_or l i 0 ≡ f i) → l ≡ line_by f
line_is l f h e = tabulate_is line_length l f h e

-- Two are the same where they are at each index.
pub tabulate_ext : (n : ℕ) (f g : ℕ → ℕ) → ((i : ℕ) → i < n → f i ≡ g i) → tabulate n f ≡ tabulate n g
tabulate_ext n f g e = tabulate_is n (tabulate n f) g (length_tabulate n f) (λ i h. get_d_tabulate n f i h ∙ e i h)

-- In two parts.
pub tabulate_append : (m n : ℕ) (f : ℕ → ℕ) → tabulate (m + n) f ≡ tabulate m f ++ tabulate n (λ i. f (m + i))
tabulate_append m n f = sym (tabulate_is (m + n) (first ++ second) f (rw length-append (rw (length_tabulate m f, length_tabulate n (λ i. f (m + i))))) at_index_lem)
  where
    first : List ℕ
    first = tabulate m f

    second : List ℕ
    second = tabulate n (λ i. f (m + i))

    at_index_lem : (i : ℕ) → i < m + n → get_or (first ++ second) i 0 ≡ f i
    at_index_lem i h =
        by_test (ltb i m)
        (λ t. get_or-append first second 0 i (omega (arith, length_tabulate m f, ltb-true i m t)) ∙ get_d_tabulate m f i (ltb-true i m t))
        (λ t.
        let past : m ≤ i = ltb-false i m t in
        let place : length first + (i - m) ≡ i = omega (arith, length_tabulate m f) in
        let there : m + (i - m) ≡ i = omega arith in
        rw place at (get_or-append-add first second (i - m) 0) ∙ (get_d_tabulate n (λ j. f (m + j)) (i - m) (omega arith) ∙ rw there))

-- xs is f below i, and as xs₀ was from i on.
pub record Filled (f : ℕ → ℕ) (xs₀ xs : List ℕ) (i : ℕ) : Type 0 where
  pub long : length xs ≡ line_length
  pub done : (k : ℕ) → k < i → get_or xs k 0 ≡ f k
  pub rest : (k : ℕ) → i ≤ k → get_or xs k 0 ≡ get_or xs₀ k 0

module _ {f : ℕ → ℕ} {xs₀ xs : List ℕ} {i : ℕ} (m : Filled f xs₀ xs i) where
  pub fill_next : i < line_length → (v : ℕ) → v ≡ f i → Filled f xs₀ (set xs i v) (i + 1)
  fill_next h v e = record {
    long = length-set xs i v ∙ m.long;
    done = λ k l.
        by_test (eqb k i) (λ t. rw (eqb-true k i t) (get_or-set_same xs i v 0 (omega (arith, m.long)) ∙ e))
        (λ t. get_or-set_other xs i k v 0 (eqb-false k i t) ∙ m.done k (omega (arith, eqb-false k i t)));
    rest = λ k l. get_or-set_other xs i k v 0 (omega arith) ∙ m.rest k (omega arith);
  }

  pub fill_done : line_length ≤ i → xs ≡ line_by f
  fill_done h = line_is xs f m.long (λ k l. m.done k (omega arith))
