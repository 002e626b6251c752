-- What lists of symbols give together, index by index.
use mathlib.Core.Path.{◌≡◌, refl, sym, ap, ◌∙◌}
use mathlib.Core.Bool.{Bool, true, false, cond, not, ◌&&◌, ◌||◌}
use mathlib.Core.List.{List, [], ◌∷◌, ◌++◌, map, map-map, map-append}
use Prim.Native.Nat.{ℕ, zero, suc, ◌+◌, ◌<◌, ◌≤◌}
use native.Mathlib.Omega.{arith}
use borrow.Author.Tests.{eqb-true}
use lib.Dec.{eqb}
use lib.ListN.{length, get_or, replicate, get_or-replicate, get_or-append}
use lib.Seq.{get_or-append-add}
use Rattle.test_lemmas.proofs.ByCases.{by_test, at_each_below}
use Rattle.symbols.specs.Symbols.{line_length, none, plus, minus, within}
use Rattle.symbols.proofs.Fill.{get_d_tabulate, tabulate_is, tabulate_ext, tabulate_append}
use Rattle.symbols.proofs.Lines.{within_small}
use Rattle.combining.specs.Combine.{is_sent, combined_symbol, column, combined_over, combined}
use Rattle.combining.specs.Groups.{all_of}

pub map_ext : {X Y : Type 0} (f g : X → Y) → ((x : X) → f x ≡ g x) → (xs : List X) → map f xs ≡ map g xs
map_ext f g h [] = refl
map_ext f g h (x ∷ xs) = rw (h x, map_ext f g h xs)

pub combined_at : (ls : List (List ℕ)) (i : ℕ) → i < line_length → get_or (combined ls) i none ≡ combined_symbol (column i ls)
unfolding combined
combined_at ls i h = get_d_tabulate line_length (λ j. combined_symbol (column j ls)) i h

-- ---- In two parts.
module _ {X : Type 0} (m : ℕ) (a b : X → List ℕ) (h : (x : X) → length (a x) ≡ m) (xs : List X) where
  abbrev both_parts : X → List ℕ
  both_parts x = a x ++ b x

  first_column : (i : ℕ) → i < m → column i (map both_parts xs) ≡ column i (map a xs)
  first_column i k =
      map-map (λ l. get_or l i none) both_parts xs
      ∙ (map_ext (λ x. get_or (both_parts x) i none) (λ x. get_or (a x) i none) (λ x. get_or-append (a x) (b x) none i (rw (h x) k)) xs
      ∙ sym (map-map (λ l. get_or l i none) a xs))

  second_column : (i : ℕ) → column (m + i) (map both_parts xs) ≡ column i (map b xs)
  second_column i =
      map-map (λ l. get_or l (m + i) none) both_parts xs
      ∙ (map_ext (λ x. get_or (both_parts x) (m + i) none) (λ x. get_or (b x) i none) (λ x. rw (h x) at (get_or-append-add (a x) (b x) i none)) xs
      ∙ sym (map-map (λ l. get_or l i none) b xs))

  pub combined_parts : (n : ℕ) → combined_over (m + n) (map both_parts xs) ≡ combined_over m (map a xs) ++ combined_over n (map b xs)
  combined_parts n =
      tabulate_append m n (λ i. combined_symbol (column i (map both_parts xs)))
      ∙ rw (
        tabulate_ext m (λ i. combined_symbol (column i (map both_parts xs))) (λ i. combined_symbol (column i (map a xs))) (λ i k. ap combined_symbol (first_column i k)),
        tabulate_ext n (λ i. combined_symbol (column (m + i) (map both_parts xs))) (λ i. combined_symbol (column i (map b xs))) (λ i k. ap combined_symbol (second_column i)),
      )

-- ---- None in any place changes nothing.
sent_none : (s : ℕ) (xs ys : List ℕ) → eqb none s ≡ false → is_sent s (xs ++ (none ∷ ys)) ≡ is_sent s (xs ++ ys)
unfolding is_sent
sent_none s [] ys h = rw h
sent_none s (x ∷ xs) ys h = rw (sent_none s xs ys h)

pub combined_silent : (n : ℕ) (ls ms : List (List ℕ)) → combined_over n (ls ++ (replicate n none ∷ ms)) ≡ combined_over n (ls ++ ms)
combined_silent n ls ms = tabulate_ext n _ _ at_index_lem
  where
    at_index_lem : (i : ℕ) → i < n → combined_symbol (column i (ls ++ (replicate n none ∷ ms))) ≡ combined_symbol (column i (ls ++ ms))
    at_index_lem i h =
        rw (map-append, map-append, get_or-replicate {A = ℕ} n i none none h, sent_none plus (column i ls) (column i ms) refl, sent_none minus (column i ls) (column i ms) refl)

-- ---- What all send alike, and what one sends alone.
alone : (x : ℕ) → x ≤ minus → combined_symbol (x ∷ []) ≡ x
unfolding is_sent
alone x h = eqb-true (combined_symbol (x ∷ [])) x (at_each_below (λ k. eqb (combined_symbol (k ∷ [])) k) 3 x refl (omega arith))

or_again : (a b : Bool) → (a || (a || b)) ≡ (a || b)
or_again true b = refl
or_again false b = refl

sent_alike : {X : Type 0} (s t : ℕ) (xs : List X) → (eqb s t || is_sent t (map (λ x. s) xs)) ≡ (eqb s t || false)
unfolding is_sent
sent_alike s t [] = refl
sent_alike s t (x ∷ xs) = or_again (eqb s t) (is_sent t (map (λ y. s) xs)) ∙ sent_alike s t xs

alike : {X : Type 0} (s : ℕ) (xs : List X) → s ≤ minus → combined_symbol (s ∷ map (λ x. s) xs) ≡ s
unfolding is_sent
alike s xs h = rw (sent_alike s plus xs, sent_alike s minus xs) (alone s h)

pub combined_alone : (n : ℕ) (l : List ℕ) → length l ≡ n → within minus l ≡ true → combined_over n (l ∷ []) ≡ l
combined_alone n l h w = sym (tabulate_is n l (λ i. combined_symbol (get_or l i none ∷ [])) h (λ i k. sym (alone (get_or l i none) (within_small l w i))))

pub combined_alike : {X : Type 0} (n : ℕ) (l : List ℕ) (x : X) (xs : List X) → length l ≡ n → within minus l ≡ true → combined_over n (map (λ y. l) (x ∷ xs)) ≡ l
combined_alike n l x xs h w =
    sym
    (tabulate_is n l (λ i. combined_symbol (column i (map (λ y. l) (x ∷ xs)))) h
    (λ i k. sym (rw (map-map (λ m. get_or m i none) (λ y. l) xs) (alike (get_or l i none) xs (within_small l w i)))))

-- What only one sends, the others none.
silent_before : (n k : ℕ) (ls : List (List ℕ)) → combined_over n (replicate k (replicate n none) ++ ls) ≡ combined_over n ls
silent_before n zero ls = refl
silent_before n (suc k) ls = combined_silent n [] (replicate k (replicate n none) ++ ls) ∙ silent_before n k ls

silent_after : (n k : ℕ) (l : List ℕ) → combined_over n (l ∷ replicate k (replicate n none)) ≡ combined_over n (l ∷ [])
silent_after n zero l = refl
silent_after n (suc k) l = combined_silent n (l ∷ []) (replicate k (replicate n none)) ∙ silent_after n k l

pub combined_of_one : {X : Type 0} (n : ℕ) (g : X → List ℕ) (x : X) (before after : List X)
    → length (g x) ≡ n → within minus (g x) ≡ true
    → map g before ≡ replicate (length before) (replicate n none) → map g after ≡ replicate (length after) (replicate n none)
    → combined_over n (map g (before ++ (x ∷ after))) ≡ g x
combined_of_one n g x before after h w p q =
    rw (map-append, p, q)
    (silent_before n (length before) (g x ∷ replicate (length after) (replicate n none))
    ∙ (silent_after n (length after) (g x) ∙ combined_alone n (g x) h w))

-- ---- Pulses of one polarity: a pulse where any has one.
pub de_morgan : (a b : Bool) → (not a || not b) ≡ not (a && b)
de_morgan true b = refl
de_morgan false b = refl

sent_pulse : {X : Type 0} (s t : ℕ) (p : X → Bool) (xs : List X) → eqb none t ≡ false → eqb s t ≡ true
    → is_sent t (map (λ x. cond (p x) none s) xs) ≡ not (all_of p xs)
unfolding is_sent all_of
sent_pulse s t p [] h e = refl
sent_pulse s t p (x ∷ xs) h e =
    rw (sent_pulse s t p xs h e, ← de_morgan (p x) (all_of p xs))
    (by_test (p x) (λ u. rw (u, h)) (λ u. rw (u, e)))

sent_other : {X : Type 0} (s t : ℕ) (p : X → Bool) (xs : List X) → eqb none t ≡ false → eqb s t ≡ false
    → is_sent t (map (λ x. cond (p x) none s) xs) ≡ false
unfolding is_sent
sent_other s t p [] h e = refl
sent_other s t p (x ∷ xs) h e = rw (sent_other s t p xs h e) (by_test (p x) (λ u. rw (u, h)) (λ u. rw (u, e)))

pub combined_plus : {X : Type 0} (p : X → Bool) (xs : List X) → combined_symbol (map (λ x. cond (p x) none plus) xs) ≡ cond (all_of p xs) none plus
combined_plus p xs =
    rw (sent_pulse plus plus p xs refl refl, sent_other plus minus p xs refl refl)
    (by_test (all_of p xs) (λ t. rw t) (λ t. rw t))

pub combined_minus : {X : Type 0} (p : X → Bool) (xs : List X) → combined_symbol (map (λ x. cond (p x) none minus) xs) ≡ cond (all_of p xs) none minus
combined_minus p xs =
    rw (sent_pulse minus minus p xs refl refl, sent_other minus plus p xs refl refl)
    (by_test (all_of p xs) (λ t. rw t) (λ t. rw t))
