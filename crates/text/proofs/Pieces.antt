-- Laws of pieces, and how a loop over a text comes on by an octet.
use mathlib.Core.Path.{◌≡◌, refl, sym, ap, ◌∙◌}
use mathlib.Core.Bool.{Bool, true, false, cond, ◌&&◌}
use mathlib.Core.List.{List, [], ◌∷◌}
use Prim.Native.Nat.{ℕ, zero, suc, ◌+◌, ◌-◌, ◌≤◌, ◌<◌}
use native.Mathlib.Numerals.{add-one}
use native.Mathlib.Omega.{arith}
use lib.Dec.{eqb, ltb, leb-suc-suc}
use lib.ListN.{length, get_or, take, drop, length-drop, drop_of_length-le}
use lib.Seq.{drop-cons, drop-drop}
use borrow.Author.Tests.{eq-eqb, ne_eqb, lt-ltb, le-ltb}
use Rattle.std.specs.List.{list_all}
use Rattle.std.proofs.lemmas.List.Recursion.{same_from_clauses}
use Rattle.test_lemmas.proofs.ByCases.{by_test, clash}
use Rattle.symbols.proofs.Scan.{Rest, rest_here, rest_next, rest_done, Tested, tested_next, tested_done, same_symbols_short}
use Rattle.text.specs.Text.{onto, split, upto, same, all, is_other}

-- ---- Where a piece ends.
pub upto_le : (sep : ℕ) (t : List ℕ) → upto sep t ≤ length t
unfolding upto
upto_le sep [] = omega arith
upto_le sep (c ∷ t) = by_test (eqb c sep) (λ e. simp e (omega arith)) (λ e. simp e (omega (arith, upto_le sep t)))

module _ (sep : ℕ) (t : List ℕ) (i : ℕ) where
  pub upto_stop : i < length t → get_or t i 0 ≡ sep → upto sep (drop i t) ≡ 0
  unfolding upto
  upto_stop h e = rw (drop-cons t i 0 h) (simp (eq-eqb (get_or t i 0) sep e))

  pub upto_go : i < length t → (get_or t i 0 ≡ sep → ⊥) → upto sep (drop i t) ≡ suc (upto sep (drop (i + 1) t))
  unfolding upto
  upto_go h e = rw (drop-cons t i 0 h, add-one i) (simp (ne_eqb (get_or t i 0) sep e))

  pub upto_end : length t ≤ i → upto sep (drop i t) ≡ 0
  unfolding upto
  upto_end h = rw (drop_of_length-le t h)

  -- a piece that starts in the text ends there
  pub upto_within : i ≤ length t → i + upto sep (drop i t) ≤ length t
  upto_within h = omega (arith, upto_le sep (drop i t), length-drop i t)

-- ---- Pieces.
onto_some : (c : ℕ) (ps : List (List ℕ)) → 0 < length (onto c ps)
unfolding onto
onto_some c [] = omega arith
onto_some c (p ∷ ps) = omega arith

pub split_some : (sep : ℕ) (t : List ℕ) → 0 < length (split sep t)
unfolding split
split_some sep [] = omega arith
split_some sep (c ∷ t) = by_test (eqb c sep) (λ e. simp e (omega arith)) (λ e. simp e (onto_some c (split sep t)))

-- the first piece, and the pieces after its separator
pub split_upto : (sep : ℕ) (t : List ℕ)
    → split sep t ≡ take (upto sep t) t ∷ cond (ltb (upto sep t) (length t)) (split sep (drop (suc (upto sep t)) t)) []
unfolding split upto onto
split_upto sep [] = refl
split_upto sep (c ∷ t) =
    by_test (eqb c sep)
    (λ e. simp (e, lt-ltb 0 (suc (length t)) (omega arith)))
    (λ e. simp (e, split_upto sep t)
    (ap (λ (b : Bool). (c ∷ take (upto sep t) t) ∷ cond b (split sep (drop (suc (upto sep t)) t)) [])
    (sym (leb-suc-suc (suc (upto sep t)) (length t)))))

module _ (sep : ℕ) (t : List ℕ) where
  pub piece_here : get_or (split sep t) 0 [] ≡ take (upto sep t) t
  piece_here = ap (λ (ps : List (List ℕ)). get_or ps 0 []) (split_upto sep t)

  pub piece_next : (k : ℕ) → upto sep t < length t → get_or (split sep t) (suc k) [] ≡ get_or (split sep (drop (suc (upto sep t)) t)) k []
  piece_next k h = ap (λ (ps : List (List ℕ)). get_or ps (suc k) []) (split_upto sep t) ∙ simp (lt-ltb (upto sep t) (length t) h)

  pub piece_none : (k : ℕ) → length t ≤ upto sep t → get_or (split sep t) (suc k) [] ≡ []
  piece_none k h = ap (λ (ps : List (List ℕ)). get_or ps (suc k) []) (split_upto sep t) ∙ simp (le-ltb (upto sep t) (length t) h)

-- A piece is no longer than its text.
skip_le : (ps : List (List ℕ)) (n : ℕ) → ((k : ℕ) → length (get_or ps k []) ≤ n) → (k : ℕ) → length (get_or ([] ∷ ps) k []) ≤ suc n
skip_le ps n h zero = omega arith
skip_le ps n h (suc k) = omega (arith, h k)

onto_le : (c : ℕ) (ps : List (List ℕ)) (n : ℕ) → ((k : ℕ) → length (get_or ps k []) ≤ n) → (k : ℕ) → length (get_or (onto c ps) k []) ≤ suc n
unfolding onto
onto_le c [] n h zero = omega arith
onto_le c [] n h (suc k) = omega arith
onto_le c (p ∷ ps) n h zero = omega (arith, h 0)
onto_le c (p ∷ ps) n h (suc k) = omega (arith, h (suc k))

pub piece_le : (sep : ℕ) (t : List ℕ) (k : ℕ) → length (get_or (split sep t) k []) ≤ length t
unfolding split
piece_le sep [] zero = omega arith
piece_le sep [] (suc k) = omega arith
piece_le sep (c ∷ t) k =
    by_test (eqb c sep)
    (λ e. rw e (skip_le (split sep t) (length t) (λ j. piece_le sep t j) k))
    (λ e. rw e (onto_le c (split sep t) (length t) (λ j. piece_le sep t j) k))

-- ---- The pieces of a text from `from` on, the first of which ends at `end`.
module _ (sep : ℕ) (line : List ℕ) (from end : ℕ) (ends : end ≡ from + upto sep (drop from line)) where
  -- the first
  pub piece_at : take (end - from) (drop from line) ≡ get_or (split sep (drop from line)) 0 []
  piece_at = let w : end - from ≡ upto sep (drop from line) = omega arith in rw w (sym (piece_here sep (drop from line)))

  -- those after its separator
  pub piece_after : (k : ℕ) → end < length line → get_or (split sep (drop from line)) (suc k) [] ≡ get_or (split sep (drop (end + 1) line)) k []
  piece_after k l =
      let v : end + 1 ≡ from + suc (upto sep (drop from line)) = omega arith in
      piece_next sep (drop from line) k (omega (arith, length-drop from line))
      ∙ rw (v, drop-drop (suc (upto sep (drop from line))) from line)

  -- there is no other
  pub piece_past : (k : ℕ) → length line ≤ end → get_or (split sep (drop from line)) (suc k) [] ≡ []
  piece_past k l = piece_none sep (drop from line) k (omega (arith, length-drop from line))

-- ---- A text cut at its separators, the piece at `from` ending at `end`.
module _ (sep : ℕ) (t : List ℕ) (from end : ℕ) (ends : end ≡ from + upto sep (drop from t)) where
  pub cut_here : end < length t → split sep (drop from t) ≡ take (end - from) (drop from t) ∷ split sep (drop (end + 1) t)
  cut_here h =
      let w : end - from ≡ upto sep (drop from t) = omega arith in
      let v : end + 1 ≡ from + suc (upto sep (drop from t)) = omega arith in
      let l : upto sep (drop from t) < length (drop from t) = omega (arith, length-drop from t) in
      split_upto sep (drop from t) ∙ simp (lt-ltb _ _ l) (rw (w, v, drop-drop (suc (upto sep (drop from t))) from t))

  pub cut_last : length t ≤ end → length (split sep (drop from t)) ≡ 1
  cut_last h =
      let l : length (drop from t) ≤ upto sep (drop from t) = omega (arith, length-drop from t) in
      ap length (split_upto sep (drop from t)) ∙ simp (le-ltb _ _ l)

-- ---- A loop that tests every octet: it stops at the first that fails, or goes through to the end.
module _ (p : ℕ → Bool) {t : List ℕ} {i : ℕ} (rest : Rest (all p) t i) where
  pub all_go : i < length t → p (get_or t i 0) ≡ true → Rest (all p) t (i + 1)
  unfolding all
  all_go h e = rest_next rest h (rw e)

  pub all_stop : i < length t → p (get_or t i 0) ≡ false → all p t ≡ false
  unfolding all
  all_stop h e = rest_here rest h ∙ rw e

  pub all_end : length t ≤ i → all p t ≡ true
  unfolding all
  all_end h = rest_done rest h

module _ (p : ℕ → Bool) {t : List ℕ} {i : ℕ} {ok : Bool} (passed : Tested (all p) t i ok) where
  pub all_next : (b : Bool) → i < length t → b ≡ p (get_or t i 0) → Tested (all p) t (i + 1) (ok && b)
  unfolding all
  all_next b h e = tested_next passed b h (rw e)

  pub all_done : length t ≤ i → ok ≡ all p t
  unfolding all
  all_done h = sym (tested_done passed refl h)

-- ---- Pieces that are passed block by block.
-- no separator among the first n octets
pub upto_past : (sep n : ℕ) (t : List ℕ) → n ≤ length t → all (is_other sep) (take n t) ≡ true → n ≤ upto sep t
unfolding all upto
upto_past sep zero t h e = omega arith
upto_past sep (suc n) [] h e = absurd (omega arith)
upto_past sep (suc n) (c ∷ t) h e =
    by_test (eqb c sep) (λ d. clash true refl (sym (simp d at e)))
    (λ d. simp d (omega (arith, upto_past sep n t (omega arith) (simp d at e))))

-- n octets on, the piece ends where it did
upto_on : (sep n : ℕ) (t : List ℕ) → n ≤ upto sep t → upto sep t ≡ n + upto sep (drop n t)
unfolding upto
upto_on sep zero t h = omega arith
upto_on sep (suc n) [] h = absurd (omega arith)
upto_on sep (suc n) (c ∷ t) h =
    by_test (eqb c sep) (λ d. absurd (omega (arith, simp d at h)))
    (λ d. simp d (omega (arith, upto_on sep n t (omega (arith, simp d at h)))))

pub upto_skip : (sep n i : ℕ) (t : List ℕ) → n ≤ upto sep (drop i t) → i + n + upto sep (drop (i + n) t) ≡ i + upto sep (drop i t)
upto_skip sep n i t h = omega (arith, upto_on sep n (drop i t) h, ap (λ (l : List ℕ). upto sep l) (drop-drop n i t))

-- What std's `all` answers with such a test.
pub all_listed : (p : ℕ → Bool) (t : List ℕ) → all p t ≡ list_all p t
unfolding all
all_listed p t = same_from_clauses (all p) (list_all p) (λ c b. p c && b) refl (λ _ _. refl) (λ _ _. refl) t

-- ---- Two texts.
pub same_length : (a b : List ℕ) → (length a ≡ length b → ⊥) → same a b ≡ false
same_length a b h = same_symbols_short a b h
