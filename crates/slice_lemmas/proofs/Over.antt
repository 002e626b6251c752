-- What a loop over a slice has made of it, and gathered from it, when j elements are done, and when all are.
use mathlib.Core.Path.{◌≡◌, refl, sym, ◌∙◌, ap, subst}
use Prim.Native.Nat.{ℕ, zero, suc, ◌+◌, ◌<◌, ◌≤◌}
use native.Mathlib.Nat.{not-suc-le-zero, le_of_suc-le-suc, suc_inj, suc-ne-zero}
use native.Mathlib.Numerals.{add-one}
use native.Mathlib.Omega.{arith}
use mathlib.Core.List.{List, [], ◌∷◌}
use lib.ListN.{length, get_or, set}
use Rattle.std.proofs.Common.{fold, replicate}
use Rattle.slice_lemmas.specs.Over.{map_from, fold_from}

-- the index of the element after j more, from k
abbrev past : ℕ → ℕ → ℕ
past zero k = k
past (suc j) k = past j (suc k)

past_is : (j k : ℕ) → past j k ≡ j + k
past_is zero k = omega arith
past_is (suc j) k = past_is j (suc k) ∙ omega arith

past_zero : (j : ℕ) → past j 0 ≡ j
past_zero j = past_is j 0 ∙ omega arith

-- as many as there were
pub length_mapped : {S B : Type 0} (f : ℕ → S → B) (k : ℕ) (ys : List S) → length (map_from f k ys) ≡ length ys
unfolding map_from
length_mapped f k [] = refl
length_mapped f k (y ∷ ys) = ap suc (length_mapped f _ ys)

-- ---- Each element is changed where it stands.
module _ {S : Type 0} (f : ℕ → S → S) where
  -- the first j elements went through f
  abbrev pub upto : ℕ → ℕ → List S → List S
  upto zero k ys = ys
  upto (suc j) k [] = []
  upto (suc j) k (y ∷ ys) = f k y ∷ upto j (suc k) ys

  upto_length : (j k : ℕ) (ys : List S) → length (upto j k ys) ≡ length ys
  upto_length zero k ys = refl
  upto_length (suc j) k [] = refl
  upto_length (suc j) k (y ∷ ys) = ap suc (upto_length j (suc k) ys)

  -- of a list that is known to be this one
  pub as_long : (j : ℕ) (ys xs : List S) → xs ≡ upto j 0 ys → length xs ≡ length ys
  as_long j ys xs e = ap length e ∙ upto_length j 0 ys

  upto_at : (j k : ℕ) (ys : List S) (d : S) → get_or (upto j k ys) j d ≡ get_or ys j d
  upto_at zero k ys d = refl
  upto_at (suc j) k [] d = refl
  upto_at (suc j) k (y ∷ ys) d = upto_at j (suc k) ys d

  upto_set : (j k : ℕ) (ys : List S) (d : S) → j < length ys
      → set (upto j k ys) j (f (past j k) (get_or ys j d)) ≡ upto (suc j) k ys
  upto_set j k [] d l = absurd (not-suc-le-zero l)
  upto_set zero k (y ∷ ys) d l = refl
  upto_set (suc j) k (y ∷ ys) d l = ap (λ (zs : List S). f k y ∷ zs) (upto_set j (suc k) ys d (le_of_suc-le-suc l))

  -- f of element j, as it is found, put at j
  one_more : (j : ℕ) (ys : List S) (d : S) → j < length ys
      → set (upto j 0 ys) j (f j (get_or (upto j 0 ys) j d)) ≡ upto (j + 1) 0 ys
  one_more j ys d l =
      ap (λ (y : S). set (upto j 0 ys) j (f j y)) (upto_at j 0 ys d)
      ∙ ap (λ (i : ℕ). set (upto j 0 ys) j (f i (get_or ys j d))) (sym (past_zero j))
      ∙ upto_set j 0 ys d l ∙ ap (λ (i : ℕ). upto i 0 ys) (sym (add-one j))

  pub put_next : (j : ℕ) (ys xs : List S) (d y : S) → xs ≡ upto j 0 ys → j < length xs → y ≡ f j (get_or xs j d)
      → set xs j y ≡ upto (j + 1) 0 ys
  put_next j ys xs d y e l is =
      ap (set xs j) is ∙ ap (λ (zs : List S). set zs j (f j (get_or zs j d))) e
      ∙ one_more j ys d (subst (λ (m : ℕ). j < m) (as_long j ys xs e) l)

  upto_past : (j k : ℕ) (ys : List S) → length ys ≤ j → upto j k ys ≡ map_from f k ys
  unfolding map_from
  upto_past zero k [] l = refl
  upto_past zero k (y ∷ ys) l = absurd (not-suc-le-zero l)
  upto_past (suc j) k [] l = refl
  upto_past (suc j) k (y ∷ ys) l = ap (λ (zs : List S). f k y ∷ zs) (upto_past j (suc k) ys (le_of_suc-le-suc l))

  -- once every element is done
  pub put_all : (j : ℕ) (ys xs : List S) → xs ≡ upto j 0 ys → length xs ≤ j → xs ≡ map_from f 0 ys
  put_all j ys xs e l = e ∙ upto_past j 0 ys (subst (λ (m : ℕ). m ≤ j) (as_long j ys xs e) l)

-- ---- Something is gathered from the elements.
module _ {S A : Type 0} (g : ℕ → A → S → A) where
  -- what the first j elements give
  abbrev pub acc : A → ℕ → ℕ → List S → A
  acc a zero k ys = a
  acc a (suc j) k [] = a
  acc a (suc j) k (y ∷ ys) = acc (g k a y) j (suc k) ys

  acc_next : (a : A) (j k : ℕ) (ys : List S) (d : S) → j < length ys → g (past j k) (acc a j k ys) (get_or ys j d) ≡ acc a (suc j) k ys
  acc_next a j k [] d l = absurd (not-suc-le-zero l)
  acc_next a zero k (y ∷ ys) d l = refl
  acc_next a (suc j) k (y ∷ ys) d l = acc_next (g k a y) j (suc k) ys d (le_of_suc-le-suc l)

  pub acc_all : (a : A) (k : ℕ) (ys : List S) → acc a (length ys) k ys ≡ fold_from g k a ys
  unfolding fold_from
  acc_all a k [] = refl
  acc_all a k (y ∷ ys) = acc_all (g k a y) (suc k) ys

  -- what element j adds, where it is only read
  pub one_read : (a : A) (j : ℕ) (ys : List S) (d : S) → j < length ys → g j (acc a j 0 ys) (get_or ys j d) ≡ acc a (j + 1) 0 ys
  one_read a j ys d l =
      ap (λ (i : ℕ). g i (acc a j 0 ys) (get_or ys j d)) (sym (past_zero j))
      ∙ acc_next a j 0 ys d l ∙ ap (λ (i : ℕ). acc a i 0 ys) (sym (add-one j))

  pub read_next : (a b : A) (j : ℕ) (ys : List S) (d : S) → b ≡ acc a j 0 ys → j < length ys → g j b (get_or ys j d) ≡ acc a (j + 1) 0 ys
  read_next a b j ys d is l = ap (λ (c : A). g j c (get_or ys j d)) is ∙ one_read a j ys d l

  -- and where the elements before it are changed by f
  pub gather_next : (f : ℕ → S → S) (a b : A) (j : ℕ) (ys xs : List S) (d : S) → b ≡ acc a j 0 ys → xs ≡ upto f j 0 ys → j < length xs
      → g j b (get_or xs j d) ≡ acc a (j + 1) 0 ys
  gather_next f a b j ys xs d is e l =
      ap (λ (zs : List S). g j b (get_or zs j d)) e ∙ ap (g j b) (upto_at f j 0 ys d)
      ∙ read_next a b j ys d is (subst (λ (m : ℕ). j < m) (as_long f j ys xs e) l)

  acc_past : (a : A) (j k : ℕ) (ys : List S) → length ys ≤ j → acc a j k ys ≡ fold_from g k a ys
  unfolding fold_from
  acc_past a zero k [] l = refl
  acc_past a zero k (y ∷ ys) l = absurd (not-suc-le-zero l)
  acc_past a (suc j) k [] l = refl
  acc_past a (suc j) k (y ∷ ys) l = acc_past (g k a y) j (suc k) ys (le_of_suc-le-suc l)

  -- once every element is done
  pub gather_all : (a b : A) (j : ℕ) (ys : List S) → b ≡ acc a j 0 ys → length ys ≤ j → b ≡ fold_from g 0 a ys
  gather_all a b j ys is l = is ∙ acc_past a j 0 ys l

-- ---- A second list is filled from the first.
module _ {S B : Type 0} (h : ℕ → S → B) where
  -- a list of which the first j elements are what h makes of the first list's
  abbrev pub filled : ℕ → ℕ → List S → List B → List B
  filled zero k ys zs = zs
  filled (suc j) k [] zs = zs
  filled (suc j) k (y ∷ ys) [] = []
  filled (suc j) k (y ∷ ys) (z ∷ zs) = h k y ∷ filled j (suc k) ys zs

  filled_length : (j k : ℕ) (ys : List S) (zs : List B) → length (filled j k ys zs) ≡ length zs
  filled_length zero k ys zs = refl
  filled_length (suc j) k [] zs = refl
  filled_length (suc j) k (y ∷ ys) [] = refl
  filled_length (suc j) k (y ∷ ys) (z ∷ zs) = ap suc (filled_length j (suc k) ys zs)

  filled_set : (j k : ℕ) (ys : List S) (zs : List B) (d : S) → j < length ys → j < length zs
      → set (filled j k ys zs) j (h (past j k) (get_or ys j d)) ≡ filled (suc j) k ys zs
  filled_set j k [] zs d l m = absurd (not-suc-le-zero l)
  filled_set j k (y ∷ ys) [] d l m = absurd (not-suc-le-zero m)
  filled_set zero k (y ∷ ys) (z ∷ zs) d l m = refl
  filled_set (suc j) k (y ∷ ys) (z ∷ zs) d l m =
      ap (λ (us : List B). h k y ∷ us) (filled_set j (suc k) ys zs d (le_of_suc-le-suc l) (le_of_suc-le-suc m))

  one_filled : (f : ℕ → S → S) (j : ℕ) (ys : List S) (zs : List B) (d : S) → j < length ys → j < length zs
      → set (filled j 0 ys zs) j (h j (get_or (upto f j 0 ys) j d)) ≡ filled (j + 1) 0 ys zs
  one_filled f j ys zs d l m =
      ap (λ (y : S). set (filled j 0 ys zs) j (h j y)) (upto_at f j 0 ys d)
      ∙ ap (λ (i : ℕ). set (filled j 0 ys zs) j (h i (get_or ys j d))) (sym (past_zero j))
      ∙ filled_set j 0 ys zs d l m ∙ ap (λ (i : ℕ). filled i 0 ys zs) (sym (add-one j))

  pub fill_next : (f : ℕ → S → S) (j : ℕ) (ys xs : List S) (zs us : List B) (d : S) (u : B) → us ≡ filled j 0 ys zs → xs ≡ upto f j 0 ys
      → j < length xs → j < length us → u ≡ h j (get_or xs j d) → set us j u ≡ filled (j + 1) 0 ys zs
  fill_next f j ys xs zs us d u eu e l m is =
      ap (set us j) is ∙ ap (λ (vs : List S). set us j (h j (get_or vs j d))) e
      ∙ ap (λ (vs : List B). set vs j (h j (get_or (upto f j 0 ys) j d))) eu
      ∙ one_filled f j ys zs d (subst (λ (n : ℕ). j < n) (as_long f j ys xs e) l)
      (subst (λ (n : ℕ). j < n) (ap length eu ∙ filled_length j 0 ys zs) m)

  filled_past : (j k : ℕ) (ys : List S) (zs : List B) → length zs ≡ length ys → length ys ≤ j → filled j k ys zs ≡ map_from h k ys
  unfolding map_from
  filled_past zero k [] [] e l = refl
  filled_past zero k [] (z ∷ zs) e l = absurd (suc-ne-zero (length zs) e)
  filled_past zero k (y ∷ ys) zs e l = absurd (not-suc-le-zero l)
  filled_past (suc j) k [] [] e l = refl
  filled_past (suc j) k [] (z ∷ zs) e l = absurd (suc-ne-zero (length zs) e)
  filled_past (suc j) k (y ∷ ys) [] e l = absurd (suc-ne-zero (length ys) (sym e))
  filled_past (suc j) k (y ∷ ys) (z ∷ zs) e l =
      ap (λ (us : List B). h k y ∷ us) (filled_past j (suc k) ys zs (suc_inj e) (le_of_suc-le-suc l))

  -- once every element is done
  pub fill_all : (j : ℕ) (ys : List S) (zs us : List B) → us ≡ filled j 0 ys zs → length zs ≡ length ys → length ys ≤ j
      → us ≡ map_from h 0 ys
  fill_all j ys zs us eu e l = eu ∙ filled_past j 0 ys zs e l

-- ---- Where the index says nothing, the words of the library.
-- what each adds to what was gathered
pub folded : {S A : Type 0} (g : ℕ → A → S → A) (h : A → S → A) → ((i : ℕ) (a : A) (y : S) → g i a y ≡ h a y)
    → (k : ℕ) (a : A) (ys : List S) → fold_from g k a ys ≡ fold h a ys
unfolding fold_from
folded g h same k a [] = refl
folded g h same k a (y ∷ ys) = rw (same k a y) (folded g h same (suc k) (h a y) ys)

-- one value in every place
pub all_one : {S B : Type 0} (b : B) (k : ℕ) (ys : List S) → map_from (λ (i : ℕ) (y : S). b) k ys ≡ replicate (length ys) b
unfolding map_from
all_one {B = B} b k [] = refl
all_one {B = B} b k (y ∷ ys) = ap (λ (bs : List B). b ∷ bs) (all_one b (suc k) ys)
