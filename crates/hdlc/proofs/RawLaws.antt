-- The raw bits since a flag, newest first and without the flag's 0: what data bits they hold.
use mathlib.Core.Bool.{Bool, true, false}
use mathlib.Core.List.{List, [], ◌∷◌, ◌++◌, append_assoc, append-nil}
use mathlib.Core.Path.{◌≡◌, refl, ap, sym, ◌∙◌}
use Prim.Native.Nat.{ℕ, zero, suc}
use lib.Dec.{eqb}
use lib.ListN.{drop, replicate}
use Rattle.test_lemmas.proofs.ByCases.{by_test}
use Rattle.hdlc.specs.Ones.{ones_after, leading}
use Rattle.hdlc.specs.Reading.{unstuff, reversed, rest, contents}
use Rattle.hdlc.proofs.ReadingLaws.{leading_reversed, reversed_twice, reversed_zero}

-- the data bits
unfoldable pub data_of : List Bool → List Bool
data_of bs = unstuff 0 (reversed bs)

pub unstuff_append : (k : ℕ) (xs ys : List Bool) → unstuff k (xs ++ ys) ≡ unstuff k xs ++ unstuff (ones_after k xs) ys
unfolding unstuff ones_after
unstuff_append k [] ys = refl
unstuff_append k (true ∷ xs) ys = rw (unstuff_append (suc k) xs ys)
unstuff_append k (false ∷ xs) ys =
    by_test (eqb k 5) (λ e. simp (e, unstuff_append 0 xs ys)) (λ e. simp (e, unstuff_append 0 xs ys))

-- the 1s that came last
ones_reversed : (bs : List Bool) → ones_after 0 (reversed bs) ≡ leading bs
unfolding leading
ones_reversed bs = sym (leading_reversed (reversed bs) []) ∙ rw (append-nil, reversed_twice bs)

-- a bit more
data_cons : (b : Bool) (bs : List Bool) → data_of (b ∷ bs) ≡ data_of bs ++ unstuff (leading bs) (b ∷ [])
unfolding data_of reversed
data_cons b bs = rw (unstuff_append 0 (reversed bs) (b ∷ []), ones_reversed bs)

pub data_one : (bs : List Bool) → data_of (true ∷ bs) ≡ data_of bs ++ (true ∷ [])
unfolding unstuff
data_one bs = data_cons true bs

pub data_zero : (bs : List Bool) → eqb (leading bs) 5 ≡ false → data_of (false ∷ bs) ≡ data_of bs ++ (false ∷ [])
unfolding unstuff
data_zero bs e = data_cons false bs ∙ simp e

pub data_inserted : (bs : List Bool) → eqb (leading bs) 5 ≡ true → data_of (false ∷ bs) ≡ data_of bs
unfolding unstuff
data_inserted bs e = data_cons false bs ∙ simp (e, append-nil)

-- the flag's 0 is the oldest bit, also of what is left when bits are taken off
pub contents_drop : (k : ℕ) (bs : List Bool) → contents (drop k (bs ++ (false ∷ []))) ≡ data_of (drop k bs)
unfolding contents data_of reversed rest unstuff
contents_drop zero bs = rw (reversed_zero bs)
contents_drop (suc zero) [] = refl
contents_drop (suc (suc k)) [] = refl
contents_drop (suc k) (b ∷ bs) = contents_drop k bs

replicate_snoc : (n : ℕ) → replicate n true ++ (true ∷ []) ≡ true ∷ replicate n true
replicate_snoc zero = refl
replicate_snoc (suc n) = rw (replicate_snoc n)

-- before the 1s that came last
pub data_leading : (bs : List Bool) → data_of bs ≡ data_of (drop (leading bs) bs) ++ replicate (leading bs) true
unfolding leading
data_leading [] = sym (append-nil (data_of []))
data_leading (true ∷ bs) =
    data_one bs ∙ (ap (λ (l : List Bool). l ++ (true ∷ [])) (data_leading bs) ∙ simp (append_assoc, replicate_snoc))
data_leading (false ∷ bs) = sym (append-nil (data_of (false ∷ bs)))
