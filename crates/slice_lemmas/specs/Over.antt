-- How the code goes: lists walked with an index: what becomes of each element, and what is gathered
-- from all of them, first to last.
-- Interface: every name. Assumes nothing.
use Rattle.std.specs.Prelude.{List, [], ◌∷◌, ℕ, suc}

unfoldable pub map_from : {S B : Type 0} → (ℕ → S → B) → ℕ → List S → List B
map_from f k [] = []
map_from f k (y ∷ ys) = f k y ∷ map_from f (suc k) ys

unfoldable pub fold_from : {S A : Type 0} → (ℕ → A → S → A) → ℕ → A → List S → A
fold_from g k a [] = a
fold_from g k a (y ∷ ys) = fold_from g (suc k) (g k a y) ys
