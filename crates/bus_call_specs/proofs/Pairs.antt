-- Two lists that go together, element by element.
use mathlib.Core.Path.{◌≡◌, refl}
use mathlib.Core.List.{List, [], ◌∷◌, map}

pub data Both {A : Type 0} (R : A → A → Type 0) : List A → List A → Type 0 where
  none : Both R [] []
  one : {x y : A} {xs ys : List A} → R x y → Both R xs ys → Both R (x ∷ xs) (y ∷ ys)

-- what is made of each
pub both_map : {A B : Type 0} (R : A → A → Type 0) (Q : B → B → Type 0) (f g : A → B) → ((x y : A) → R x y → Q (f x) (g y)) → {xs ys : List A} →
    Both R xs ys → Both Q (map f xs) (map g ys)
both_map R Q f g h none = none
both_map R Q f g h (one {x} {y} r rs) = one (h x y r) (both_map R Q f g h rs)

-- .. where it is equal
pub both_equal : {A B : Type 0} (R : A → A → Type 0) (f g : A → B) → ((x y : A) → R x y → f x ≡ g y) → {xs ys : List A} →
    Both R xs ys → map f xs ≡ map g ys
both_equal R f g h none = refl
both_equal R f g h (one {x} {y} r rs) = rw (h x y r, both_equal R f g h rs)
