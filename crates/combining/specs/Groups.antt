-- Laws: combining by groups: lists of symbols that are laid out in groups of the same widths are
-- combined group by group.
-- Interface: none but for laws and proofs. Assumes nothing.
use Rattle.std.specs.Prelude.{◌≡◌, Bool, true, ◌&&◌, List, [], ◌∷◌, ◌++◌, map, ℕ, ◌+◌, length}
use Rattle.combining.specs.Combine.{combined_over}

-- `Combines xs gs n l`: the groups gs have n symbols, whoever of xs sends them, and what xs give
-- together in each is laid out as l.
pub data Combines {X : Type 0} (xs : List X) : List (X → List ℕ) → ℕ → List ℕ → Type 0 where
  end : Combines xs [] 0 []
  group : {g : X → List ℕ} {gs : List (X → List ℕ)} {m n : ℕ} {r rs : List ℕ}
      → ((x : X) → length (g x) ≡ m) → combined_over m (map g xs) ≡ r → Combines xs gs n rs → Combines xs (g ∷ gs) (m + n) (r ++ rs)

-- Whether a bit that each has, given by p, is 1 for all.
unfoldable pub all_of : {X : Type 0} → (X → Bool) → List X → Bool
all_of p [] = true
all_of p (x ∷ xs) = p x && all_of p xs

-- The groups of what is sent with fields that depend on the sender.
abbrev pub of_sender : {X F : Type 0} → (X → F) → List (F → List ℕ) → List (X → List ℕ)
of_sender fields gs = map (λ g x. g (fields x)) gs
