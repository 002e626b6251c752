-- Rules: the image of a body: what a terminal sends on D for it (document 01, "D access (6.1)").
-- Interface: `flag`, `stuff`, `image`, `longest_body`, `shortest_image`, `longest_image`, `IsBody`,
-- `all_octets`, `is_body`. Assumes nothing.
use Rattle.std.specs.Prelude.{Bool, true, false, cond, List, [], ◌∷◌, ◌++◌, ℕ, suc, ◌+◌, ◌*◌, ◌/◌, ◌≤◌, ◌<◌, eqb, leb, ltb, length, get_or}
use Rattle.hdlc.specs.Bits.{body_bits}

-- "01111110"
abbrev pub flag : List Bool
flag = false ∷ true ∷ true ∷ true ∷ true ∷ true ∷ true ∷ false ∷ []

-- "with a 0 after every five 1s": k is how many 1s stand directly before
unfoldable pub stuff : ℕ → List Bool → List Bool
stuff k [] = []
stuff k (false ∷ bs) = false ∷ stuff 0 bs
stuff k (true ∷ bs) = cond (eqb k 4) (true ∷ false ∷ stuff 0 bs) (true ∷ stuff (suc k) bs)

-- "Its image is 01111110, the body with a 0 after every five 1s, 01111110"
unfoldable pub image : List ℕ → List Bool
image body = flag ++ (stuff 0 (body_bits body) ++ flag)

-- the most octets of a body
abbrev pub longest_body : ℕ
longest_body = 266

-- the bits of the shortest image: two flags and one octet
abbrev pub shortest_image : ℕ
shortest_image = 16 + 8

-- the bits of the longest image, 2,569: two flags, the longest body and a 0 after every five 1s of
-- it
abbrev pub longest_image : ℕ
longest_image = 16 + 8 * longest_body + (8 * longest_body) / 5

-- "A body is 1 to 266 octets"
pub record IsBody (body : List ℕ) : Type 0 where
  pub some_octet : 1 ≤ length body
  pub at_most : length body ≤ longest_body
  pub octet : (i : ℕ) → get_or body i 0 < 256

-- the same as a test (`is_IsBody`, `body_is` of proofs/ImageLaws.antt)
unfoldable pub all_octets : List ℕ → Bool
all_octets [] = true
all_octets (o ∷ os) = cond (ltb o 256) (all_octets os) false

unfoldable pub is_body : List ℕ → Bool
is_body body = cond (leb 1 (length body)) (cond (leb (length body) longest_body) (all_octets body) false) false
