-- Rules: the network end's reader of D, over the raw bits that it has read (document 01, "D access
-- (6.1)", second paragraph; docs/DECISIONS.md, readings 7 to 9).
-- Interface: `Reading`, `Said`, `nothing`, `torn`, `heard`, `cleared`, `starts_with`, `unstuff`,
-- `reversed`, `rest`, `contents`, `between`, `aborted`, `says`, `said`, `next`. Assumes nothing.
use Rattle.std.specs.Prelude.{Bool, true, false, cond, List, [], ◌∷◌, ◌++◌, ℕ, suc, ◌*◌, ◌/◌, ◌%◌, eqb, leb, ltb, length, drop}
use Rattle.hdlc.specs.Bits.{same_bit, octets}
use Rattle.hdlc.specs.Image.{flag, longest_body}

-- What the reader has read. `raw` holds the bits newest first, so that a new bit is put before
-- them. They are those since the last flag, of which the closing 0 counts because the next flag may
-- share it, or, while the reader waits for a flag, those since it was cleared or read seven 1s. A
-- flag (01111110) and seven 1s read the same both ways: so `raw` is compared with them as it is.
pub record Reading : Type 0 where
  pub opened : Bool
  pub raw : List Bool

-- what the reader says to a bit
pub data Said : Type 0 where
  nothing torn : Said
  heard : List ℕ → Said

-- a fresh or cleared reader has seen no bit, and waits for a flag
abbrev pub cleared : Reading
cleared = record { opened = false; raw = [] }

-- Whether a list begins with the given bits. `starts_with flag raw` says that the bits read last are
-- a flag, and `starts_with seven_ones raw` that they are seven 1s: `raw` is newest first, but a flag
-- (01111110) and seven 1s read the same both ways, so that the comparison with `raw` is right.
unfoldable pub starts_with : List Bool → List Bool → Bool
starts_with [] bs = true
starts_with (p ∷ ps) [] = false
starts_with (p ∷ ps) (b ∷ bs) = cond (same_bit p b) (starts_with ps bs) false

abbrev pub seven_ones : List Bool
seven_ones = true ∷ true ∷ true ∷ true ∷ true ∷ true ∷ true ∷ []

-- "inserted 0s removed": a 0 after five 1s; k is how many 1s stand directly before
unfoldable pub unstuff : ℕ → List Bool → List Bool
unstuff k [] = []
unstuff k (true ∷ bs) = true ∷ unstuff (suc k) bs
unstuff k (false ∷ bs) = cond (eqb k 5) (unstuff 0 bs) (false ∷ unstuff 0 bs)

-- a list turned round: raw bits oldest first
unfoldable pub reversed : List Bool → List Bool
reversed [] = []
reversed (b ∷ bs) = reversed bs ++ (b ∷ [])

-- all but the first
unfoldable pub rest : List Bool → List Bool
rest [] = []
rest (b ∷ bs) = bs

-- the bits between the opening flag and what closes the frame, oldest first and inserted 0s
-- removed; the oldest raw bit is the opening flag's 0
unfoldable pub contents : List Bool → List Bool
contents raw = unstuff 0 (rest (reversed raw))

-- what lies between two flags: "whole octets, 1 to 266, are heard. Fewer than 8 bits are nothing.
-- All else is torn"
unfoldable pub between : List Bool → Said
between bs =
    cond (ltb (length bs) 8) nothing
    (cond (eqb (length bs % 8) 0) (cond (leb (length bs) (8 * longest_body)) (heard (octets (length bs / 8) bs)) torn) torn)

-- what lies before seven 1s: "seven 1s after 8 or more bits"
unfoldable pub aborted : List Bool → Said
aborted bs = cond (ltb (length bs) 8) nothing torn

-- what the reader says when `raw`, newest first, are the bits with the one that has just been read;
-- while the reader waits for a flag it says nothing
unfoldable pub says : Bool → List Bool → Said
says false raw = nothing
says true raw =
    cond (starts_with flag raw) (between (contents (drop 8 raw)))
    (cond (starts_with seven_ones raw) (aborted (contents (drop 7 raw))) nothing)

unfoldable pub said : Reading → Bool → Said
said s b = says s.opened (b ∷ s.raw)

-- "A closing flag also opens, and two flags may share a 0; after seven 1s the reader waits for a
-- flag"
unfoldable pub next : Reading → Bool → Reading
next s b =
    cond (starts_with flag (b ∷ s.raw)) (record { opened = true; raw = false ∷ [] })
    (cond (starts_with seven_ones (b ∷ s.raw)) cleared (record { opened = s.opened; raw = b ∷ s.raw }))
