-- Calls: what the call that combines the eight terminals' lines is lent, and what it replies; what
-- a hit is lent.
-- Interface: `terminals`, `lines_length`, `rows`, `combine_fits`, `combined_reply`, `eight`,
-- `hit_fits`. Assumes nothing.
use Rattle.std.specs.Prelude.{Bool, cond, ◌&&◌, List, [], ◌∷◌, ◌++◌, ℕ, zero, suc, ◌*◌, take, drop, Result, Ok, Err}
use Rattle.refusals.specs.declared.Refusal.{Refusal}
use Rattle.refusals.specs.declared.Refusal.TheVariants.{WrongSlice}
use Rattle.symbols.specs.Symbols.{line_length, minus, fits, is_line}
use Rattle.symbols.specs.Calls.{has_line_length}
use Rattle.combining.specs.Combine.{combined}
use Rattle.combining.specs.Hit.{none_letter}

-- The number of terminals of a bus, and the number of symbols of all their lines.
abbrev pub terminals : ℕ
terminals = 8

abbrev pub lines_length : ℕ
lines_length = terminals * line_length

-- A list of n times 48 symbols as n lines.
unfoldable pub rows : ℕ → List ℕ → List (List ℕ)
rows zero l = []
rows (suc n) l = take line_length l ∷ rows n (drop line_length l)

-- Lines laid one after the other, as they are lent.
unfoldable pub laid : List (List ℕ) → List ℕ
laid [] = []
laid (l ∷ ls) = l ++ laid ls

-- The eight terminals' lines are lent as 384 symbols, and the combined line goes into 48 octets:
-- refusal 2 for a wrong length or code.
abbrev pub combine_fits : List ℕ → List ℕ → Bool
combine_fits lines lent = has_line_length lent && fits lines_length minus lines

-- What the call replies: how many lines it took, or refusal 2.
abbrev pub combined_reply : Bool → ℕ → Result ℕ Refusal
combined_reply good taken = cond good (Ok taken) (Err WrongSlice)

-- The combined line of the eight.
abbrev pub eight : List ℕ → List ℕ
eight lines = combined (rows terminals lines)

-- A hit wants a line and 48 letters: refusal 2 for a wrong length or code of either.
abbrev pub hit_fits : List ℕ → List ℕ → Bool
hit_fits letters l = is_line l && fits line_length none_letter letters
