-- A note's number from its octets.
use mathlib.Core.List.{List, [], ◌∷◌}
use mathlib.Core.Path.{◌≡◌}
use Prim.Native.Nat.{ℕ, ◌+◌, ◌*◌, ◌^◌, ◌<◌}
use native.Mathlib.Omega.{arith}
use lib.ListN.{get_or}
use Rattle.notes_and_cells.specs.NumberOfOctets.{low_first}
use Rattle.note_text.specs.NoteText.{note_number}

pub number_octets_lem : (value : List ℕ) → note_number value ≡ get_or value 0 0 + 256 * get_or value 1 0 + 65536 * get_or value 2 0
unfolding low_first
number_octets_lem [] = omega arith
number_octets_lem (a ∷ []) = omega arith
number_octets_lem (a ∷ b ∷ []) = omega arith
number_octets_lem (a ∷ b ∷ c ∷ value) = omega arith

pub number_small : (value : List ℕ) → ((i : ℕ) → get_or value i 0 < 256) → note_number value < 2 ^ 24
number_small value h = rw (number_octets_lem value) (omega (arith, h 0, h 1, h 2))
