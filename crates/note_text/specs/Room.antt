-- Calls: text in lent room: it goes behind what has been written, as much of it as there is room
-- for.
-- Interface: `laid`, `Put`. Assumes nothing.
use Rattle.std.specs.Prelude.{List, [], ◌∷◌, ◌≡◌, ℕ, zero, suc, ◌+◌, min, length}

-- The room once a text is laid behind its first `wrote` octets. What it holds past the text stays.
unfoldable pub laid : List ℕ → ℕ → List ℕ → List ℕ
laid [] wrote text = []
laid (x ∷ room) (suc wrote) text = x ∷ laid room wrote text
laid (x ∷ room) zero [] = x ∷ room
laid (x ∷ room) zero (c ∷ text) = c ∷ laid room zero text

-- How many octets are written then.
abbrev pub wrote_after : List ℕ → ℕ → List ℕ → ℕ
wrote_after room wrote text = min (wrote + length text) (length room)

-- What a call that puts a text gives: `r` octets are written, and the room is `room'`.
pub record Put (room : List ℕ) (wrote : ℕ) (text : List ℕ) (r : ℕ) (room' : List ℕ) : Type 0 where
  pub wrote_is : r ≡ wrote_after room wrote text
  pub room_is : room' ≡ laid room wrote text
