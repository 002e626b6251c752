-- Calls: the octets of a value, laid into lent room.
-- Interface: every name. Assumes nothing.
use Rattle.std.specs.Prelude.{◌≡◌, List, ◌++◌, ℕ, ◌/◌, ◌<◌, min, length, get_or, take, drop}
use Rattle.book_line.specs.Line.{longest_line}

-- Room for the octets of the value of any line of right form: two characters an octet.
abbrev pub value_room : ℕ
value_room = longest_line / 2

-- Octets laid into lent room from its front, as many as there is room for; what lies behind them
-- stays. Their number is handed back.
pub record Laid (octets room : List ℕ) (laid : ℕ) (room' : List ℕ) : Type 0 where
  pub count : laid ≡ min (length octets) (length room)
  pub lies : room' ≡ take (length room) octets ++ drop (length octets) room

-- The same of `count` octets, where what is said of each place is that the octet there is so: of any
-- octets of which all that is said is right.
abbrev pub LaidBy : (ℕ → ℕ → Type 0) → ℕ → List ℕ → ℕ → List ℕ → Type 0
LaidBy Says count room laid room' =
    (octets : List ℕ) → length octets ≡ count → ((n octet : ℕ) → n < count → Says n octet → octet ≡ get_or octets n 0)
    → Laid octets room laid room'
