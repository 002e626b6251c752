-- Calls: how many octets a read has put at the front of the part that it was lent.
-- Interface: `IsPrefixLen`. Assumes nothing.
use Rattle.std.specs.Prelude.{◌≡◌, ℕ, ◌≤◌, List, length, take}

-- There are n octets at the front.
abbrev pub IsPrefixLen : ℕ → List ℕ → Type 0
IsPrefixLen n octets = (n ≤ length octets) × (n ≡ length (take n octets))
