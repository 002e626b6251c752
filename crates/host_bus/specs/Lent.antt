-- Calls: what every call on a bus that is lent as octets looks at first (document 01, "Reasons a
-- call is turned down", 1 and 2): whether the octets are a bus, and whether the room lent for what
-- the call hands back is as large as it may need.
-- Interface: every name. Assumes nothing.
use Rattle.std.specs.Prelude.{cond, List, ℕ, ltb}
use Rattle.bus_octets.specs.Layout.{is_bus}

unfoldable pub lent_reason : List ℕ → ℕ → ℕ → ℕ
lent_reason s room needed = cond (is_bus s) (cond (ltb room needed) 2 0) 1
