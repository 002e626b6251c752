-- Calls: what a person asks of a bus that is lent as octets.
-- Interface: `counts_reply`, `counts_after`, `network_seen`, `terminal_seen`, `unit_seen`, `unit_reply`,
-- `unit_after`. Assumes nothing.
use Rattle.std.specs.Prelude.{cond, List, ◌∷◌, ◌++◌, ℕ, ◌-◌, eqb, ltb, length, get_or}
use Rattle.network.specs.declared.Network.{Network}
use Rattle.terminal.specs.Terminal.{fresh}
use Rattle.terminal.specs.declared.Terminal.{Terminal}
use Rattle.bus_rules.specs.Bus.{terminals}
use Rattle.bus_call_specs.specs.Kept.{Kept}
use Rattle.note_text.specs.Room.{laid}
use Rattle.note_text.specs.LowFirst.{half, word}
use Rattle.bus_octets.specs.Layout.{flag, shown}
use Rattle.host_bus.specs.Lent.{lent_reason}

-- ---- "The record counts periods run and D opportunities run".
abbrev pub counts_length : ℕ
counts_length = 8

unfoldable pub counts_of : Kept → List ℕ
counts_of k = word k.bus.periods.0 ++ word k.bus.opportunities.0

unfoldable pub counts_reply : List ℕ → List ℕ → ℕ
counts_reply s room = lent_reason s (length room) counts_length

unfoldable pub counts_after : List ℕ → List ℕ → List ℕ
counts_after s room = cond (eqb (counts_reply s room) 0) (laid room 0 (counts_of (shown s))) room

-- ---- A unit: its state, whether it is aligned, the class of the frame that it holds (0 for none),
-- the bits of that frame's image, and how many of them have left.
abbrev pub seen_length : ℕ
seen_length = 7

abbrev pub network_seen : Network → List ℕ
network_seen n = n.state ∷ flag n.alignment.aligned ∷ 0 ∷ half 0 ++ half 0

abbrev pub terminal_seen : Terminal → List ℕ
terminal_seen t = t.state ∷ flag t.alignment.aligned ∷ t.access.held ∷ half t.access.length ++ half t.access.sent

unfoldable pub unit_seen : ℕ → Kept → List ℕ
unit_seen unit k = cond (eqb unit 0) (network_seen k.bus.network) (terminal_seen (get_or k.terminals (unit - 1) fresh))

-- 1 and 2 come before 3: "The unit is above 8."
unfoldable pub unit_reply : ℕ → List ℕ → List ℕ → ℕ
unit_reply unit s room =
    cond (eqb (lent_reason s (length room) seen_length) 0) (cond (ltb terminals unit) 3 0) (lent_reason s (length room) seen_length)

unfoldable pub unit_after : ℕ → List ℕ → List ℕ → List ℕ
unit_after unit s room = cond (eqb (unit_reply unit s room) 0) (laid room 0 (unit_seen unit (shown s))) room
