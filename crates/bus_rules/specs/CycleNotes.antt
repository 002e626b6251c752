-- Rules: the notes of a cycle of Q and S bits (document 02, 2.1): "At the end of a cycle notes `q`
-- (unit 0, if in G3 at all 20 exchanges) and `s` (each terminal in F7 at all 20) show what was
-- received, unless it is all ones for Q or all zeros for S". They follow from the cycle after the
-- period's exchange (crate `cycle`: `q_told`, 15 for none, and `s_told`, 0 for none).
-- Interface: `cycle_notes`. Assumes nothing.
use Rattle.std.specs.Prelude.{cond, List, [], ◌∷◌, ℕ, ◌-◌, ◌/◌, ◌%◌, eqb}
use Rattle.cycle.specs.Cycle.{no_q, q_told, s_told}
use Rattle.cycle.specs.declared.record.Cycle.{Cycle}
use Rattle.notes_and_cells.specs.Notes.{Q, S}
use Rattle.bus_rules.specs.Bus.{Note}

-- a number below 16,777,216 as three octets, low-order first
abbrev pub three_octets : ℕ → List ℕ
three_octets n = n % 256 ∷ n / 256 % 256 ∷ n / 65536 % 256 ∷ []

unfoldable pub q_notes : ℕ → Cycle → List Note
q_notes now c = cond (eqb (q_told c) no_q) [] (record { period = now; unit = 0; code = Q; value = q_told c ∷ [] } ∷ [])

-- of the terminal at index i, which is unit i + 1
unfoldable pub s_notes : ℕ → ℕ → Cycle → List Note
s_notes now unit c =
    cond (eqb (s_told (unit - 1) c) 0) [] (record { period = now; unit = unit; code = S; value = three_octets (s_told (unit - 1) c) } ∷ [])

-- of each unit, in period `now`
unfoldable pub cycle_notes : ℕ → Cycle → ℕ → List Note
cycle_notes now c unit = cond (eqb unit 0) (q_notes now c) (s_notes now unit c)
