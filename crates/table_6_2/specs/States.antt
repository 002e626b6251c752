-- Laws: what table 6-2 does to the states alone, for the laws about terminals that hear the same
-- line.
-- Interface: `in_f6_or_f7`. Assumes nothing.
use Rattle.std.specs.Prelude.{Bool, true, false, cond, not, ℕ, eqb}
use Rattle.notes_and_cells.specs.Cells.{cell_of}
use Rattle.notes_and_cells.specs.CellParts.{state_after}
use Rattle.table_6_2.specs.Table62.{table62, F1, F6, F7, on_row, off_row, info_0_row, info_2_row, info_4_row, loss_row}

-- The state that an event leads to.
abbrev pub next_state : ℕ → ℕ → ℕ
next_state event state = state_after (cell_of table62 event state) state

-- F6 and F7 are the states in which INFO 3 is sent.
abbrev pub in_f6_or_f7 : ℕ → Bool
in_f6_or_f7 state = cond (eqb state F6) true (eqb state F7)

-- Whether an event leads to F6 or F7: INFO 0, loss and power off lead out, INFO 2 and INFO 4 lead
-- there from all states but F1, and no other event leads in or out.
abbrev pub in_f6_or_f7_after : ℕ → ℕ → Bool
in_f6_or_f7_after event state =
    cond (eqb event info_0_row) false
    (cond (eqb event loss_row) false
    (cond (eqb event off_row) false
    (cond (eqb event info_2_row) (not (eqb state F1)) (cond (eqb event info_4_row) (not (eqb state F1)) (in_f6_or_f7 state)))))

-- Whether it leads to F1: power on leads out, power off leads there, and no other event leads in or
-- out.
abbrev pub in_f1_after : ℕ → ℕ → Bool
in_f1_after event state = cond (eqb event on_row) false (cond (eqb event off_row) true (eqb state F1))
