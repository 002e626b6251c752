-- Rules: in which order the notes of a period stand (document 01, "Bench book and report"): "They
-- stand as they arise; within one unit's hearing or line, D notes .. come before the table's, which
-- keep its order." The notes of the cycle of Q and S bits "come after that unit's other notes"
-- (document 02, 2.1). Nothing else says so: `period_notes` (Period.antt) is this order of what the
-- rules give, and `period_told` of crate `bus_call_specs` the same order of what a call hands back.
-- Interface: `ByUnit`, `d_first`, `no_cycle`, `unit_by_unit`, `part_in_order`, `period_in_order`. Assumes
-- nothing.
use Rattle.std.specs.Prelude.{List, [], ◌∷◌, ◌++◌, ℕ, suc, ◌+◌}
use Rattle.bus_rules.specs.Bus.{Note, notes_of}

-- What is noted in one part of a period, by who notes it. All but the reader's notes and the cycle's
-- have no value, and are given by their codes.
pub record ByUnit : Type 0 where
  -- the reader of D, which is unit 0's
  pub reader : List Note
  -- the network end, unit 0
  pub network : List ℕ
  -- each terminal; the first is unit 1
  pub terminals : List (List ℕ)
  -- the cycle's, of each unit
  pub cycle : ℕ → List Note

-- no cycle ends in this part
abbrev pub no_cycle : ℕ → List Note
no_cycle unit = []

-- the codes of a terminal's hearing: frames completed, which are D notes, then the table's
abbrev pub d_first : (done table : List ℕ) → List ℕ
d_first done table = done ++ table

-- unit after unit, from this one on, with the notes of the cycle behind each
unfoldable pub unit_by_unit : (now unit : ℕ) → (ℕ → List Note) → List (List ℕ) → List Note
unit_by_unit now unit cycle [] = []
unit_by_unit now unit cycle (codes ∷ more) = notes_of now unit codes ++ (cycle unit ++ unit_by_unit now (suc unit) cycle more)

-- a part: the reader's notes, unit 0's, then those of the terminals from 1 on
abbrev pub part_in_order : ℕ → ByUnit → List Note
part_in_order now p = p.reader ++ (notes_of now 0 p.network ++ (p.cycle 0 ++ unit_by_unit now 1 p.cycle p.terminals))

-- The whole: what is heard in the period, then what comes of the timers due at the next one's
-- start, with the next one's number.
abbrev pub period_in_order : ℕ → (heard timed : ByUnit) → List Note
period_in_order now heard timed = part_in_order now heard ++ part_in_order (now + 1) timed
