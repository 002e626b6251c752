-- Calls: where the fields of a line lie (document 01, "Each field is handed back as the part of the
-- line that it is").
-- Interface: `ends_of`, `field_from`, `field_to`. Assumes nothing.
use Rattle.std.specs.Prelude.{cond, List, ℕ, zero, suc, ◌+◌, eqb, drop}
use Rattle.text.specs.Text.{space, upto}
use Rattle.text.specs.declared.field.Ends.{Ends}

-- Where field k of a line begins, from 0, and where it ends: at the next space or at the line's
-- end, and the next field begins behind the space. Past the line's end every field is empty. It is
-- `field k line` (proofs/Fields.antt `field_part`).
unfoldable pub field_start : ℕ → List ℕ → ℕ
field_start zero line = 0
field_start (suc k) line = field_start k line + upto space (drop (field_start k line) line) + 1

abbrev pub field_end : ℕ → List ℕ → ℕ
field_end k line = field_start k line + upto space (drop (field_start k line) line)

-- Where the first four fields of a line end. They are all its fields exactly where the fourth ends
-- with the line (`fields_end`).
abbrev pub ends_of : List ℕ → Ends
ends_of line = record { first = field_end 0 line; second = field_end 1 line; third = field_end 2 line; fourth = field_end 3 line }

-- Where field k of a line whose fields have these ends begins and ends, for k up to 3. A line that
-- is split has no field of any other number: such a number gives an empty part.
abbrev pub field_from : ℕ → Ends → ℕ
field_from k ends =
    cond (eqb k 0) 0 (cond (eqb k 1) (ends.first + 1) (cond (eqb k 2) (ends.second + 1) (cond (eqb k 3) (ends.third + 1) 0)))

abbrev pub field_to : ℕ → Ends → ℕ
field_to k ends =
    cond (eqb k 0) ends.first (cond (eqb k 1) ends.second (cond (eqb k 2) ends.third (cond (eqb k 3) ends.fourth 0)))
