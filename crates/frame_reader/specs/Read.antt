-- Rules: the frame reader (document 01, "The line": it accepts a line exactly when some field
-- values are written as it; refusals 2 and 10), and what is taken from a line at symbol level.
-- Interface: `read_by`, `down_read`, `up_read`, `four_read`, `a_level`. Assumes nothing.
use Rattle.std.specs.Prelude.{Bool, cond, List, ℕ, Result, Ok, Err}
use Rattle.refusals.specs.declared.Refusal.{Refusal}
use Rattle.refusals.specs.declared.Refusal.TheVariants.{WrongSlice, NoFrame}
use Rattle.symbols.specs.Symbols.{is_line, same_symbols, levels}
use Rattle.frame.specs.Down.{down_line, down_fields_of, a_bit}
use Rattle.frame.specs.Up.{up_line, up_fields_of}
use Rattle.frame.specs.declared.fields.DownFields.{DownFields}
use Rattle.frame.specs.declared.fields.UpFields.{UpFields}
use Rattle.frame.specs.declared.fields.Four.{Four}

-- For a frame that is written by `write` and whose fields are taken from a line by `taken`:
-- `WrongSlice` for what is no line; the fields taken where writing them gives the line back;
-- `NoFrame` else.
unfoldable pub read_by : {F : Type 0} → (F → List ℕ) → (List ℕ → F) → List ℕ → Result F Refusal
read_by write taken l = cond (is_line l) (cond (same_symbols l (write (taken l))) (Ok (taken l)) (Err NoFrame)) (Err WrongSlice)

abbrev pub down_read : List ℕ → Result DownFields Refusal
down_read l = read_by down_line down_fields_of l

abbrev pub up_read : List ℕ → Result UpFields Refusal
up_read l = read_by up_line up_fields_of l

-- Four bits of a line at symbol level, or `WrongSlice` for what is no line.
unfoldable pub four_read : (List Bool → Four) → List ℕ → Result Four Refusal
four_read pick l = cond (is_line l) (Ok (pick (levels l))) (Err WrongSlice)

-- The A bit of a downward line at symbol level.
abbrev pub a_level : List ℕ → Bool
a_level l = a_bit (levels l)
