-- How the code goes: a note's line is put in parts, behind the unit what the code decides, then the
-- rest of the value, then LF.
-- Interface: `named`, `open_as`, `open_value`. Assumes nothing.
use Rattle.std.specs.Prelude.{List, [], ◌∷◌, ◌++◌, ℕ}
use Rattle.notes_and_cells.specs.Names.{Value, ascii, printed_as}
use Rattle.notes_and_cells.specs.Names.Value.{no_value, body, number, word}
use Rattle.text.specs.Text.{space}
use Rattle.note_text.specs.NoteText.{decimal, hex_of, note_number}
use Rattle.note_text.specs.declared.table.OpenValue.{OpenValue}
use Rattle.note_text.specs.declared.table.OpenValue.TheVariants.{Nothing, Body, Number}

abbrev pub fixed_value : Value → List ℕ
fixed_value no_value = ascii "-"
fixed_value body = []
fixed_value number = []
fixed_value (word w) = w

unfoldable pub named : ℕ → List ℕ
named code = space ∷ (printed_as code).name ++ (space ∷ fixed_value (printed_as code).value)

-- What is left open of a value.
abbrev pub open_in : Value → OpenValue
open_in no_value = Nothing
open_in body = Body
open_in number = Number
open_in (word w) = Nothing

-- By a note's code.
unfoldable pub open_as : ℕ → OpenValue
open_as code = open_in (printed_as code).value

-- The text of what is left open.
abbrev pub open_value : OpenValue → List ℕ → List ℕ
open_value Nothing value = []
open_value Body value = hex_of value
open_value Number value = decimal (note_number value)
