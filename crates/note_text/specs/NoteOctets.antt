-- Rules: notes as octets, for a host.
-- Interface: `note_octets`. Assumes nothing.
use Rattle.std.specs.Prelude.{List, [], ◌∷◌, ◌++◌, ◌≡◌, refl, ℕ, ◌%◌, length}
use Rattle.notes_and_cells.specs.Notes.{HEARD}
use Rattle.bus_rules.specs.Bus.{Note}
use Rattle.note_text.specs.LowFirst.{half, word}

-- A unit takes an octet.
abbrev pub unit_octet : ℕ → ℕ
unit_octet unit = unit % 256

-- The code, the unit, how many octets the value has, the period, and the octets of the value.
unfoldable pub note_octets : Note → List ℕ
note_octets n = (n.code % 256 ∷ unit_octet n.unit ∷ []) ++ (half (length n.value) ++ (word n.period ++ n.value))

-- ---- Computed: `16 0 heard 00` of document 01's example report.
pub example_heard :
    note_octets (record { period = 16; unit = 0; code = HEARD; value = 0 ∷ [] }) ≡ 10 ∷ 0 ∷ 1 ∷ 0 ∷ 16 ∷ 0 ∷ 0 ∷ 0 ∷ 0 ∷ []
unfolding note_octets
example_heard = refl
