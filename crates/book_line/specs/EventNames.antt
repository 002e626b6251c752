-- Rules: the events of a book by name (document 01, "Bench book and report").
-- Interface: `event_names`, `event_named`, `event_if_named`. Assumes nothing.
use Rattle.std.specs.Prelude.{cond, eqb, Option, Some, None, List, [], ◌∷◌, map, ◌≡◌, refl, ℕ, take}
use Rattle.symbols.specs.Symbols.{same_symbols}
use Rattle.notes_and_cells.specs.Events.{ON, OFF, AR, DR, D1, D2, HIT, END}
use Rattle.notes_and_cells.specs.Names.{ascii}
use Rattle.text.specs.Text.{same}

-- Each event's number, and its name.
unfoldable pub event_names : List (ℕ × List ℕ)
event_names =
    (ON, ascii "on")
    ∷ (OFF, ascii "off")
    ∷ (AR, ascii "ar")
    ∷ (DR, ascii "dr")
    ∷ (D1, ascii "d1")
    ∷ (D2, ascii "d2")
    ∷ (HIT, ascii "hit")
    ∷ (END, ascii "end")
    ∷ []

-- The number beside a name in a list, 0 where the name does not stand in it.
abbrev pub number_beside : List ℕ → List (ℕ × List ℕ) → ℕ
number_beside name [] = 0
number_beside name (event ∷ events) = cond (same event.1 name) event.0 (number_beside name events)

-- The number of the event that a name names, 0 where it names none.
unfoldable pub event_named : List ℕ → ℕ
event_named name = number_beside name event_names

-- The same, where the name stands in the list.
abbrev pub if_beside : List ℕ → List (ℕ × List ℕ) → Option ℕ
if_beside name [] = None
if_beside name (event ∷ events) = cond (same event.1 name) (Some event.0) (if_beside name events)

-- The same number, where the name names an event.
abbrev pub event_if_named : List ℕ → Option ℕ
event_if_named name = cond (eqb (event_named name) 0) None (Some (event_named name))

-- ---- Computed: each name names its number.
pub names_of_events : map (λ event. event_named event.1) event_names ≡ map (λ event. event.0) event_names
unfolding event_named event_names same_symbols
names_of_events = refl

-- The first are document 01's eight, in the order in which it names them.
pub first_eight : take 8 (map (λ event. event.0) event_names) ≡ 1 ∷ 2 ∷ 3 ∷ 4 ∷ 5 ∷ 6 ∷ 7 ∷ 8 ∷ []
unfolding event_names
first_eight = refl

-- An empty name names no event.
pub no_name : event_named [] ≡ 0
unfolding event_named event_names same_symbols
no_name = refl
