-- Rules: the form of an event's value (document 01, "Bench book and report").
-- Interface: `form_of`. Assumes nothing.
use Rattle.std.specs.Prelude.{cond, List, [], ◌∷◌, ℕ, eqb}
use Rattle.notes_and_cells.specs.Events.{D1, D2, HIT}
use Rattle.book_line.specs.declared.form.ValueForm.{ValueForm}
use Rattle.book_line.specs.declared.form.ValueForm.TheVariants.{Absent, Body, Letters}

-- The events that have a value, by number, each with its form.
abbrev pub value_forms : List (ℕ × ValueForm)
value_forms = (D1, Body) ∷ (D2, Body) ∷ (HIT, Letters) ∷ []

-- The form beside an event in a list; one that does not stand in it has no value.
abbrev pub form_beside : ℕ → List (ℕ × ValueForm) → ValueForm
form_beside event [] = Absent
form_beside event (valued ∷ more) = cond (eqb event valued.0) valued.1 (form_beside event more)

unfoldable pub form_of : ℕ → ValueForm
form_of event = form_beside event value_forms
