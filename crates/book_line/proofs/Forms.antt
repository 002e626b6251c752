-- The events that have a value, looked up in a list of pairs as any number is (text's `beside`), each have their form.
use mathlib.Core.Path.{◌≡◌, refl}
use mathlib.Core.List.{List, [], ◌∷◌}
use Prim.Native.Nat.{ℕ}
use Rattle.text.proofs.Lookup.{beside}
use Rattle.book_line.specs.ValueForms.{value_forms, form_beside, form_of}
use Rattle.book_line.specs.declared.form.ValueForm.{ValueForm}
use Rattle.book_line.specs.declared.form.ValueForm.TheVariants.{Absent}

form_beside_lem : (event : ℕ) (valued : List (ℕ × ValueForm)) → beside Absent event valued ≡ form_beside event valued
form_beside_lem event [] = refl
form_beside_lem event (v ∷ valued) = rw (form_beside_lem event valued)

pub form_is : (event : ℕ) → beside Absent event value_forms ≡ form_of event
unfolding form_of
form_is event = form_beside_lem event value_forms
