-- The line of a note from its parts, and several notes in either form.
use mathlib.Core.List.{List, [], ◌∷◌, ◌++◌, append_assoc, append-nil}
use mathlib.Core.Path.{◌≡◌, refl, sym, ◌∙◌}
use Prim.Native.Nat.{ℕ, ◌+◌, ◌<◌, min}
use native.Mathlib.Numerals.{add-one}
use native.Mathlib.Omega.{arith}
use borrow.Author.Tests.{leb-true, leb-false}
use lib.Dec.{leb}
use lib.ListN.{length, get_or, take}
use lib.Seq.{take-suc, take_all}
use Rattle.test_lemmas.proofs.ByCases.{by_test}
use Rattle.notes_and_cells.specs.Names.{Value, printed_as}
use Rattle.notes_and_cells.specs.Names.Value.{no_value, body, number, word}
use Rattle.bus_rules.specs.Bus.{Note, notes_of}
use Rattle.text.specs.Text.{LF, space}
use Rattle.note_text.specs.NoteText.{decimal, value_text, note, note_line, note_in, notes_in}
use Rattle.note_text.specs.LineParts.{fixed_value, named, open_in, open_as, open_value}
use Rattle.note_text.specs.declared.form.Form.{Form}
use Rattle.note_text.specs.Room.{Put}
use Rattle.note_text.proofs.RoomLaws.{put_put}

-- a value in the part that the code decides and the other
values_are : (v : Value) (value : List ℕ) → fixed_value v ++ open_value (open_in v) value ≡ value_text v value
values_are no_value value = refl
values_are body value = refl
values_are number value = refl
values_are (word w) value = append-nil w

pub line_parts : (n : Note)
    → decimal n.period
    ++ ((space ∷ []) ++ (decimal n.unit ++ (named n.code ++ (open_value (open_as n.code) n.value ++ (LF ∷ [])))))
    ≡ note_line n
unfolding note_line named open_as
line_parts n =
    let p = printed_as n.code in
    rw (
      append_assoc p.name (space ∷ fixed_value p.value) (open_value (open_in p.value) n.value ++ (LF ∷ [])),
      ← append_assoc (fixed_value p.value) (open_value (open_in p.value) n.value) (LF ∷ []),
      values_are p.value n.value,
    )

pub form_append : (form : Form) (a b : List Note) → notes_in form (a ++ b) ≡ notes_in form a ++ notes_in form b
unfolding notes_in
form_append form [] b = refl
form_append form (n ∷ a) b = rw (form_append form a b) (sym (append_assoc (note_in form n) (notes_in form a) (notes_in form b)))

pub notes_append : (now unit : ℕ) (a b : List ℕ) → notes_of now unit (a ++ b) ≡ notes_of now unit a ++ notes_of now unit b
unfolding notes_of
notes_append now unit [] b = refl
notes_append now unit (c ∷ a) b = rw (notes_append now unit a b)

-- ---- The loop of `put_notes`: a note more, and all of them.
pub notes_next : (form : Form) (now unit : ℕ) (codes : List ℕ) (i : ℕ) → i < length codes
    → notes_in form (notes_of now unit (take (i + 1) codes))
    ≡ notes_in form (notes_of now unit (take i codes)) ++ note_in form (note now unit (get_or codes i 0) [])
unfolding notes_in notes_of
notes_next form now unit codes i h =
    rw (
      add-one i,
      take-suc codes i 0 h,
      notes_append now unit (take i codes) (get_or codes i 0 ∷ []),
      form_append form (notes_of now unit (take i codes)) (notes_of now unit (get_or codes i 0 ∷ [])),
      append-nil,
    )

pub put_next : {room : List ℕ} {wrote r₁ : ℕ} {room₁ : List ℕ} {r₂ : ℕ} {room₂ : List ℕ} (form : Form) (now unit : ℕ) (codes : List ℕ) (i : ℕ)
    → i < length codes
    → Put room wrote (notes_in form (notes_of now unit (take i codes))) r₁ room₁
    → Put room₁ r₁ (note_in form (note now unit (get_or codes i 0) [])) r₂ room₂
    → Put room wrote (notes_in form (notes_of now unit (take (i + 1) codes))) r₂ room₂
put_next form now unit codes i h p q = rw (notes_next form now unit codes i h) (put_put p q)

-- as many as there are
pub take_count : (codes : List ℕ) (n i : ℕ) → i ≡ min n (length codes) → take i codes ≡ take n codes
take_count codes n i h =
    by_test (leb n (length codes)) (λ t. let l = leb-true n (length codes) t in let e : i ≡ n = omega arith in rw e)
    (λ t. let l = leb-false n (length codes) t in take_all i codes (omega arith) ∙ sym (take_all n codes (omega arith)))

-- ---- For the layers above.
pub one_note : (form : Form) (n : Note) → notes_in form (n ∷ []) ≡ note_in form n
unfolding notes_in
one_note form n = append-nil (note_in form n)

pub codes_append : (form : Form) (now unit : ℕ) (a b : List ℕ)
    → notes_in form (notes_of now unit (a ++ b)) ≡ notes_in form (notes_of now unit a) ++ notes_in form (notes_of now unit b)
codes_append form now unit a b = rw notes_append (form_append form (notes_of now unit a) (notes_of now unit b))
