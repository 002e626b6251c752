-- Notes as octets determine the notes: specs/Determined.antt.
use mathlib.Core.List.{List, [], ◌∷◌, ◌++◌, append_assoc}
use mathlib.Core.Path.{◌≡◌, refl, sym, ◌∙◌}
use Prim.Native.Nat.{ℕ, ◌+◌, ◌*◌, ◌/◌, ◌%◌, ◌^◌, ◌<◌}
use native.Mathlib.Nat.{div-div-eq-div-mul}
use native.Mathlib.Omega.{arith}
use lib.ListN.{length}
use lib.Seq.{take-append_seam, drop-append_seam}
use Rattle.bus_rules.specs.Bus.{Note}
use Rattle.note_text.specs.LowFirst.{half, word}
use Rattle.note_text.specs.NoteOctets.{unit_octet, note_octets}
use Rattle.note_text.specs.NoteText.{note, notes_in}
use Rattle.note_text.specs.declared.form.Form.TheVariants.{Octets}
use Rattle.note_text.specs.Determined.{HalfDetermined, WordDetermined, FitsOctets, AllFitOctets, NoteDetermined, NotesDetermined}

-- ---- A number from its octets.
pub half_back : (n : ℕ) → n < 2 ^ 16 → n % 256 + 256 * (n / 256 % 256) ≡ n
half_back n h = omega arith

low_half : (n : ℕ) → n % 256 + 256 * (n / 256 % 256) + 65536 * (n / 65536) ≡ n
low_half n = let e : n / 256 / 256 ≡ n / 65536 = div-div-eq-div-mul n 256 256 in rw (← e) (omega arith)

pub word_back : (n : ℕ) → n < 2 ^ 32 → n % 256 + 256 * (n / 256 % 256) + 65536 * (n / 65536 % 256 + 256 * (n / 16777216 % 256)) ≡ n
word_back n h =
    let e : n / 65536 / 256 ≡ n / 16777216 = div-div-eq-div-mul n 65536 256 in
    rw (← e, half_back (n / 65536) (omega arith)) (low_half n)

pub half_determined : HalfDetermined
half_determined n m h k e = cc (half_back n h, half_back m k)

pub word_determined : WordDetermined
word_determined n m h k e = cc (word_back n h, word_back m k)

-- ---- A note.
module _ (v w behind behind' : List ℕ) (long : length v ≡ length w) (e : v ++ behind ≡ w ++ behind') where
  front_same : v ≡ w
  front_same = cc (take-append_seam v behind, take-append_seam w behind')

  rest_same : behind ≡ behind'
  rest_same = cc (drop-append_seam v behind, drop-append_seam w behind')

same_note : (n m : Note) → n.code ≡ m.code → n.unit ≡ m.unit → n.period ≡ m.period → n.value ≡ m.value → n ≡ m
same_note n m c u p v =
    let e : note n.period n.unit n.code n.value ≡ note m.period m.unit m.code m.value = rw (p, u, c, v) in e

pub note_determined : NoteDetermined
unfolding note_octets
note_determined n m behind behind' f g e =
    let code : n.code % 256 ≡ m.code % 256 = cc in
    let unit : unit_octet n.unit ≡ unit_octet m.unit = cc in
    let half-same : half (length n.value) ≡ half (length m.value) = cc in
    let word_same : word n.period ≡ word m.period = cc in
    let values : n.value ++ behind ≡ m.value ++ behind' = cc in
    let long = half_determined (length n.value) (length m.value) f.length_fits g.length_fits half-same in (
      same_note n m (omega arith) (omega arith)
          (word_determined n.period m.period f.period_fits g.period_fits word_same)
          (front_same n.value m.value behind behind' long values),
      rest_same n.value m.value behind behind' long values,
    )

-- ---- Notes.

-- a note does not begin as the end does
not_end : (n : Note) (x y : List ℕ) → FitsOctets n → note_octets n ++ x ≡ 0 ∷ y → ⊥
unfolding note_octets
not_end n x y f e = let z : n.code % 256 ≡ 0 = cc in omega (arith, f.code_fits, f.code_not_zero)

pub notes_determined : NotesDetermined
unfolding notes_in AllFitOctets
notes_determined [] [] behind behind' f g e = (refl, cc)
notes_determined [] (m ∷ ms) behind behind' f g e =
    absurd (not_end m _ behind g.0 (sym (append_assoc (note_octets m) (notes_in Octets ms) (0 ∷ behind')) ∙ sym e))
notes_determined (n ∷ ns) [] behind behind' f g e =
    absurd (not_end n _ behind' f.0 (sym (append_assoc (note_octets n) (notes_in Octets ns) (0 ∷ behind)) ∙ e))
notes_determined (n ∷ ns) (m ∷ ms) behind behind' f g e =
    let first = note_determined n m (notes_in Octets ns ++ (0 ∷ behind)) (notes_in Octets ms ++ (0 ∷ behind')) f.0 g.0
    (simp append_assoc at e) in
    let more = notes_determined ns ms behind behind' f.1 g.1 first.1 in
    let same : ns ≡ ms = more.0 in
    let one : n ≡ m = first.0 in (cc, more.1)
