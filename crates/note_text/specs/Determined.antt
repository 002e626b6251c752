-- Laws: notes as octets determine the notes, and where they end. The statements are types;
-- proofs/Determined.antt proves each under the same name in small letters.
-- Interface: `AllFitOctets`. Assumes nothing.
use Rattle.std.specs.Prelude.{List, [], ◌∷◌, ◌++◌, ◌≡◌, ℕ, ◌^◌, ◌≤◌, ◌<◌, length}
use Rattle.bus_rules.specs.Bus.{Note}
use Rattle.note_text.specs.LowFirst.{half, word}
use Rattle.note_text.specs.NoteOctets.{note_octets}
use Rattle.note_text.specs.NoteText.{notes_in}
use Rattle.note_text.specs.declared.form.Form.TheVariants.{Octets}

-- ---- A number that fits its octets is determined by them.
abbrev pub HalfDetermined : Type 0
HalfDetermined = (n m : ℕ) → n < 2 ^ 16 → m < 2 ^ 16 → half n ≡ half m → n ≡ m

abbrev pub WordDetermined : Type 0
WordDetermined = (n m : ℕ) → n < 2 ^ 32 → m < 2 ^ 32 → word n ≡ word m → n ≡ m

-- ---- A note that loses nothing as octets: each field fits the octets that it gets, and the code
-- is not 0.
pub record FitsOctets (n : Note) : Type 0 where
  pub code_not_zero : 1 ≤ n.code
  pub code_fits : n.code < 2 ^ 8
  pub unit_fits : n.unit < 2 ^ 8
  pub length_fits : length n.value < 2 ^ 16
  pub period_fits : n.period < 2 ^ 32

unfoldable pub AllFitOctets : List Note → Type 0
AllFitOctets [] = Unit
AllFitOctets (n ∷ ns) = FitsOctets n × AllFitOctets ns

-- The octets of such a note determine it, and what stands behind it, whatever that is.
abbrev pub NoteDetermined : Type 0
NoteDetermined =
    (n m : Note) (behind behind' : List ℕ) → FitsOctets n → FitsOctets m → note_octets n ++ behind ≡ note_octets m ++ behind'
    → (n ≡ m) × (behind ≡ behind')

-- So do those of notes that 0 ends.
abbrev pub NotesDetermined : Type 0
NotesDetermined =
    (ns ms : List Note) (behind behind' : List ℕ) → AllFitOctets ns → AllFitOctets ms
    → notes_in Octets ns ++ (0 ∷ behind) ≡ notes_in Octets ms ++ (0 ∷ behind') → (ns ≡ ms) × (behind ≡ behind')
