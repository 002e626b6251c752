-- Octets in hexadecimal, one after the other.
use mathlib.Core.List.{List, [], ◌∷◌, ◌++◌}
use mathlib.Core.Path.{◌≡◌, refl}
use Prim.Native.Nat.{ℕ, ◌+◌, ◌*◌, ◌/◌, ◌%◌, ◌≤◌, ◌<◌}
use native.Mathlib.Numerals.{add-one}
use native.Mathlib.Omega.{arith}
use lib.ListN.{length, get_or, take}
use lib.Seq.{take-suc, take_all}
use Rattle.note_text.specs.Room.{Put}
use Rattle.note_text.specs.NoteText.{hex_code, hex_of}
use Rattle.note_text.proofs.RoomLaws.{put_put}

pub hex_append : (a b : List ℕ) → hex_of (a ++ b) ≡ hex_of a ++ hex_of b
unfolding hex_of
hex_append [] b = refl
hex_append (o ∷ a) b = rw (hex_append a b)

pub length_hex : (octets : List ℕ) → length (hex_of octets) ≡ 2 * length octets
unfolding hex_of
length_hex [] = refl
length_hex (o ∷ octets) = rw (length_hex octets) (omega arith)

pub hex_next : (octets : List ℕ) (i : ℕ) → i < length octets
    → hex_of (take (i + 1) octets) ≡ hex_of (take i octets) ++ (hex_code (get_or octets i 0 / 16) ∷ hex_code (get_or octets i 0 % 16) ∷ [])
unfolding hex_of
hex_next octets i h = rw (add-one i, take-suc octets i 0 h) (hex_append (take i octets) (get_or octets i 0 ∷ []))

-- ---- The loop of `put_hex`: an octet more, and all of them.
pub put_octet : {room : List ℕ} {wrote r₁ : ℕ} {room₁ : List ℕ} {r₂ : ℕ} {room₂ : List ℕ} (octets : List ℕ) (i high low : ℕ) → i < length octets
    → high ≡ hex_code (get_or octets i 0 / 16) → low ≡ hex_code (get_or octets i 0 % 16)
    → Put room wrote (hex_of (take i octets)) r₁ room₁ → Put room₁ r₁ (high ∷ low ∷ []) r₂ room₂
    → Put room wrote (hex_of (take (i + 1) octets)) r₂ room₂
put_octet octets i high low h eh el p q = rw (hex_next octets i h, ← eh, ← el) (put_put p q)

pub put_octets : {room : List ℕ} {wrote r : ℕ} {room' : List ℕ} (octets : List ℕ) (i : ℕ) → length octets ≤ i
    → Put room wrote (hex_of (take i octets)) r room' → Put room wrote (hex_of octets) r room'
put_octets octets i h p = rw (take_all i octets h) at p
