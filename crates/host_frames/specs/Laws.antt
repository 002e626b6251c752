-- Laws: what holds of the fields' octets and of the two calls: the statements, each a type.
-- `proofs/Laws.antt` proves each under the same name in small letters.
-- Interface: none but for laws and proofs. Assumes nothing.
use Rattle.std.specs.Prelude.{◌≡◌, Bool, true, List, ℕ, ◌<◌, length, get_or}
use Rattle.symbols.specs.Symbols.{line_length}
use Rattle.host_frames.specs.Octets.{fields_length, down_octets, down_from, up_octets, up_from, is_down, is_up}
use Rattle.host_frames.specs.Calls.{Outcome, wrote, reply_of, left_of, accepts, frame_read, frame_written}

-- ---- Fields F as octets.
module _ {F : Type 0} (octets : F → List ℕ) (from : List ℕ → F) (is : List ℕ → Bool) where
  -- Octets of fields are taken, and stand for those fields.
  abbrev pub RoundTrip : Type 0
  RoundTrip = (f : F) → (is (octets f) ≡ true) × (from (octets f) ≡ f)

  -- Octets that are taken are those of the fields that they stand for.
  abbrev pub Exact : Type 0
  Exact = (fs : List ℕ) → is fs ≡ true → octets (from fs) ≡ fs

abbrev pub RoundTripDown : Type 0
RoundTripDown = RoundTrip down_octets down_from is_down

abbrev pub RoundTripUp : Type 0
RoundTripUp = RoundTrip up_octets up_from is_up

abbrev pub ExactDown : Type 0
ExactDown = Exact down_octets down_from is_down

abbrev pub ExactUp : Type 0
ExactUp = Exact up_octets up_from is_up

-- ---- The calls, in either direction (document 01, demand 2).
-- Each number of the list is an octet, as in every slice of octets.
abbrev pub AreOctets : List ℕ → Type 0
AreOctets fs = (i : ℕ) → get_or fs i 0 < 256

-- Writing octets that are taken, and reading what was written, gives those octets.
abbrev pub WriteThenRead : Type 0
WriteThenRead =
    (up : ℕ) (fs symbols fields : List ℕ) → AreOctets fs → accepts up fs ≡ true → length symbols ≡ line_length
    → length fields ≡ fields_length
    → (reply_of (frame_written up fs symbols) ≡ 0) × (frame_read up (left_of (frame_written up fs symbols) symbols) fields ≡ wrote fs)

-- Symbols that are read are those that the octets given are written as.
abbrev pub ReadThenWrite : Type 0
ReadThenWrite =
    (up : ℕ) (l fields symbols : List ℕ) → reply_of (frame_read up l fields) ≡ 0 → length symbols ≡ line_length
    → frame_written up (left_of (frame_read up l fields) fields) symbols ≡ wrote l

-- A refused call writes nothing.
abbrev pub RefusedKeeps : (ℕ → List ℕ → List ℕ → Outcome) → Type 0
RefusedKeeps call = (up : ℕ) (given lent : List ℕ) → (reply_of (call up given lent) ≡ 0 → ⊥) → left_of (call up given lent) lent ≡ lent

abbrev pub RefusedRead : Type 0
RefusedRead = RefusedKeeps frame_read

abbrev pub RefusedWritten : Type 0
RefusedWritten = RefusedKeeps frame_written
