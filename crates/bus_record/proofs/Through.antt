-- Bits read one by one, any number of them: the reader and its octets are those of the reader's calls over a list.
use mathlib.Core.Bool.{Bool}
use mathlib.Core.List.{List, [], ◌∷◌}
use mathlib.Core.Path.{◌≡◌, refl, ◌∙◌}
use Prim.Native.Nat.{ℕ}
use Rattle.d_reader.specs.Counters.{read_bit, read_octets}
use Rattle.d_reader.specs.Calls.{reader_after, octets_after, answers_after}
use Rattle.bus_record.specs.Reading.{spoken_to, octets_to}
use Rattle.bus_record.specs.declared.reading.Spoken.{Spoken}
use Rattle.bus_record.proofs.RecordKept.{spoken_reader}

-- what has been said after bits, and the lent octets then
unfoldable pub through : List Bool → List ℕ → Spoken → Spoken
through [] buf s = s
through (b ∷ bs) buf s = through bs (octets_to b s buf) (spoken_to b buf s)

unfoldable pub octets_through : List Bool → Spoken → List ℕ → List ℕ
octets_through [] s buf = buf
octets_through (b ∷ bs) s buf = octets_through bs (spoken_to b buf s) (octets_to b s buf)

pub through_reader : (bs : List Bool) (buf : List ℕ) (s : Spoken) → (through bs buf s).reader ≡ reader_after bs s.reader buf
unfolding through reader_after octets_to
through_reader [] buf s = refl
through_reader (b ∷ bs) buf s = through_reader bs (octets_to b s buf) (spoken_to b buf s) ∙ rw (spoken_reader b buf s)

pub through_octets : (bs : List Bool) (buf : List ℕ) (s : Spoken) → octets_through bs s buf ≡ octets_after bs s.reader buf
unfolding octets_through octets_after octets_to
through_octets [] buf s = refl
through_octets (b ∷ bs) buf s = through_octets bs (octets_to b s buf) (spoken_to b buf s) ∙ rw (spoken_reader b buf s)

-- the answers to the bits after a first
pub answers_after_lem : (b : Bool) (bs : List Bool) (buf : List ℕ) (s : Spoken)
    → answers_after bs (spoken_to b buf s).reader (octets_to b s buf) ≡ answers_after bs (read_bit b buf s.reader).reader (read_octets b s.reader buf)
unfolding octets_to
answers_after_lem b bs buf s = rw (spoken_reader b buf s)
