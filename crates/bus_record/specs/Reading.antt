-- How the code goes: the network end reads the four D of a period in G3 (document 01, "D access
-- (6.1)"), bit by bit. Crate `bus_call_specs`' law `step_shown` holds it to document 01's period.
-- Interface: `quiet_reading`, `spoken_to`, `octets_to`, `said_note`, `said_body`, `spoken_to_four`,
-- `octets_to_four`, `reader_waits`, `read_in`, `octets_in`. Assumes nothing.
use Rattle.std.specs.Prelude.{Bool, cond, not, ◌&&◌, List, ℕ, eqb, Result, Ok, Err}
use Rattle.notes_and_cells.specs.Notes.{HEARD, TORN}
use Rattle.table_6_3.specs.Table63.{G3}
use Rattle.frame.specs.declared.fields.Four.{Four}
use Rattle.d_reader.specs.Counters.{read_bit, read_octets}
use Rattle.d_reader.specs.declared.Reader.{Reader}
use Rattle.d_reader.specs.declared.ReaderAnswer.{ReaderAnswer}
use Rattle.d_reader.specs.declared.ReaderAnswer.TheVariants.{Nothing, Heard, Torn}
use Rattle.refusals.specs.declared.Refusal.{Refusal}
use Rattle.bus_record.specs.declared.reading.Spoken.{Spoken}

-- nothing read yet
abbrev pub quiet_reading : Reader → Spoken
quiet_reading r = record { reader = r; said = Nothing }

-- what has been said, after an answer
unfoldable pub said_with : Result ReaderAnswer Refusal → Reader → Spoken → Spoken
said_with (Ok Nothing) r s = record { reader = r; said = s.said }
said_with (Ok (Heard n)) r s = record { reader = r; said = Heard n }
said_with (Ok Torn) r s = record { reader = r; said = Torn }
said_with (Err k) r s = record { reader = r; said = s.said }

-- what has been said as a note's code, 0 for none, and how many of the lent octets are the heard
-- body
abbrev pub said_note : ReaderAnswer → ℕ
said_note Nothing = 0
said_note (Heard n) = HEARD
said_note Torn = TORN

abbrev pub said_body : ReaderAnswer → ℕ
said_body Nothing = 0
said_body (Heard n) = n
said_body Torn = 0

-- one bit more, and the lent octets then
unfoldable pub spoken_to : Bool → List ℕ → Spoken → Spoken
spoken_to b buf s = said_with (read_bit b buf s.reader).answer (read_bit b buf s.reader).reader s

unfoldable pub octets_to : Bool → Spoken → List ℕ → List ℕ
octets_to b s buf = read_octets b s.reader buf

-- the four of a period
unfoldable pub spoken_to_four : Four → List ℕ → Spoken → Spoken
spoken_to_four ds buf s =
    let s1 = spoken_to ds.first buf s in
    let buf1 = octets_to ds.first s buf in
    let s2 = spoken_to ds.second buf1 s1 in
    let buf2 = octets_to ds.second s1 buf1 in
    let s3 = spoken_to ds.third buf2 s2 in
    let buf3 = octets_to ds.third s2 buf2 in
    spoken_to ds.fourth buf3 s3

unfoldable pub octets_to_four : Four → Spoken → List ℕ → List ℕ
octets_to_four ds s buf =
    let s1 = spoken_to ds.first buf s in
    let buf1 = octets_to ds.first s buf in
    let s2 = spoken_to ds.second buf1 s1 in
    let buf2 = octets_to ds.second s1 buf1 in
    let s3 = spoken_to ds.third buf2 s2 in
    let buf3 = octets_to ds.third s2 buf2 in
    octets_to ds.fourth s3 buf3

-- a reader that waits for a flag, after seven 1s or more or with nothing read: exactly
-- `fresh_reader`. Further 1s change nothing (SpokenLaws `four_ones`)
unfoldable pub reader_waits : Reader → Bool
reader_waits r = (((eqb r.bits 0 && eqb r.ones 7) && eqb r.octet 0) && not r.opened) && not r.zero

-- "In G3 the network reads D"
unfoldable pub read_in : ℕ → Four → List ℕ → Reader → Spoken
read_in state ds buf r = cond (eqb state G3) (spoken_to_four ds buf (quiet_reading r)) (quiet_reading r)

unfoldable pub octets_in : ℕ → Four → Reader → List ℕ → List ℕ
octets_in state ds r buf = cond (eqb state G3) (octets_to_four ds (quiet_reading r) buf) buf
