-- Laws: which reading of raw bits (document 01, "D access (6.1)", second paragraph, as hdlc's
-- specs/Reading.antt has it) the reader's record and the lent octets stand for, and what its
-- answers mean.
-- Interface: `StandsFor`, `ReadsOn`. Assumes nothing.
use Rattle.std.specs.Prelude.{Bool, true, false, cond, not, List, [], ◌∷◌, ◌++◌, ◌≡◌, ℕ, ◌+◌, ◌≤◌, ltb, eqb, length, take, Result, Ok, Err}
use Rattle.hdlc.specs.Image.{longest_body}
use Rattle.hdlc.specs.Ones.{leading}
use Rattle.hdlc.specs.Reading.{Reading, Said, nothing, torn, heard, contents, said, next}
use Rattle.packing.specs.Octets.{BitsKept}
use Rattle.d_reader.specs.Counters.{Read, most_bits}
use Rattle.d_reader.specs.declared.Reader.{Reader}
use Rattle.d_reader.specs.declared.ReaderAnswer.{ReaderAnswer}
use Rattle.d_reader.specs.declared.ReaderAnswer.TheVariants.{Nothing, Heard, Torn}
use Rattle.refusals.specs.declared.Refusal.{Refusal}
use Rattle.refusals.specs.Numbers.{number}

-- the 1s since the last 0 of raw bits, newest first: 7 for seven or more, or where there is no 0
unfoldable pub ones_since_zero : List Bool → ℕ
ones_since_zero [] = 7
ones_since_zero (true ∷ bs) = cond (ltb (ones_since_zero bs) 6) (ones_since_zero bs + 1) 7
ones_since_zero (false ∷ bs) = 0

-- whether the last 0 of raw bits is a data bit: there is one, and no five 1s stand before it
unfoldable pub zero_counts : List Bool → Bool
zero_counts [] = false
zero_counts (true ∷ bs) = zero_counts bs
zero_counts (false ∷ bs) = not (eqb (leading bs) 5)

-- a count of bits as the record has it: at most most_bits
unfoldable pub capped : ℕ → ℕ
capped n = cond (ltb n most_bits) n most_bits

-- the frame under way: `since` is what has been read since the opening flag, whose 0 is the oldest
-- of the raw bits
pub record FrameRead (r : Reader) (buf : List ℕ) (raw : List Bool) : Type 0 where
  pub since : List Bool
  pub raw_is : raw ≡ since ++ (false ∷ [])
  pub few : r.ones ≤ 6
  pub zero_is : r.zero ≡ zero_counts since
  pub bits_is : r.bits ≡ capped (length (contents raw))
  pub kept : BitsKept longest_body (contents raw) r.octet buf

-- the record and the octets stand for a reading
pub record StandsFor (r : Reader) (buf : List ℕ) (s : Reading) : Type 0 where
  pub same_state : r.opened ≡ s.opened
  pub ones_is : r.ones ≡ ones_since_zero s.raw
  pub frame : s.opened ≡ true → FrameRead r buf s.raw

-- What an answer means, with the lent octets: what the reader says, or the number of a refusal.
pub data ReaderReply : Type 0 where
  reader_says : Said → ReaderReply
  reader_refused : ℕ → ReaderReply

unfoldable pub reader_meaning : Result ReaderAnswer Refusal → List ℕ → ReaderReply
reader_meaning (Ok Nothing) buf = reader_says nothing
reader_meaning (Ok (Heard n)) buf = reader_says (heard (take n buf))
reader_meaning (Ok Torn) buf = reader_says torn
reader_meaning (Err r) buf = reader_refused (number r)

-- A call, with a buffer that is long enough, is a step of the reader over raw bits: from every
-- reading that the record and the octets stand for, the answer means what is said to the bit, and
-- what the call leaves stands for the next reading.
abbrev pub ReadsOn : Reader → List ℕ → Bool → Read → List ℕ → Type 0
ReadsOn r buf b after left =
    (s : Reading) → longest_body ≤ length buf → StandsFor r buf s
    → (reader_meaning after.answer left ≡ reader_says (said s b)) × StandsFor after.reader left (next s b)
