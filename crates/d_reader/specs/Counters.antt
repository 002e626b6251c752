-- How the code goes: the network end's reader as the code has it: counters, and the frame's octets
-- in a lent buffer. StandsFor.antt says which reading of raw bits they stand for.
-- Interface: `Read`, `most_bits`, `fresh_reader`, `opened_reader`, `take_up`, `after_bit`, `store_whole`,
-- `answer_to`, `read_bit`, `read_octets`. Assumes nothing.
use Rattle.std.specs.Prelude.{Bool, true, false, cond, not, List, ℕ, ◌+◌, ◌-◌, ◌*◌, ◌/◌, ◌%◌, ltb, leb, eqb, length, set, Result, Ok, Err}
use Rattle.hdlc.specs.Image.{longest_body}
use Rattle.packing.specs.Octets.{shifted}
use Rattle.d_reader.specs.declared.Reader.{Reader}
use Rattle.d_reader.specs.declared.ReaderAnswer.{ReaderAnswer}
use Rattle.d_reader.specs.declared.ReaderAnswer.TheVariants.{Nothing, Heard, Torn}
use Rattle.refusals.specs.declared.Refusal.{Refusal}
use Rattle.refusals.specs.declared.Refusal.TheVariants.{WrongSlice}

-- the record after a bit, and the answer
pub record Read : Type 0 where
  pub reader : Reader
  pub answer : Result ReaderAnswer Refusal

-- the count of bits goes up to here: most_bits, even less the seven of a flag, are too many for a
-- body
abbrev pub most_bits : ℕ
most_bits = 8 * longest_body + 8

-- a fresh or cleared reader: it waits for a flag and has read no 0
abbrev pub fresh_reader : Reader
fresh_reader = record { bits = 0; ones = 7; octet = 0; opened = false; zero = false }

-- the reader after a flag
abbrev pub opened_reader : Reader
opened_reader = record { bits = 0; ones = 0; octet = 0; opened = true; zero = false }

-- a count of bits with one bit more: it stays at most_bits once there
unfoldable pub one_more : ℕ → ℕ
one_more n = cond (ltb n most_bits) (n + 1) most_bits

-- the reader after a data bit; n and z are the new number of 1s, and whether the last 0 counts
abbrev pub take_up : Bool → ℕ → Bool → Reader → Reader
take_up b n z r = record { bits = one_more r.bits; ones = n; octet = shifted r.octet b; opened = r.opened; zero = z }

-- the reader after a bit: the seventh 1 breaks the frame off; a 0 after six 1s ends a flag, after
-- five it is an inserted one
unfoldable pub after_bit : Bool → Reader → Reader
after_bit true r = cond (ltb r.ones 6) (take_up true (r.ones + 1) r.zero r) fresh_reader
after_bit false r =
    cond (eqb r.ones 6) opened_reader
    (cond (eqb r.ones 5)
    (record { bits = r.bits; ones = 0; octet = r.octet; opened = r.opened; zero = false })
    (take_up false 0 r.opened r))

-- whether a bit that is read after `ones` 1s is a data bit, as far as can be known then
unfoldable pub is_data : Bool → ℕ → Bool
is_data true ones = ltb ones 6
is_data false ones = cond (eqb ones 5) false (not (eqb ones 6))

-- whether a bit is the eighth of an octet that the longest body can still have
unfoldable pub fills : Bool → Reader → Bool
fills b r =
    cond r.opened
    (cond (is_data b r.ones) (cond (eqb (r.bits % 8) 7) (ltb r.bits (8 * longest_body)) false) false)
    false

-- the buffer after a bit: an octet that is whole goes to its place
unfoldable pub store_whole : Bool → Reader → List ℕ → List ℕ
store_whole b r buf = cond (fills b r) (set buf (r.bits / 8) (shifted r.octet b)) buf

-- what n bits between two flags are
unfoldable pub between_flags : ℕ → ReaderAnswer
between_flags n =
    cond (ltb n 8) Nothing (cond (eqb (n % 8) 0) (cond (leb n (8 * longest_body)) (Heard (n / 8)) Torn) Torn)

-- what n bits before seven 1s are
unfoldable pub aborted_after : ℕ → ReaderAnswer
aborted_after n = cond (ltb n 8) Nothing Torn

-- what the reader answers to a bit: where it ends a flag or is the seventh 1, the six 1s before it
-- are no data bits, nor is the 0 before these where a flag ends
unfoldable pub answer_to : Bool → Reader → ReaderAnswer
answer_to b r =
    cond r.opened
    (cond (eqb r.ones 6)
    (cond b (aborted_after (r.bits - 6)) (between_flags (r.bits - cond r.zero 7 6)))
    Nothing)
    Nothing

-- the call: refused by 2 where the buffer is too short
unfoldable pub read_bit : Bool → List ℕ → Reader → Read
read_bit b buf r =
    cond (ltb (length buf) longest_body)
    (record { reader = r; answer = Err WrongSlice })
    (record { reader = after_bit b r; answer = Ok (answer_to b r) })

-- the lent octets after the call
unfoldable pub read_octets : Bool → Reader → List ℕ → List ℕ
read_octets b r buf = cond (ltb (length buf) longest_body) buf (store_whole b r buf)
