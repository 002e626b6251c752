-- How the code goes: calls of the reader one after the other, a bit each, all with the same lent
-- buffer.
-- Interface: `reader_after`, `octets_after`, `answers_after`. Assumes nothing.
use Rattle.std.specs.Prelude.{Bool, List, [], ◌∷◌, ℕ, ◌+◌, Result, Ok, Err}
use Rattle.d_reader.specs.Counters.{read_bit, read_octets}
use Rattle.d_reader.specs.declared.Reader.{Reader}
use Rattle.d_reader.specs.declared.ReaderAnswer.{ReaderAnswer}
use Rattle.d_reader.specs.declared.ReaderAnswer.TheVariants.{Nothing, Heard, Torn}
use Rattle.refusals.specs.declared.Refusal.{Refusal}

-- the record after the calls
unfoldable pub reader_after : List Bool → Reader → List ℕ → Reader
reader_after [] r buf = r
reader_after (b ∷ bs) r buf = reader_after bs (read_bit b buf r).reader (read_octets b r buf)

-- the buffer after them
unfoldable pub octets_after : List Bool → Reader → List ℕ → List ℕ
octets_after [] r buf = buf
octets_after (b ∷ bs) r buf = octets_after bs (read_bit b buf r).reader (read_octets b r buf)

-- their answers
unfoldable pub answers_after : List Bool → Reader → List ℕ → List (Result ReaderAnswer Refusal)
answers_after [] r buf = []
answers_after (b ∷ bs) r buf = (read_bit b buf r).answer ∷ answers_after bs (read_bit b buf r).reader (read_octets b r buf)

-- how many of them say heard or torn
unfoldable pub speaks : Result ReaderAnswer Refusal → ℕ
speaks (Ok Nothing) = 0
speaks (Ok (Heard n)) = 1
speaks (Ok Torn) = 1
speaks (Err r) = 0

unfoldable pub speaking : List (Result ReaderAnswer Refusal) → ℕ
speaking [] = 0
speaking (x ∷ xs) = speaks x + speaking xs
