-- The four D of a period, read bit by bit: the reader, its octets and its note as calls of the reader over a list have them. At most one of
-- the four is answered by heard or torn, so that the last such answer is the first.
use mathlib.Core.Path.{◌≡◌, refl, ◌∙◌}
use mathlib.Core.Bool.{Bool, cond}
use mathlib.Core.List.{List, [], ◌∷◌}
use Prim.Native.Nat.{ℕ, ◌+◌, ◌≤◌}
use native.Mathlib.Omega.{arith}
use lib.Dec.{eqb}
use lib.ListN.{length}
use Rattle.test_lemmas.proofs.ByCases.{by_test}
use Rattle.table_6_3.specs.Table63.{G3}
use Rattle.frame.specs.Four.{filled_with_ones}
use Rattle.d_reader.specs.Counters.{read_bit, read_octets}
use Rattle.d_reader.specs.Calls.{reader_after, octets_after, answers_after, speaks, speaking}
use Rattle.d_reader.specs.declared.Reader.{Reader}
use Rattle.d_reader.specs.declared.ReaderAnswer.{ReaderAnswer}
use Rattle.d_reader.specs.declared.ReaderAnswer.TheVariants.{Nothing, Heard, Torn}
use Rattle.refusals.specs.declared.Refusal.{Refusal}
use Rattle.std.specs.Prelude.{Result, Ok, Err}
use Rattle.d_reader.proofs.AnswerLaws.{one_speaks}
use Rattle.bus_record.specs.Reading.{quiet_reading, said_note, said_body, said_with, spoken_to, octets_to, spoken_to_four, octets_to_four, read_in, octets_in}
use Rattle.bus_record.specs.declared.reading.Spoken.{Spoken}
use Rattle.bus_record.proofs.Through.{through, octets_through, through_reader, through_octets, answers_after_lem}
use Rattle.bus_call_specs.specs.Period.{note_of, body_of}

-- the answers to the bits after the first
abbrev later : Bool → List Bool → List ℕ → Reader → List (Result ReaderAnswer Refusal)
later b bs buf r = answers_after bs (read_bit b buf r).reader (read_octets b r buf)

-- ---- nothing more is said
silent_says : (x : Result ReaderAnswer Refusal) (r : Reader) (s : Spoken) → speaks x ≡ 0 → (said_note (said_with x r s).said ≡ said_note s.said) × (said_body (said_with x r s).said ≡ said_body s.said)
unfolding said_with speaks
silent_says (Ok Nothing) r s h = (refl, refl)
silent_says (Ok (Heard n)) r s h = absurd (omega arith)
silent_says (Ok Torn) r s h = absurd (omega arith)
silent_says (Err k) r s h = (refl, refl)

spoken_silent : (b : Bool) (buf : List ℕ) (s : Spoken) → speaks (read_bit b buf s.reader).answer ≡ 0 →
    (said_note (spoken_to b buf s).said ≡ said_note s.said) × (said_body (spoken_to b buf s).said ≡ said_body s.said)
unfolding spoken_to
spoken_silent b buf s h = silent_says (read_bit b buf s.reader).answer (read_bit b buf s.reader).reader s h

silent : (bs : List Bool) (buf : List ℕ) (s : Spoken) → speaking (answers_after bs s.reader buf) ≡ 0 →
    (said_note (through bs buf s).said ≡ said_note s.said) × (said_body (through bs buf s).said ≡ said_body s.said)
unfolding through answers_after speaking
silent [] buf s h = (refl, refl)
silent (b ∷ bs) buf s h =
    let rest : speaking (later b bs buf s.reader) ≡ 0 = omega arith in
    let one = spoken_silent b buf s (omega arith) in
    let more = silent bs (octets_to b s buf) (spoken_to b buf s) (rw (answers_after_lem b bs buf s) rest) in
    (more.0 ∙ one.0, more.1 ∙ one.1)

-- ---- one answer at most says something
abbrev Says : List (Result ReaderAnswer Refusal) → Spoken → Type 0
Says xs s = (said_note s.said ≡ note_of xs) × (said_body s.said ≡ body_of xs)

-- after the first answer x and the others xs, with s before and t at the end
first_or_later : (x : Result ReaderAnswer Refusal) (xs : List (Result ReaderAnswer Refusal)) (r : Reader) (s t : Spoken) → said_note s.said ≡ 0 → said_body s.said ≡ 0 → speaks x + speaking xs ≤ 1 →
    (speaking xs ≡ 0 → (said_note t.said ≡ said_note (said_with x r s).said) × (said_body t.said ≡ said_body (said_with x r s).said)) →
    (said_note (said_with x r s).said ≡ 0 → said_body (said_with x r s).said ≡ 0 → speaking xs ≤ 1 → Says xs t) →
    Says (x ∷ xs) t
unfolding said_with speaks note_of body_of
first_or_later (Ok Nothing) xs r s t n b h first rest = rest n b (omega arith)
first_or_later (Ok (Heard k)) xs r s t n b h first rest = first (omega arith)
first_or_later (Ok Torn) xs r s t n b h first rest = first (omega arith)
first_or_later (Err k) xs r s t n b h first rest = rest n b (omega arith)

once : (bs : List Bool) (buf : List ℕ) (s : Spoken) → said_note s.said ≡ 0 → said_body s.said ≡ 0 → speaking (answers_after bs s.reader buf) ≤ 1 →
    Says (answers_after bs s.reader buf) (through bs buf s)
unfolding through answers_after speaking note_of body_of spoken_to
once [] buf s n b h = (n, b)
once (b ∷ bs) buf s nn nb h =
    let same = answers_after_lem b bs buf s in
    first_or_later (read_bit b buf s.reader).answer (later b bs buf s.reader) (read_bit b buf s.reader).reader s
    (through bs (octets_to b s buf) (spoken_to b buf s)) nn nb h
    (λ q. silent bs (octets_to b s buf) (spoken_to b buf s) (rw same q))
    (λ n0 b0 q. rw same at (once bs (octets_to b s buf) (spoken_to b buf s) n0 b0 (rw same q)))

-- ---- the four of a period
module _ (state : ℕ) (d1 d2 d3 d4 : Bool) (buf : List ℕ) (r : Reader) where
  abbrev ds : List Bool
  ds = d1 ∷ d2 ∷ d3 ∷ d4 ∷ []

  -- "In G3 the network reads D"
  abbrev bits : List Bool
  bits = cond (eqb state G3) ds []

  few : length bits ≤ 7
  few = by_test (eqb state G3) (λ t. rw t (omega arith)) (λ t. rw t (omega arith))

  as_all : read_in state (filled_with_ones ds) buf r ≡ through bits buf (quiet_reading r)
  unfolding read_in spoken_to_four filled_with_ones through
  as_all = by_test (eqb state G3) (λ t. rw t) (λ t. rw t)

  abbrev here : Spoken
  here = read_in state (filled_with_ones ds) buf r

  pub read_in_lem : (here.reader ≡ reader_after bits r buf)
      × (said_note here.said ≡ note_of (answers_after bits r buf))
      × (said_body here.said ≡ body_of (answers_after bits r buf))
  read_in_lem =
      let says = once bits buf (quiet_reading r) refl refl (one_speaks bits r buf few) in
      rw as_all (through_reader bits buf (quiet_reading r), says.0, says.1)

  pub octets_in_lem : octets_in state (filled_with_ones ds) r buf ≡ octets_after bits r buf
  unfolding octets_in octets_to_four filled_with_ones octets_through
  octets_in_lem = by_test (eqb state G3) (λ t. rw t (through_octets ds buf (quiet_reading r))) (λ t. rw t (through_octets [] buf (quiet_reading r)))
