-- The reader of a period: its counters and octets stand for the raw bits read, and its one note is what the reader over raw bits says.
use mathlib.Core.Path.{◌≡◌, refl}
use mathlib.Core.Bool.{Bool, true, cond, ◌||◌}
use mathlib.Core.List.{List, [], ◌∷◌, map}
use Prim.Native.Nat.{ℕ, ◌≤◌}
use native.Mathlib.Omega.{arith}
use lib.Dec.{eqb}
use lib.ListN.{take}
use Rattle.test_lemmas.proofs.ByCases.{by_test}
use Rattle.table_6_3.specs.Table63.{G3}
use Rattle.hdlc.specs.Reading.{Reading, Said}
use Rattle.hdlc.specs.Reading.Said.{nothing, torn, heard}
use Rattle.hdlc.proofs.ReadingLaws.{after, answers}
use Rattle.d_reader.specs.Counters.{fresh_reader, read_bit, read_octets}
use Rattle.d_reader.specs.ReaderRange.{reader_in_range}
use Rattle.d_reader.specs.StandsFor.{StandsFor, ReaderReply, reader_says, reader_meaning}
use Rattle.d_reader.specs.Calls.{reader_after, speaks, speaking}
use Rattle.d_reader.specs.declared.Reader.{Reader}
use Rattle.d_reader.specs.declared.ReaderAnswer.{ReaderAnswer}
use Rattle.d_reader.specs.declared.ReaderAnswer.TheVariants.{Nothing, Heard, Torn}
use Rattle.refusals.specs.declared.Refusal.{Refusal}
use Rattle.std.specs.Prelude.{Result, Ok, Err}
use Rattle.d_reader.proofs.ReadingKept.{stands_fresh}
use Rattle.d_reader.proofs.RangesKept.{read_in_range}
use Rattle.bus_rules.specs.Bus.{Bus}
use Rattle.bus_rules.specs.Exchange.{said_to, onward, begins, opportunities_of, exchanged}
use Rattle.bus_rules.specs.Period.{reading_after, said_notes}
use Rattle.bus_record.specs.NetworkSide.{leaves_g3}
use Rattle.bus_record.specs.declared.side.RunAnswer.{RunAnswer}
use Rattle.bus_call_specs.specs.Period.{d_read, note_of, body_of}
use Rattle.bus_call_specs.specs.Lists.{reader_told}

-- ---- the range
pub after_in_range : (bs : List Bool) (r : Reader) (buf : List ℕ) → reader_in_range r ≡ true → reader_in_range (reader_after bs r buf) ≡ true
unfolding reader_after
after_in_range [] r buf h = h
after_in_range (b ∷ bs) r buf h = after_in_range bs (read_bit b buf r).reader (read_octets b r buf) (read_in_range r h b buf)

-- ---- leaving G3 clears it
module _ (r : Reader) (buf : List ℕ) (s : Reading) (h : StandsFor r buf s) where
  pub stands_left : (from then to : ℕ) →
      StandsFor (cond (leaves_g3 from then || leaves_g3 then to) fresh_reader r) buf (reading_after then to (reading_after from then s))
  unfolding reading_after
  stands_left from then to =
      by_test (eqb from G3)
      (λ a. by_test (eqb then G3)
      (λ b. by_test (eqb to G3) (λ c. rw (a, b, c) h) (λ c. rw (a, b, c) (stands_fresh buf)))
      (λ b. rw (a, b) (stands_fresh buf)))
      (λ a. by_test (eqb then G3)
      (λ b. by_test (eqb to G3) (λ c. rw (a, b, c) h) (λ c. rw (a, b, c) (stands_fresh buf)))
      (λ b. rw (a, b) h))

-- ---- the reader over raw bits in an exchange
module _ (b : Bus) where
  pub reading_exchanged : (exchanged b).reading ≡ after b.reading (d_read b)
  unfolding exchanged onward begins opportunities_of d_read after
  reading_exchanged = by_test (eqb b.network.state G3) (λ t. rw t) (λ t. rw t)

  pub said_exchanged : (now : ℕ) → said_notes now (exchanged b).saids ≡ said_notes now (answers b.reading (d_read b))
  unfolding exchanged onward begins opportunities_of d_read answers said_to said_notes
  said_exchanged now = by_test (eqb b.network.state G3) (λ t. rw t) (λ t. rw t)

-- ---- the note
module _ (now : ℕ) (octets : List ℕ) where
  abbrev meant : List (Result ReaderAnswer Refusal) → List ReaderReply
  meant xs = map (λ (x : Result ReaderAnswer Refusal). reader_meaning x octets) xs

  abbrev Means : List (Result ReaderAnswer Refusal) → List Said → Type 0
  Means xs ss = meant xs ≡ map reader_says ss

  -- nothing said
  quiet_notes : (xs : List (Result ReaderAnswer Refusal)) (ss : List Said) → Means xs ss → speaking xs ≡ 0 → said_notes now ss ≡ []
  unfolding said_notes speaking speaks reader_meaning
  quiet_notes [] [] e z = refl
  quiet_notes [] (s ∷ ss) e z = let n : ◌≡◌ {A = ℕ} 0 1 = cc in absurd (omega arith)
  quiet_notes (x ∷ xs) [] e z = let n : ◌≡◌ {A = ℕ} 0 1 = cc in absurd (omega arith)
  quiet_notes (Ok Nothing ∷ xs) (nothing ∷ ss) e z = quiet_notes xs ss (cc) (omega arith)
  quiet_notes (Ok Nothing ∷ xs) (torn ∷ ss) e z = let n : ◌≡◌ {A = ℕ} 0 1 = cc in absurd (omega arith)
  quiet_notes (Ok Nothing ∷ xs) (heard body ∷ ss) e z = let n : ◌≡◌ {A = ℕ} 0 1 = cc in absurd (omega arith)
  quiet_notes (Ok (Heard n) ∷ xs) (s ∷ ss) e z = absurd (omega arith)
  quiet_notes (Ok Torn ∷ xs) (s ∷ ss) e z = absurd (omega arith)
  quiet_notes (Err k ∷ xs) (s ∷ ss) e z = let n : ◌≡◌ {A = ℕ} 0 1 = cc in absurd (omega arith)

  pub note_said : (r : RunAnswer) (xs : List (Result ReaderAnswer Refusal)) (ss : List Said) → r.said ≡ note_of xs → r.body ≡ body_of xs → Means xs ss → speaking xs ≤ 1 →
      reader_told now r octets ≡ said_notes now ss
  unfolding reader_told said_notes speaking speaks reader_meaning note_of body_of
  note_said r [] [] p q e l = rw p
  note_said r [] (s ∷ ss) p q e l = let n : ◌≡◌ {A = ℕ} 0 1 = cc in absurd (omega arith)
  note_said r (x ∷ xs) [] p q e l = let n : ◌≡◌ {A = ℕ} 0 1 = cc in absurd (omega arith)
  note_said r (Ok Nothing ∷ xs) (nothing ∷ ss) p q e l = note_said r xs ss p q (cc) (omega arith)
  note_said r (Ok Nothing ∷ xs) (torn ∷ ss) p q e l = let n : ◌≡◌ {A = ℕ} 0 1 = cc in absurd (omega arith)
  note_said r (Ok Nothing ∷ xs) (heard body ∷ ss) p q e l = let n : ◌≡◌ {A = ℕ} 0 1 = cc in absurd (omega arith)
  note_said r (Ok (Heard n) ∷ xs) (heard body ∷ ss) p q e l =
      let same : take n octets ≡ body = cc in
      rw (p, q, quiet_notes xs ss (cc) (omega arith), same)
  note_said r (Ok (Heard n) ∷ xs) (nothing ∷ ss) p q e l = let n : ◌≡◌ {A = ℕ} 0 1 = cc in absurd (omega arith)
  note_said r (Ok (Heard n) ∷ xs) (torn ∷ ss) p q e l = let n : ◌≡◌ {A = ℕ} 0 1 = cc in absurd (omega arith)
  note_said r (Ok Torn ∷ xs) (torn ∷ ss) p q e l = rw (p, quiet_notes xs ss (cc) (omega arith))
  note_said r (Ok Torn ∷ xs) (nothing ∷ ss) p q e l = let n : ◌≡◌ {A = ℕ} 0 1 = cc in absurd (omega arith)
  note_said r (Ok Torn ∷ xs) (heard body ∷ ss) p q e l = let n : ◌≡◌ {A = ℕ} 0 1 = cc in absurd (omega arith)
  note_said r (Err k ∷ xs) (s ∷ ss) p q e l = let n : ◌≡◌ {A = ℕ} 0 1 = cc in absurd (omega arith)
