-- What stays after an answer: a heard body in the octets, and no second answer for some bits. Of every record, and of every buffer.
use mathlib.Core.Bool.{Bool, true, false, cond}
use mathlib.Core.List.{List, [], ◌∷◌, map}
use mathlib.Core.Path.{◌≡◌, refl, ap, ◌∙◌}
use mathlib.Core.Logic.{⊎_elim, ◌⊎◌, inl, inr}
use Prim.Native.Nat.{ℕ, zero, suc, ◌+◌, ◌-◌, ◌*◌, ◌/◌, ◌%◌, ◌≤◌, ◌<◌}
use native.Mathlib.Omega.{arith}
use lib.Dec.{ltb, leb, eqb}
use lib.ListN.{length}
use borrow.Author.Tests.{lt-ltb, ltb-false, leb-true, ne_eqb, eqb-true}
use Rattle.test_lemmas.proofs.ByCases.{by_test}
use Rattle.hdlc.specs.Image.{longest_body}
use Rattle.d_reader.specs.Counters.{Read, most_bits, one_more, after_bit, is_data, fills, store_whole, between_flags, aborted_after, answer_to, read_bit, read_octets}
use Rattle.hdlc.specs.Reading.{Reading, said, next}
use Rattle.hdlc.proofs.ReadingLaws.{answers}
use Rattle.d_reader.specs.StandsFor.{StandsFor, reader_says, reader_meaning}
use Rattle.d_reader.proofs.ReadingKept.{reads_on, length_read_octets}
use Rattle.d_reader.specs.Calls.{octets_after, answers_after, speaks, speaking}
use Rattle.d_reader.specs.declared.Reader.{Reader}
use Rattle.d_reader.specs.declared.ReaderAnswer.{ReaderAnswer}
use Rattle.d_reader.specs.declared.ReaderAnswer.TheVariants.{Nothing, Heard, Torn}
use Rattle.refusals.specs.declared.Refusal.{Refusal}
use Rattle.refusals.specs.declared.Refusal.TheVariants.{WrongSlice}
use Rattle.std.specs.Prelude.{Result, Ok, Err}

-- a property of what a call gives, short buffers and others apart
by_room {ℓ} : (P : Read → Type ℓ) (b : Bool) (buf : List ℕ) (r : Reader) → P (record { reader = r; answer = Err WrongSlice })
    → P (record { reader = after_bit b r; answer = Ok (answer_to b r) }) → P (read_bit b buf r)
unfolding read_bit
by_room P b buf r p q = by_test (ltb (length buf) longest_body) (λ t. simp t p) (λ t. simp t q)

-- while fewer than seven bits are counted, no octet of the buffer changes
none_whole : (b : Bool) (r : Reader) (buf : List ℕ) → r.bits < 7 → read_octets b r buf ≡ buf
unfolding read_octets store_whole fills
none_whole b r buf l =
    let e : eqb (r.bits % 8) 7 ≡ false = ne_eqb (r.bits % 8) 7 (λ z. omega arith) in
    by_test (ltb (length buf) longest_body)
    (λ t. simp t)
    (λ t. by_test r.opened (λ o. by_test (is_data b r.ones) (λ d. simp (t, o, d, e)) (λ d. simp (t, o, d))) (λ o. simp (t, o)))

more_by_one : (n : ℕ) → one_more n ≤ n + 1
unfolding one_more
more_by_one n = by_test (ltb n most_bits) (λ t. simp t (omega arith)) (λ t. simp t (omega (arith, ltb-false n most_bits t)))

after_bits : (b : Bool) (r : Reader) → (after_bit b r).bits ≤ r.bits + 1
unfolding after_bit
after_bits true r = by_test (ltb r.ones 6) (λ t. simp t (more_by_one r.bits)) (λ t. simp t (omega arith))
after_bits false r =
    by_test (eqb r.ones 6)
    (λ t. simp t (omega arith))
    (λ t. by_test (eqb r.ones 5) (λ e. simp (t, e) (omega arith)) (λ e. simp (t, e) (more_by_one r.bits)))

octets_stay : (bs : List Bool) (r : Reader) (buf : List ℕ) → r.bits + length bs ≤ 7 → octets_after bs r buf ≡ buf
unfolding octets_after
octets_stay [] r buf h = refl
octets_stay (b ∷ bs) r buf h =
    let l : (read_bit b buf r).reader.bits ≤ r.bits + 1 = by_room (λ (x : Read). x.reader.bits ≤ r.bits + 1) b buf r (omega arith) (after_bits b r) in
    rw (none_whole b r buf (omega arith)) (octets_stay bs (read_bit b buf r).reader buf (omega arith))

not_heard : (k n : ℕ) → aborted_after k ≡ Heard n → ⊥
unfolding aborted_after
not_heard k n e =
    by_test (ltb k 8)
    (λ t. let x : Nothing ≡ Heard n = simp t at e in let z : ◌≡◌ {A = ℕ} 0 1 = cc in omega arith)
    (λ t. let x : Torn ≡ Heard n = simp t at e in let z : ◌≡◌ {A = ℕ} 0 1 = cc in omega arith)

between_heard : (k n : ℕ) → between_flags k ≡ Heard n → (1 ≤ n) × (n ≤ longest_body)
unfolding between_flags
between_heard k n e =
    by_test (ltb k 8)
    (λ t. let x : Nothing ≡ Heard n = simp t at e in let z : ◌≡◌ {A = ℕ} 0 1 = cc in absurd (omega arith))
    (λ t. by_test (eqb (k % 8) 0)
    (λ f. by_test (leb k (8 * longest_body))
    (λ g. let x : Heard (k / 8) ≡ Heard n = simp (t, f, g) at e in
    let y : k / 8 ≡ n = cc in
    let l : 8 ≤ k = ltb-false k 8 t in
    let m : k ≤ 8 * longest_body = leb-true k (8 * longest_body) g in
    (omega arith, omega arith))
    (λ g. let x : Torn ≡ Heard n = simp (t, f, g) at e in let z : ◌≡◌ {A = ℕ} 0 1 = cc in absurd (omega arith)))
    (λ f. let x : Torn ≡ Heard n = simp (t, f) at e in let z : ◌≡◌ {A = ℕ} 0 1 = cc in absurd (omega arith)))

-- what a heard body says: the reader begins anew, and the length is one that a body may have
heard_says : (b : Bool) (r : Reader) (n : ℕ) → answer_to b r ≡ Heard n → ((after_bit b r).bits ≡ 0) × (1 ≤ n) × (n ≤ longest_body)
unfolding answer_to after_bit
heard_says b r n e =
    by_test r.opened
    (λ o. by_test (eqb r.ones 6) (λ t. six b t (simp (o, t) at e)) (λ t. absurd (silent (simp (o, t) at e))))
    (λ o. absurd (silent (simp o at e)))
  where
    silent : Nothing ≡ Heard n → ⊥
    silent x = let z : ◌≡◌ {A = ℕ} 0 1 = cc in omega arith

    six : (b : Bool) → eqb r.ones 6 ≡ true → cond b (aborted_after (r.bits - 6)) (between_flags (r.bits - cond r.zero 7 6)) ≡ Heard n
        → ((after_bit b r).bits ≡ 0) × (1 ≤ n) × (n ≤ longest_body)
    six true t x = absurd (not_heard (r.bits - 6) n x)
    six false t x =
        let y : (1 ≤ n) × (n ≤ longest_body) = between_heard (r.bits - cond r.zero 7 6) n x in
        (simp t, y.0, y.1)

-- the same of a call
pub heard_call : (b : Bool) (r : Reader) (buf : List ℕ) (n : ℕ) → (read_bit b buf r).answer ≡ Ok (Heard n)
    → ((read_bit b buf r).reader.bits ≡ 0) × (1 ≤ n) × (n ≤ longest_body)
heard_call b r buf n e =
    by_room (λ (x : Read). x.answer ≡ Ok (Heard n) → (x.reader.bits ≡ 0) × (1 ≤ n) × (n ≤ longest_body)) b buf r refused told e
  where
    told : ◌≡◌ {A = Result ReaderAnswer Refusal} (Ok (answer_to b r)) (Ok (Heard n)) → ((after_bit b r).bits ≡ 0) × (1 ≤ n) × (n ≤ longest_body)
    told x = heard_says b r n cc

    refused : ◌≡◌ {A = Result ReaderAnswer Refusal} (Err WrongSlice) (Ok (Heard n)) → (r.bits ≡ 0) × (1 ≤ n) × (n ≤ longest_body)
    refused x = let z : ◌≡◌ {A = ℕ} 0 1 = cc in absurd (omega arith)

-- After a heard body up to seven further calls change no octet of the buffer: the body stays in its first ones.
pub heard_stays : (b : Bool) (r : Reader) (buf : List ℕ) (n : ℕ) → (read_bit b buf r).answer ≡ Ok (Heard n)
    → (bs : List Bool) → length bs ≤ 7 → octets_after bs (read_bit b buf r).reader (read_octets b r buf) ≡ read_octets b r buf
heard_stays b r buf n e bs l =
    octets_stay bs (read_bit b buf r).reader (read_octets b r buf) (omega (arith, (heard_call b r buf n e).0))

-- at rest for k bits: too few 1s for an answer, or waiting for a flag after seven 1s
abbrev Resting : ℕ → Reader → Type 0
Resting k r = (r.ones + k ≤ 6) ⊎ ((r.opened ≡ false) × (r.ones ≡ 7))

-- a 0 that ends no flag
zero_ones : (r : Reader) → eqb r.ones 6 ≡ false → (after_bit false r).ones ≡ 0
unfolding after_bit
zero_ones r t = by_test (eqb r.ones 5) (λ e. simp (t, e)) (λ e. simp (t, e))

rests_on : (k : ℕ) (b : Bool) (r : Reader) → suc k ≤ 6 → Resting (suc k) r
    → (answer_to b r ≡ Nothing) × Resting k (after_bit b r)
unfolding answer_to after_bit
rests_on k b r l (inl h) =
    let t : eqb r.ones 6 ≡ false = ne_eqb r.ones 6 (λ z. omega arith) in
    (by_test r.opened (λ o. simp (o, t)) (λ o. simp o), inl (few b t))
  where
    few : (b : Bool) → eqb r.ones 6 ≡ false → (after_bit b r).ones + k ≤ 6
    few true t = simp (lt-ltb r.ones 6 (omega arith)) (omega arith)
    few false t = omega (arith, zero_ones r t)
rests_on k b r l (inr h) = (simp h.0, waits b)
  where
    waits : (b : Bool) → Resting k (after_bit b r)
    waits true = simp h.1 (inr (refl, refl))
    waits false = inl (omega (arith, zero_ones r (ne_eqb r.ones 6 (λ z. omega arith))))

-- at rest, no answer says heard or torn
none_speaks : (bs : List Bool) (k : ℕ) (r : Reader) (buf : List ℕ) → length bs ≤ k → k ≤ 6 → Resting k r
    → speaking (answers_after bs r buf) ≡ 0
unfolding speaking answers_after speaks
none_speaks [] k r buf n l h = refl
none_speaks (b ∷ bs) zero r buf n l h = absurd (omega arith)
none_speaks (b ∷ bs) (suc k) r buf n l h =
    let x : (speaks (read_bit b buf r).answer ≡ 0) × Resting k (read_bit b buf r).reader =
    by_room (λ (a : Read). (speaks a.answer ≡ 0) × Resting k a.reader) b buf r
    (refl, ⊎_elim (λ q. inl (omega arith)) (λ q. inr q) h)
    (ap (λ (x : ReaderAnswer). speaks (Ok x)) (rests_on k b r l h).0, (rests_on k b r l h).1) in
    omega (arith, x.0, none_speaks bs k (read_bit b buf r).reader (read_octets b r buf) (omega arith) (omega arith) x.1)

-- an answer says neither, or the reader is at rest after it
then_rests : (b : Bool) (r : Reader) → (speaks (Ok (answer_to b r)) ≡ 0) ⊎ Resting 6 (after_bit b r)
unfolding answer_to after_bit speaks
then_rests b r =
    by_test r.opened
    (λ o. by_test (eqb r.ones 6) (λ t. inr (six b t)) (λ t. inl (simp (o, t))))
    (λ o. inl (simp o))
  where
    six : (b : Bool) → eqb r.ones 6 ≡ true → Resting 6 (after_bit b r)
    six true t = simp (eqb-true r.ones 6 t) (inr (refl, refl))
    six false t = simp t (inl (omega arith))

speaks_most : (a : Result ReaderAnswer Refusal) → speaks a ≤ 1
unfolding speaks
speaks_most (Ok Nothing) = omega arith
speaks_most (Ok (Heard n)) = omega arith
speaks_most (Ok Torn) = omega arith
speaks_most (Err k) = omega arith

-- Of up to seven bits running, as the four of a period are, at most one is answered by heard or torn.
pub one_speaks : (bs : List Bool) (r : Reader) (buf : List ℕ) → length bs ≤ 7 → speaking (answers_after bs r buf) ≤ 1
unfolding speaking answers_after speaks
one_speaks [] r buf n = omega arith
one_speaks (b ∷ bs) r buf n =
    let x : (speaks (read_bit b buf r).answer ≡ 0) ⊎ Resting 6 (read_bit b buf r).reader =
    by_room (λ (a : Read). (speaks a.answer ≡ 0) ⊎ Resting 6 a.reader) b buf r (inl refl) (then_rests b r) in
    ⊎_elim
    (λ e. omega (arith, e, one_speaks bs (read_bit b buf r).reader (read_octets b r buf) (omega arith)))
    (λ e. omega (arith, speaks_most (read_bit b buf r).answer, none_speaks bs 6 (read_bit b buf r).reader (read_octets b r buf) (omega arith) (omega arith) e))
    x

-- what an answer means stays for up to seven further calls
meaning_stays : (b : Bool) (r : Reader) (buf : List ℕ) (bs : List Bool) → length bs ≤ 7 → (x : Result ReaderAnswer Refusal) → (read_bit b buf r).answer ≡ x
    → reader_meaning x (octets_after bs (read_bit b buf r).reader (read_octets b r buf)) ≡ reader_meaning x (read_octets b r buf)
unfolding reader_meaning
meaning_stays b r buf bs l (Ok Nothing) e = refl
meaning_stays b r buf bs l (Ok (Heard n)) e = rw (heard_stays b r buf n e bs l)
meaning_stays b r buf bs l (Ok Torn) e = refl
meaning_stays b r buf bs l (Err k) e = refl

-- Up to eight bits running, as the four of a period: the answers mean, with the octets as the last call leaves them, what the reader over
-- raw bits says to these bits.
pub answers_say : (bs : List Bool) (r : Reader) (buf : List ℕ) (s : Reading) → length bs ≤ 8 → longest_body ≤ length buf → StandsFor r buf s
    → map (λ (x : Result ReaderAnswer Refusal). reader_meaning x (octets_after bs r buf)) (answers_after bs r buf) ≡ map reader_says (answers s bs)
unfolding octets_after answers_after answers
answers_say [] r buf s n long h = refl
answers_say (b ∷ bs) r buf s n long h =
    let r' : Reader = (read_bit b buf r).reader in
    let buf' : List ℕ = read_octets b r buf in
    let x : (reader_meaning (read_bit b buf r).answer buf' ≡ reader_says (said s b)) × StandsFor r' buf' (next s b) =
    reads_on r buf b _ _ refl refl s long h in
    let first : reader_meaning (read_bit b buf r).answer (octets_after bs r' buf') ≡ reader_says (said s b) =
    meaning_stays b r buf bs (omega arith) (read_bit b buf r).answer refl ∙ x.0 in
    rw (first, answers_say bs r' buf' (next s b) (omega arith) (rw (length_read_octets b r buf) long) x.1)
