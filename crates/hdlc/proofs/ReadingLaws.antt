-- Laws of the reader (document 01, "D access (6.1)", second paragraph): what it says to flags, to images, to 1s and to a whole
-- list of images.
use mathlib.Core.Bool.{Bool, true, false, cond}
use mathlib.Core.Path.{◌≡◌, refl, sym, ap, ◌∙◌}
use mathlib.Core.List.{List, [], ◌∷◌, ◌++◌, map, append_assoc, append-nil}
use Prim.Native.Nat.{ℕ, zero, suc, ◌+◌, ◌-◌, ◌*◌, ◌/◌, ◌%◌, ◌≤◌, ◌<◌}
use native.Mathlib.Omega.{arith}
use native.Mathlib.Numerals.{add-one}
use lib.Dec.{eqb, leb, ltb}
use lib.ListN.{length, get_or, take, drop, replicate, length-replicate, replicate-append-replicate}
use lib.Seq.{take-length, take-add, get_or_at}
use borrow.Author.Tests.{eqb-true, eqb-false, eq-eqb, le-leb, le-ltb}
use Rattle.hdlc.specs.Bits.{body_bits}
use Rattle.hdlc.specs.Image.{flag, stuff, image, IsBody, longest_body}
use Rattle.hdlc.specs.Reading.{Reading, Said, nothing, torn, heard, cleared, starts_with, seven_ones, unstuff, reversed, rest, contents, between, aborted, says, said, next}
use Rattle.hdlc.specs.Ones.{ones_after, leading}
use Rattle.test_lemmas.proofs.ByCases.{by_test}
use Rattle.hdlc.proofs.OnesLaws.{runs_after, Runs}
use Rattle.hdlc.proofs.ImageLaws.{octets_body_bits, length_body_bits, unstuff_stuff, stuff_runs, length_image}

-- the reader after a list of bits
unfoldable pub after : Reading → List Bool → Reading
after r [] = r
after r (b ∷ bs) = after (next r b) bs

-- what it says to them, one answer for each bit
unfoldable pub answers : Reading → List Bool → List Said
answers r [] = []
answers r (b ∷ bs) = said r b ∷ answers (next r b) bs

pub after_append : (bs cs : List Bool) (r : Reading) → after r (bs ++ cs) ≡ after (after r bs) cs
unfolding after
after_append [] cs r = refl
after_append (b ∷ bs) cs r = after_append bs cs (next r b)

pub answers_append : (bs cs : List Bool) (r : Reading) → answers r (bs ++ cs) ≡ answers r bs ++ answers (after r bs) cs
unfolding after answers
answers_append [] cs r = refl
answers_append (b ∷ bs) cs r = rw (answers_append bs cs (next r b))

pub length_answers : (bs : List Bool) (r : Reading) → length (answers r bs) ≡ length bs
unfolding answers
length_answers [] r = refl
length_answers (b ∷ bs) r = ap suc (length_answers bs (next r b))

-- the answer to bit number s is what the reader says to it after the s bits before it
pub answer_at : (bs : List Bool) (r : Reading) (s : ℕ) (b : Bool) → s < length bs
    → get_or (answers r bs) s nothing ≡ said (after r (take s bs)) (get_or bs s b)
unfolding after answers
answer_at [] r s b h = absurd (omega arith)
answer_at (c ∷ bs) r zero b h = refl
answer_at (c ∷ bs) r (suc s) b h = answer_at bs (next r c) s b (omega arith)

pub after_at : (bs : List Bool) (r : Reading) (s : ℕ) (b : Bool) → s < length bs
    → after r (take (suc s) bs) ≡ next (after r (take s bs)) (get_or bs s b)
unfolding after
after_at [] r s b h = absurd (omega arith)
after_at (c ∷ bs) r zero b h = refl
after_at (c ∷ bs) r (suc s) b h = after_at bs (next r c) s b (omega arith)

pub answers_take : (bs : List Bool) (r : Reading) (s : ℕ) → answers r (take s bs) ≡ take s (answers r bs)
unfolding answers
answers_take bs r zero = refl
answers_take [] r (suc s) = refl
answers_take (b ∷ bs) r (suc s) = rw (answers_take bs (next r b) s)

-- open with no bits: only the closing 0 of the flag, which the next flag may share
abbrev pub opened_fresh : Reading
opened_fresh = record { opened = true; raw = false ∷ [] }

-- what ends a flag
abbrev pub flag_end : List Bool
flag_end = true ∷ true ∷ true ∷ true ∷ true ∷ true ∷ false ∷ []

-- after a 0 the other seven bits of a flag leave the reader open with no bits ..
pub after_flag_end : (o : Bool) (bs : List Bool) → after (record { opened = o; raw = false ∷ bs }) flag_end ≡ opened_fresh
unfolding after next starts_with
after_flag_end o bs = refl

-- .. and nothing is said to them, but to the last, where it closes a frame
pub answers_flag_end : (o : Bool) (bs : List Bool)
    → answers (record { opened = o; raw = false ∷ bs }) flag_end ≡ replicate 6 nothing ++ (cond o (between (contents bs)) nothing ∷ [])
unfolding answers said says next starts_with
answers_flag_end true bs = refl
answers_flag_end false bs = refl

-- a 0 closes a flag, or is one more bit
pub zero_closes : (r : Reading) → starts_with flag (false ∷ r.raw) ≡ true → next r false ≡ opened_fresh
unfolding next
zero_closes r e = rw e

zero_keeps : (r : Reading) → starts_with seven_ones (false ∷ r.raw) ≡ false
unfolding starts_with
zero_keeps r = refl

pub zero_adds : (r : Reading) → starts_with flag (false ∷ r.raw) ≡ false → next r false ≡ record { opened = r.opened; raw = false ∷ r.raw }
unfolding next
zero_adds r e = rw (e, zero_keeps r)

-- Reading the eight bits of a flag, from any reading, leaves the reader open with no bits
pub flag_opens : (r : Reading) → after r flag ≡ opened_fresh
unfolding after
flag_opens r =
    by_test (starts_with flag (false ∷ r.raw)) (λ e. rw (zero_closes r e) (after_flag_end true []))
    (λ e. rw (zero_adds r e) (after_flag_end r.opened r.raw))

-- a waiting reader says nothing
pub waiting_silent : (r : Reading) (b : Bool) → r.opened ≡ false → said r b ≡ nothing
unfolding said says
waiting_silent r b e = rw e

-- the raw bits are newest first
pub leading_reversed : (bs cs : List Bool) → leading (reversed bs ++ cs) ≡ ones_after (leading cs) bs
unfolding leading reversed ones_after
leading_reversed [] cs = refl
leading_reversed (true ∷ bs) cs = rw append_assoc (leading_reversed bs (true ∷ cs))
leading_reversed (false ∷ bs) cs = rw append_assoc (leading_reversed bs (false ∷ cs))

leading_ones : (n : ℕ) (bs : List Bool) → leading (replicate n true ++ (false ∷ bs)) ≡ n
unfolding leading
leading_ones zero bs = refl
leading_ones (suc n) bs = ap suc (leading_ones n bs)

-- fewer 1s lead a list than it would begin with
starts_with_ones : (n : ℕ) (bs cs : List Bool) → leading cs < n → starts_with (replicate n true ++ bs) cs ≡ false
unfolding starts_with leading
starts_with_ones zero bs cs h = absurd (omega arith)
starts_with_ones (suc n) bs [] h = refl
starts_with_ones (suc n) bs (true ∷ cs) h = starts_with_ones n bs cs (omega arith)
starts_with_ones (suc n) bs (false ∷ cs) h = refl

-- with at most five 1s before it, a bit is one more bit, to which nothing is said
pub zero_no_flag : (bs : List Bool) → leading bs ≤ 5 → starts_with flag (false ∷ bs) ≡ false
unfolding starts_with
zero_no_flag bs h = starts_with_ones 6 (false ∷ []) bs (omega arith)

one_no_flag : (bs : List Bool) → starts_with flag (true ∷ bs) ≡ false
unfolding starts_with
one_no_flag bs = refl

one_no_seven : (bs : List Bool) → leading bs ≤ 5 → starts_with seven_ones (true ∷ bs) ≡ false
unfolding starts_with
one_no_seven bs h = starts_with_ones 6 [] bs (omega arith)

pub bit_adds : (o : Bool) (bs : List Bool) (b : Bool) → leading bs ≤ 5
    → next (record { opened = o; raw = bs }) b ≡ record { opened = o; raw = b ∷ bs }
unfolding next
bit_adds o bs true h = rw (one_no_flag bs, one_no_seven bs h)
bit_adds o bs false h = zero_adds (record { opened = o; raw = bs }) (zero_no_flag bs h)

pub bit_silent : (o : Bool) (bs : List Bool) (b : Bool) → leading bs ≤ 5 → said (record { opened = o; raw = bs }) b ≡ nothing
unfolding said says
bit_silent false bs b h = refl
bit_silent true bs true h = rw (one_no_flag bs, one_no_seven bs h)
bit_silent true bs false h = rw (zero_no_flag bs h, zero_keeps (record { opened = true; raw = bs }))

-- so it is with bits that have no six 1s in a row
pub bits_add : (bs : List Bool) (o : Bool) (cs : List Bool) → leading cs ≤ 5 → Runs 5 (leading cs) bs
    → after (record { opened = o; raw = cs }) bs ≡ record { opened = o; raw = reversed bs ++ cs }
unfolding after reversed leading
bits_add [] o cs h r = refl
bits_add (true ∷ bs) o cs h r = rw (bit_adds o cs true h, append_assoc) (bits_add bs o (true ∷ cs) r.0 r.1)
bits_add (false ∷ bs) o cs h r = rw (bit_adds o cs false h, append_assoc) (bits_add bs o (false ∷ cs) (omega arith) r)

pub bits_silent : (bs : List Bool) (o : Bool) (cs : List Bool) → leading cs ≤ 5 → Runs 5 (leading cs) bs
    → answers (record { opened = o; raw = cs }) bs ≡ replicate (length bs) nothing
unfolding answers leading
bits_silent [] o cs h r = refl
bits_silent (true ∷ bs) o cs h r = rw (bit_adds o cs true h, bit_silent o cs true h, bits_silent bs o (true ∷ cs) r.0 r.1)
bits_silent (false ∷ bs) o cs h r = rw (bit_adds o cs false h, bit_silent o cs false h, bits_silent bs o (false ∷ cs) (omega arith) r)

reversed_append : (bs cs : List Bool) → reversed (bs ++ cs) ≡ reversed cs ++ reversed bs
unfolding reversed
reversed_append [] cs = sym (append-nil (reversed cs))
reversed_append (b ∷ bs) cs = rw (reversed_append bs cs, append_assoc)

pub reversed_twice : (bs : List Bool) → reversed (reversed bs) ≡ bs
unfolding reversed
reversed_twice [] = refl
reversed_twice (b ∷ bs) = rw (reversed_append (reversed bs) (b ∷ []), reversed_twice bs)

pub reversed_zero : (bs : List Bool) → rest (reversed (bs ++ (false ∷ []))) ≡ reversed bs
unfolding rest reversed
reversed_zero bs = rw (reversed_append bs (false ∷ []))

-- what has been read since the flag, inserted 0s removed
pub contents_reversed : (bs : List Bool) → contents (reversed bs ++ (false ∷ [])) ≡ unstuff 0 bs
unfolding contents
contents_reversed bs = rw (reversed_zero (reversed bs), reversed_twice bs)

-- "whole octets, 1 to 266, are heard"
pub between_body : (body : List ℕ) → IsBody body → between (body_bits body) ≡ heard body
unfolding between
between_body body b =
    let n : ℕ = length body in
    let many : ltb (8 * n) 8 ≡ false = le-ltb (8 * n) 8 (omega (arith, b.some_octet)) in
    let whole : eqb (8 * n % 8) 0 ≡ true = eq-eqb (8 * n % 8) 0 (omega arith) in
    let fits : leb (8 * n) (8 * longest_body) ≡ true = le-leb (8 * n) (8 * longest_body) (omega (arith, b.at_most)) in
    let each : 8 * n / 8 ≡ n = omega arith in
    rw (length_body_bits body, many, whole, fits, each, octets_body_bits body b.octet)

-- nothing n times, then the given answer
abbrev pub at_last : ℕ → Said → List Said
at_last n w = replicate n nothing ++ (w ∷ [])

at_last_after : (n m : ℕ) (w : Said) → replicate n nothing ++ at_last m w ≡ at_last (n + m) w
at_last_after n m w = sym (append_assoc (replicate n nothing) (replicate m nothing) (w ∷ [])) ∙ rw (replicate-append-replicate n m nothing)

pub at_last_before : (n s : ℕ) (w : Said) → s < n → get_or (at_last n w) s nothing ≡ nothing
at_last_before zero s w h = absurd (omega arith)
at_last_before (suc n) zero w h = refl
at_last_before (suc n) (suc s) w h = at_last_before n s w (omega arith)

pub at_last_at : (n s : ℕ) (w : Said) → s ≡ n → get_or (at_last n w) s nothing ≡ w
at_last_at n s w e = get_or_at (replicate n nothing) w [] nothing s (length-replicate n nothing ∙ sym e)

-- a flag after bits that end in at most five 1s closes the frame at its last bit
pub closing : (bs : List Bool) → leading bs ≤ 5 → answers (record { opened = true; raw = bs }) flag ≡ at_last 7 (between (contents bs))
unfolding answers
closing bs h = rw (bit_silent true bs false h, bit_adds true bs false h, answers_flag_end true bs)

-- a body's bits and the closing flag, read from an opening flag on
pub after_rest : (body : List ℕ) → after opened_fresh (stuff 0 (body_bits body) ++ flag) ≡ opened_fresh
after_rest body = rw (after_append (stuff 0 (body_bits body)) flag opened_fresh) (flag_opens _)

pub answers_rest : (body : List ℕ) → IsBody body
    → answers opened_fresh (stuff 0 (body_bits body) ++ flag) ≡ at_last (length (stuff 0 (body_bits body)) + 7) (heard body)
unfolding leading
answers_rest body b =
    let bs : List Bool = stuff 0 (body_bits body) in
    let runs : Runs 5 0 bs = stuff_runs (body_bits body) 0 (omega arith) in
    let few : leading (reversed bs ++ (false ∷ [])) ≤ 5 = rw (leading_reversed bs (false ∷ [])) (runs_after bs 5 0 (omega arith) runs) in
    answers_append bs flag opened_fresh
    ∙ rw (
      bits_silent bs true (false ∷ []) (omega arith) runs,
      bits_add bs true (false ∷ []) (omega arith) runs,
      closing (reversed bs ++ (false ∷ [])) few,
      contents_reversed bs,
      unstuff_stuff (body_bits body) 0 (omega arith),
      between_body body b,
    )
    (at_last_after (length bs) 7 (heard body))

-- Between frames: the reader waits for a flag, or has read nothing but 1s, at most six, since the last flag
abbrev pub ones_since : ℕ → Reading
ones_since n = record { opened = true; raw = replicate n true ++ (false ∷ []) }

pub data Quiet (r : Reading) : Type 0 where
  waiting : r.opened ≡ false → Quiet r
  ones : (n : ℕ) → n ≤ 6 → r ≡ ones_since n → Quiet r

pub quiet_opened : Quiet opened_fresh
quiet_opened = ones 0 (omega arith) refl

pub quiet_cleared : Quiet cleared
quiet_cleared = waiting refl

-- the seventh 1
six_silent : said (ones_since 6) true ≡ nothing
unfolding said says starts_with aborted contents unstuff rest reversed
six_silent = refl

six_cleared : next (ones_since 6) true ≡ cleared
unfolding next starts_with
six_cleared = refl

-- a 1 is answered by nothing, and it stays so
pub quiet_one_silent : (r : Reading) → Quiet r → said r true ≡ nothing
quiet_one_silent r (waiting e) = waiting_silent r true e
quiet_one_silent r (ones n h e) =
    rw e
    (by_test (eqb n 6) (λ t. rw (eqb-true n 6 t) six_silent)
    (λ t. bit_silent true (replicate n true ++ (false ∷ [])) true (rw (leading_ones n []) (omega (arith, eqb-false n 6 t)))))

one_waits : (r : Reading) → r.opened ≡ false → (next r true).opened ≡ false
unfolding next
one_waits r e = rw (one_no_flag r.raw) (by_test (starts_with seven_ones (true ∷ r.raw)) (λ t. rw t) (λ t. rw t e))

pub quiet_one : (r : Reading) → Quiet r → Quiet (next r true)
quiet_one r (waiting e) = waiting (one_waits r e)
quiet_one r (ones n h e) =
    rw e
    (by_test (eqb n 6) (λ t. rw (eqb-true n 6 t, six_cleared) quiet_cleared)
    (λ t.
    ones (suc n) (omega (arith, eqb-false n 6 t))
    (bit_adds true (replicate n true ++ (false ∷ [])) true (rw (leading_ones n []) (omega (arith, eqb-false n 6 t))))))

-- A run of 1s gives nothing
pub ones_silent : (n : ℕ) (r : Reading) → Quiet r → answers r (replicate n true) ≡ replicate n nothing
unfolding answers
ones_silent zero r q = refl
ones_silent (suc n) r q = rw (quiet_one_silent r q, ones_silent n (next r true) (quiet_one r q))

pub ones_quiet : (n : ℕ) (r : Reading) → Quiet r → Quiet (after r (replicate n true))
unfolding after
ones_quiet zero r q = q
ones_quiet (suc n) r q = ones_quiet n (next r true) (quiet_one r q)

-- an opening flag is answered by nothing, also where it shares its first 0
ones_flag : (n : ℕ) → n ≤ 6 → answers (ones_since n) flag ≡ replicate 8 nothing
unfolding answers next said says starts_with between contents unstuff rest reversed
ones_flag zero h = refl
ones_flag (suc zero) h = refl
ones_flag (suc (suc zero)) h = refl
ones_flag (suc (suc (suc zero))) h = refl
ones_flag (suc (suc (suc (suc zero)))) h = refl
ones_flag (suc (suc (suc (suc (suc zero))))) h = refl
ones_flag (suc (suc (suc (suc (suc (suc zero)))))) h = refl
ones_flag (suc (suc (suc (suc (suc (suc (suc n))))))) h = absurd (omega arith)

empty_between : between (contents []) ≡ nothing
unfolding between contents unstuff rest reversed
empty_between = refl

waiting_flag : (r : Reading) → r.opened ≡ false → answers r flag ≡ replicate 8 nothing
unfolding answers
waiting_flag r e =
    rw (waiting_silent r false e)
    (by_test (starts_with flag (false ∷ r.raw)) (λ t. rw (zero_closes r t, answers_flag_end true [], empty_between))
    (λ t. rw (zero_adds r t, answers_flag_end r.opened r.raw, e)))

pub quiet_flag : (r : Reading) → Quiet r → answers r flag ≡ replicate 8 nothing
quiet_flag r (waiting e) = waiting_flag r e
quiet_flag r (ones n h e) = rw e (ones_flag n h)

-- an image leaves the reader open with no bits, whatever it was before
pub after_image : (body : List ℕ) (r : Reading) → after r (image body) ≡ opened_fresh
unfolding image
after_image body r = rw (after_append flag (stuff 0 (body_bits body) ++ flag) r, flag_opens r) (after_rest body)

length_rest : (body : List ℕ) → length (stuff 0 (body_bits body)) + 7 ≡ length (image body) - 9
length_rest body = omega (arith, length_image body)

-- what follows an image's opening flag gives the body, at the last bit, and nothing before
pub answers_opened : (body : List ℕ) → IsBody body
    → answers opened_fresh (drop 8 (image body)) ≡ at_last (length (image body) - 9) (heard body)
answers_opened body b = unfold image in (answers_rest body b ∙ ap (λ (n : ℕ). at_last n (heard body)) (length_rest body))

-- an image is its opening flag and the rest
pub image_flag : (body : List ℕ) → image body ≡ flag ++ drop 8 (image body)
unfolding image
image_flag body = refl

-- an image from any reading: whatever is said to the opening flag, the body is heard at the last bit, and nothing between
pub answers_any : (body : List ℕ) (r : Reading) → IsBody body
    → answers r (image body) ≡ answers r flag ++ at_last (length (image body) - 9) (heard body)
answers_any body r b =
    ap (answers r) (image_flag body) ∙ answers_append flag (drop 8 (image body)) r ∙ rw (flag_opens r, answers_opened body b)

-- an image from a quiet reading gives the body exactly once, at its last bit, and nothing before
pub answers_image : (body : List ℕ) (r : Reading) → IsBody body → Quiet r
    → answers r (image body) ≡ at_last (length (image body) - 1) (heard body)
answers_image body r b q =
    let e : 8 + (length (image body) - 9) ≡ length (image body) - 1 = omega (arith, length_image body) in
    answers_any body r b ∙ rw (quiet_flag r q) (at_last_after 8 (length (image body) - 9) (heard body) ∙ rw e)

-- .. also after any number of 1s
pub answers_ones_image : (n : ℕ) (body : List ℕ) (r : Reading) → IsBody body → Quiet r
    → answers r (replicate n true ++ image body) ≡ replicate n nothing ++ at_last (length (image body) - 1) (heard body)
answers_ones_image n body r b q =
    answers_append (replicate n true) (image body) r
    ∙ rw (ones_silent n r q, answers_image body (after r (replicate n true)) b (ones_quiet n r q))

-- .. and where its opening flag shares the 0 of the flag before: "two flags may share a 0"
pub answers_shared : (body : List ℕ) → IsBody body
    → answers opened_fresh (drop 1 (image body)) ≡ at_last (length (image body) - 2) (heard body)
answers_shared body b =
    let e : 7 + (length (image body) - 9) ≡ length (image body) - 2 = omega (arith, length_image body) in
    ap (λ (l : List Bool). answers opened_fresh (drop 1 l)) (image_flag body)
    ∙ answers_append flag_end (drop 8 (image body)) opened_fresh
    ∙ rw (answers_flag_end true [], empty_between, after_flag_end true [], answers_opened body b)
    (at_last_after 7 (length (image body) - 9) (heard body) ∙ rw e)

opening : (body : List ℕ) (s : ℕ) → 8 ≤ s → take s (image body) ≡ flag ++ take (s - 8) (drop 8 (image body))
unfolding image
opening body s h =
    let e : s ≡ 8 + (s - 8) = omega arith in
    ap (λ (n : ℕ). take n (image body)) e ∙ take-add 8 (s - 8) (image body)

-- after the opening flag nothing is left of what the reader was before
pub opening_forgets : (body : List ℕ) (s : ℕ) (r q : Reading) → 8 ≤ s → after r (take s (image body)) ≡ after q (take s (image body))
opening_forgets body s r q h =
    rw (
      opening body s h,
      after_append flag (take (s - 8) (drop 8 (image body))) r,
      after_append flag (take (s - 8) (drop 8 (image body))) q,
      flag_opens r,
      flag_opens q,
    )

-- The reader inside an image: it has read exactly the first s bits of it since a quiet reading.
pub record Within (body : List ℕ) (s : ℕ) (r : Reading) : Type 0 where
  pub start : Reading
  pub quiet : Quiet start
  pub is : r ≡ after start (take s (image body))

-- the first bits since any reading whatever; from the eighth on that is no matter
pub record Begun (body : List ℕ) (s : ℕ) (r : Reading) : Type 0 where
  pub start : Reading
  pub is : r ≡ after start (take s (image body))

pub within_start : (body : List ℕ) (r : Reading) → Quiet r → Within body 0 r
unfolding after
within_start body r q = record { start = r; quiet = q; is = refl }

pub begun_start : (body : List ℕ) (r : Reading) → Begun body 0 r
unfolding after
begun_start body r = record { start = r; is = refl }

pub begun_within : {body : List ℕ} {s : ℕ} {r : Reading} → Begun body s r → 8 ≤ s → Within body s r
begun_within {body} {s} {r} w h =
    record { start = opened_fresh; quiet = quiet_opened; is = w.is ∙ opening_forgets body s w.start opened_fresh h }

-- one more bit
pub within_next : {body : List ℕ} {s : ℕ} {r : Reading} → Within body s r → s < length (image body)
    → Within body (s + 1) (next r (get_or (image body) s true))
within_next {body} {s} {r} w h =
    record { start = w.start; quiet = w.quiet; is = rw (w.is, add-one s) (sym (after_at (image body) w.start s true h)) }

pub begun_next : {body : List ℕ} {s : ℕ} {r : Reading} → Begun body s r → s < length (image body)
    → Begun body (s + 1) (next r (get_or (image body) s true))
begun_next {body} {s} {r} w h = record { start = w.start; is = rw (w.is, add-one s) (sym (after_at (image body) w.start s true h)) }

-- nothing is said to a bit before the last; the body is heard at the last
pub within_said : {body : List ℕ} {s : ℕ} {r : Reading} → IsBody body → Within body s r → s < length (image body)
    → said r (get_or (image body) s true) ≡ get_or (at_last (length (image body) - 1) (heard body)) s nothing
within_said {body} {s} {r} b w h =
    rw w.is
    (sym (answer_at (image body) w.start s true h) ∙ ap (λ (l : List Said). get_or l s nothing) (answers_image body w.start b w.quiet))

pub within_silent : {body : List ℕ} {s : ℕ} {r : Reading} → IsBody body → Within body s r → s + 1 < length (image body)
    → said r (get_or (image body) s true) ≡ nothing
within_silent {body} {s} {r} b w h =
    within_said b w (omega arith) ∙ at_last_before (length (image body) - 1) s (heard body) (omega arith)

pub within_heard : {body : List ℕ} {s : ℕ} {r : Reading} → IsBody body → Within body s r → s + 1 ≡ length (image body)
    → said r (get_or (image body) s true) ≡ heard body
within_heard {body} {s} {r} b w h = within_said b w (omega arith) ∙ at_last_at (length (image body) - 1) s (heard body) (omega arith)

-- after the last bit
pub within_end : {body : List ℕ} {r : Reading} → Within body (length (image body)) r → r ≡ opened_fresh
within_end {body} {r} w = w.is ∙ rw (take-length (image body)) (after_image body w.start)

pub within_quiet : {body : List ℕ} {r : Reading} → Within body (length (image body)) r → Quiet r
within_quiet w = rw (within_end w) quiet_opened

pub within_none : {body : List ℕ} {r : Reading} → Within body 0 r → Quiet r
unfolding after
within_none w = rw w.is w.quiet

-- bodies whose images agree in what has been read
pub within_other : {body : List ℕ} {s : ℕ} {r : Reading} (other : List ℕ) → Within body s r
    → take s (image other) ≡ take s (image body) → Within other s r
within_other other w e = record { start = w.start; quiet = w.quiet; is = rw e w.is }

-- Lists of images: an image and how many 1s follow it.
pub record Sending : Type 0 where
  pub body : List ℕ
  pub gap : ℕ

-- the bits of a list of images, each followed by its 1s: none, or few, or seven and more
unfoldable pub stream : List Sending → List Bool
stream [] = []
stream (x ∷ xs) = image x.body ++ (replicate x.gap true ++ stream xs)

-- the bodies, each at the last bit of its image, and nothing else
unfoldable pub told : List Sending → List Said
told [] = []
told (x ∷ xs) = at_last (length (image x.body) - 1) (heard x.body) ++ (replicate x.gap nothing ++ told xs)

abbrev pub AllBodies : List Sending → Type 0
AllBodies [] = Unit {0}
AllBodies (x ∷ xs) = IsBody x.body × AllBodies xs

-- Any concatenation of images, with or without 1s between, gives exactly the bodies in order
pub stream_told : (xs : List Sending) (r : Reading) → Quiet r → AllBodies xs → answers r (stream xs) ≡ told xs
unfolding stream told answers
stream_told [] r q b = refl
stream_told (x ∷ xs) r q b =
    let h : Quiet (after opened_fresh (replicate x.gap true)) = ones_quiet x.gap opened_fresh quiet_opened in
    answers_append (image x.body) (replicate x.gap true ++ stream xs) r
    ∙ rw (
      answers_image x.body r b.0 q,
      after_image x.body r,
      answers_append (replicate x.gap true) (stream xs) opened_fresh,
      ones_silent x.gap opened_fresh quiet_opened,
      stream_told xs (after opened_fresh (replicate x.gap true)) h b.1,
    )

-- it ends as quiet as it began
pub stream_quiet : (xs : List Sending) (r : Reading) → Quiet r → Quiet (after r (stream xs))
unfolding stream after
stream_quiet [] r q = q
stream_quiet (x ∷ xs) r q =
    rw (
      after_append (image x.body) (replicate x.gap true ++ stream xs) r,
      after_image x.body r,
      after_append (replicate x.gap true) (stream xs) opened_fresh,
    )
    (stream_quiet xs (after opened_fresh (replicate x.gap true)) (ones_quiet x.gap opened_fresh quiet_opened))

pub stream_from_cleared : (xs : List Sending) → AllBodies xs → answers cleared (stream xs) ≡ told xs
stream_from_cleared xs b = stream_told xs cleared quiet_cleared b

pub stream_from_opened : (xs : List Sending) → AllBodies xs → answers opened_fresh (stream xs) ≡ told xs
stream_from_opened xs b = stream_told xs opened_fresh quiet_opened b

-- what is said, the nothings left out
unfoldable pub spoken : List Said → List Said
spoken [] = []
spoken (nothing ∷ ws) = spoken ws
spoken (torn ∷ ws) = torn ∷ spoken ws
spoken (heard body ∷ ws) = heard body ∷ spoken ws

spoken_nothing : (n : ℕ) (ws : List Said) → spoken (replicate n nothing ++ ws) ≡ spoken ws
unfolding spoken
spoken_nothing zero ws = refl
spoken_nothing (suc n) ws = spoken_nothing n ws

pub spoken_told : (xs : List Sending) → spoken (told xs) ≡ map (λ (x : Sending). heard x.body) xs
unfolding spoken told
spoken_told [] = refl
spoken_told (x ∷ xs) =
    rw append_assoc
    (spoken_nothing (length (image x.body) - 1) (heard x.body ∷ (replicate x.gap nothing ++ told xs))
    ∙ rw (spoken_nothing x.gap (told xs), spoken_told xs))

-- .. so exactly the bodies are heard, in order, and nothing is torn
pub stream_heard : (xs : List Sending) (r : Reading) → Quiet r → AllBodies xs
    → spoken (answers r (stream xs)) ≡ map (λ (x : Sending). heard x.body) xs
stream_heard xs r q b = rw (stream_told xs r q b) (spoken_told xs)
