-- What a cycle carries: the twenty S bits and the four Q bits, as they are sent and as they are
-- heard.
use mathlib.Core.Path.{◌≡◌, refl, ap, ◌∙◌}
use mathlib.Core.Bool.{Bool, true, false, ◌&&◌}
use mathlib.Core.List.{List, [], ◌∷◌, ◌++◌, append_assoc, append-nil}
use Prim.Native.Nat.{ℕ, zero, suc, ◌+◌, ◌*◌, ◌%◌, ◌^◌, ◌<◌, ◌≤◌}
use native.Mathlib.Nat.{two-pow-succ, add-mul, mul-add, mul_right_comm}
use native.Mathlib.Omega.{arith}
use borrow.Author.Tests.{leb-true, leb-false}
use lib.Dec.{leb}
use lib.ListN.{length, get_or, length-append, length-map}
use lib.Pow.{pow_mono}
use Rattle.test_lemmas.proofs.ByCases.{by_test, and_left, and_right, and_both_true}
use Rattle.frame.specs.Bits.{bit, number_high_first}
use Rattle.frame.proofs.Bits.{number_lt, number_last}
use Rattle.cycle.specs.Cycle.{s_top, s_messages, no_q, is_q, bits_at, s_shifted, q_shifted, q_after, s_after, next_place, moved_on, has_bit}
use Rattle.cycle.specs.Periods.{Heard, throughout, in_f7, s_heard, fa_heard, q_of}
use Rattle.cycle.specs.declared.record.Cycle.{Cycle}
use Rattle.cycle.proofs.Stretch.{moved, moves, moves_sent}
use Rattle.cycle.proofs.Present.{bit_and_lem, not_nobody}

-- ---- S heard: bit after bit, the first highest, while a terminal is in F7.
pub s_heard_lem : (i : ℕ) (hs : List Heard) (c : Cycle) (bs : List Bool)
    → has_bit c.f7 i ≡ true → throughout (in_f7 i) hs ≡ true → c.sheard ≡ number_high_first bs → length bs + length hs ≤ 20
    → (moves hs c).sheard ≡ number_high_first (bs ++ s_heard hs)
unfolding moves moved_on s_after s_shifted throughout
s_heard_lem i [] c bs there all e n = e ∙ rw append-nil
s_heard_lem i (h ∷ hs) c bs there all e n =
    let less : number_high_first bs < s_top = omega (arith, number_lt bs, pow_mono {i = length bs} {j = 19} (omega arith)) in
    let still = bit_and_lem c.f7 h.f7 i ∙ and_both_true (has_bit c.f7 i) (in_f7 i h) there (and_left (in_f7 i h) (throughout (in_f7 i) hs) all) in
    let here : c.sheard % s_top * 2 + bit h.s ≡ number_high_first (bs ++ (h.s ∷ [])) = omega (arith, number_last bs h.s) in
    s_heard_lem i hs (moved h c) (bs ++ (h.s ∷ [])) still (and_right (in_f7 i h) (throughout (in_f7 i) hs) all)
    (rw (not_nobody _ i still) here) (rw length-append (omega arith))
    ∙ rw append_assoc

-- ---- S sent: the bits sent and what is left are the message moved up, one place a period.
abbrev pub s_bit : Cycle → Bool
s_bit c = (bits_at c).s

bits_long : (what : Cycle → Bool) (hs : List Heard) (c : Cycle) → length (moves_sent what hs c) ≡ length hs
unfolding moves_sent
bits_long what [] c = refl
bits_long what (h ∷ hs) c = rw (bits_long what hs (moved h c))

doubled_high : (r p x m : ℕ) → x * s_messages + m ≡ (r * 2 + 0) * p → (1 * p + x) * s_messages + m ≡ (s_top + r) * (p + p)
doubled_high r p x m e = omega (arith, add-mul (r * 2) 0 p, mul_right_comm r 2 p, add-mul s_top r (p + p), mul-add r p p)

doubled_low : (r p x m : ℕ) → x * s_messages + m ≡ (r * 2 + 0) * p → (0 * p + x) * s_messages + m ≡ r * (p + p)
doubled_low r p x m e = omega (arith, add-mul (r * 2) 0 p, mul_right_comm r 2 p, mul-add r p p)

s_left : (hs : List Heard) (c : Cycle) → c.running ≡ true → c.ssent < s_messages
    → (number_high_first (moves_sent s_bit hs c) * s_messages + (moves hs c).ssent ≡ c.ssent * 2 ^ length hs) × ((moves hs c).ssent < s_messages)
unfolding moves moves_sent moved_on s_shifted bits_at number_high_first
s_left [] c r k = (omega arith, k)
s_left (h ∷ hs) c r k =
    let next = moved h c in
    let more = s_left hs next r (omega arith) in
    let rest = number_high_first (moves_sent s_bit hs next) in
    let p = 2 ^ length hs in
    let last = (moves hs next).ssent in
    by_test (leb s_top c.ssent)
    (λ t.
    let high : c.ssent ≡ s_top + c.ssent % s_top = omega (arith, leb-true s_top c.ssent t) in
    let sent : (c.running && leb s_top c.ssent) ≡ true = rw (r, t) in
    (rw (sent, bits_long s_bit hs next, two-pow-succ (length hs)) (doubled_high (c.ssent % s_top) p rest last more.0 ∙ rw (← high)), more.1))
    (λ t.
    let low : c.ssent ≡ c.ssent % s_top = omega (arith, leb-false s_top c.ssent t) in
    let sent : (c.running && leb s_top c.ssent) ≡ false = rw (r, t) in
    (rw (sent, bits_long s_bit hs next, two-pow-succ (length hs)) (doubled_low (c.ssent % s_top) p rest last more.0 ∙ rw (← low)), more.1))

-- Twenty periods send the whole message.
pub s_all : (hs : List Heard) (c : Cycle) → c.running ≡ true → c.ssent < s_messages → length hs ≡ 20 → number_high_first (moves_sent s_bit hs c) ≡ c.ssent
s_all hs c r k n =
    let left = s_left hs c r k in
    let all : number_high_first (moves_sent s_bit hs c) * s_messages + (moves hs c).ssent ≡ c.ssent * s_messages = left.0 ∙ rw n in
    omega (arith, left.1)

-- ---- Q heard: at the four Q places, bit after bit.
unfoldable q_from : ℕ → ℕ → List Bool → ℕ
q_from place n [] = n
q_from place n (b ∷ bs) = q_from (next_place place) (q_after place n b) bs

q_from_lem : (hs : List Heard) (c : Cycle) → (moves hs c).qheard ≡ q_from c.place c.qheard (fa_heard hs)
unfolding moves moved_on q_from
q_from_lem [] c = refl
q_from_lem (h ∷ hs) c = q_from_lem hs (moved h c)

-- a list of bits by its indices
unfoldable pub spread : ℕ → (ℕ → Bool) → List Bool
spread zero f = []
spread (suc n) f = f 0 ∷ spread n (λ i. f (suc i))

spread_is : (n : ℕ) (bs : List Bool) → length bs ≡ n → bs ≡ spread n (λ i. get_or bs i true)
unfolding spread
spread_is zero [] e = refl
spread_is zero (b ∷ bs) e = absurd (omega arith)
spread_is (suc n) [] e = absurd (omega arith)
spread_is (suc n) (b ∷ bs) e = ap (λ (l : List Bool). b ∷ l) (spread_is n bs (omega arith))

pub spread_at : (n : ℕ) (f : ℕ → Bool) (i : ℕ) → i < n → get_or (spread n f) i false ≡ f i
unfolding spread
spread_at zero f i h = absurd (omega arith)
spread_at (suc n) f zero h = refl
spread_at (suc n) f (suc i) h = spread_at n (λ k. f (suc k)) i (omega arith)

-- four bits behind four are the number of the four
four_shifted : (a b c d : Bool) → q_shifted (q_shifted (q_shifted (q_shifted no_q a) b) c) d ≡ number_high_first (a ∷ b ∷ c ∷ d ∷ [])
unfolding q_shifted number_high_first
four_shifted true true true true = refl
four_shifted true true true false = refl
four_shifted true true false true = refl
four_shifted true true false false = refl
four_shifted true false true true = refl
four_shifted true false true false = refl
four_shifted true false false true = refl
four_shifted true false false false = refl
four_shifted false true true true = refl
four_shifted false true true false = refl
four_shifted false true false true = refl
four_shifted false true false false = refl
four_shifted false false true true = refl
four_shifted false false true false = refl
four_shifted false false false true = refl
four_shifted false false false false = refl

twenty : (f : ℕ → Bool) → q_from 0 no_q (spread 20 f) ≡ q_shifted (q_shifted (q_shifted (q_shifted no_q (f 0)) (f 5)) (f 10)) (f 15)
unfolding q_from spread q_after is_q next_place
twenty f = refl

pub q_heard : (hs : List Heard) (c : Cycle) → length hs ≡ 20 → c.place ≡ 0 → c.qheard ≡ no_q → (moves hs c).qheard ≡ q_of (fa_heard hs)
unfolding spread
q_heard hs c n p q =
    let bs = fa_heard hs in
    q_from_lem hs c
    ∙ (rw (p, q, spread_is 20 bs (length-map hs (λ (h : Heard). h.fa) ∙ n)) (twenty (λ i. get_or bs i true) ∙ four_shifted (get_or bs 0 true) (get_or bs 5 true) (get_or bs 10 true) (get_or bs 15 true)))
