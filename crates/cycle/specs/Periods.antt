-- Laws: the words in which the laws of the cycle speak: periods, what is sent and what is heard in
-- them. The periods of a cycle are listed here, and not taken from the rules.
-- Interface: none but for laws and proofs. Assumes nothing.
use Rattle.std.specs.Prelude.{◌≡◌, Bool, true, false, cond, ◌&&◌, List, [], ◌∷◌, map, ℕ, zero, suc, ◌-◌, ◌/◌, ◌%◌, eqb, length, get_or}
use Rattle.std.specs.Int.Bits.{bit_and}
use Rattle.frame.specs.Bits.{number_high_first}
use Rattle.cycle.specs.Cycle.{taken, bits_at, has_bit, up_fa, joint_fa, heard_in}
use Rattle.cycle.specs.declared.record.Cycle.{Cycle}

-- ---- Periods in which no message is given.
-- What is heard in one: the upward FA and the downward S, whether the network end was in G3, and
-- which terminals were in F7.
pub record Heard : Type 0 where
  pub fa : Bool
  pub s : Bool
  pub g3 : Bool
  pub f7 : ℕ

unfoldable pub period : Heard → Cycle → Cycle
period h c = heard_in h.fa h.s h.g3 h.f7 (taken c)

unfoldable pub periods : List Heard → Cycle → Cycle
periods [] c = c
periods (h ∷ hs) c = periods hs (period h c)

-- What an exchange sends, in each of some periods.
unfoldable pub sent_in : (Cycle → Bool) → List Heard → Cycle → List Bool
sent_in what [] c = []
sent_in what (h ∷ hs) c = what (taken c) ∷ sent_in what hs (period h c)

-- The downward FA, M and S.
abbrev pub fa_sent : List Heard → Cycle → List Bool
fa_sent hs c = sent_in (λ (d : Cycle). (bits_at d).fa) hs c

abbrev pub m_sent : List Heard → Cycle → List Bool
m_sent hs c = sent_in (λ (d : Cycle). (bits_at d).m) hs c

abbrev pub s_sent : List Heard → Cycle → List Bool
s_sent hs c = sent_in (λ (d : Cycle). (bits_at d).s) hs c

-- The FA of the terminal at an index that sends INFO 3 and hears the downward FA at 1 in every
-- period; what several give together that hear it as it is sent.
abbrev pub q_sent : ℕ → List Heard → Cycle → List Bool
q_sent i hs c = sent_in (λ (d : Cycle). up_fa true i d) hs c

abbrev pub joint_sent : ℕ → List Heard → Cycle → List Bool
joint_sent senders hs c = sent_in (λ (d : Cycle). joint_fa (bits_at d).fa senders d) hs c

-- What is heard in them.
abbrev pub s_heard : List Heard → List Bool
s_heard hs = map (λ (h : Heard). h.s) hs

abbrev pub fa_heard : List Heard → List Bool
fa_heard hs = map (λ (h : Heard). h.fa) hs

-- Whether something holds in all of them.
unfoldable pub throughout : (Heard → Bool) → List Heard → Bool
throughout p [] = true
throughout p (h ∷ hs) = p h && throughout p hs

abbrev pub in_g3 : Heard → Bool
in_g3 h = h.g3

abbrev pub in_f7 : ℕ → Heard → Bool
in_f7 i h = has_bit h.f7 i

-- ---- Cycles.
-- The twenty periods of a cycle, from its first on.
pub record Whole (hs : List Heard) (c : Cycle) : Type 0 where
  pub running : c.running ≡ true
  pub first : c.place ≡ 0
  pub long : length hs ≡ 20

-- How many periods there are until a cycle begins, where a message is given now.
abbrev pub until_next : Cycle → ℕ
until_next c = cond c.running ((20 - c.place) % 20) 0

-- Twenty bits, 0 but in the periods 1, 6, 11 and 16.
abbrev pub in_periods : Bool → Bool → Bool → Bool → List Bool
in_periods p1 p6 p11 p16 =
    p1 ∷ false ∷ false ∷ false ∷ false
    ∷ p6 ∷ false ∷ false ∷ false ∷ false
    ∷ p11 ∷ false ∷ false ∷ false ∷ false
    ∷ p16 ∷ false ∷ false ∷ false ∷ false ∷ []

-- The FA of a Q message: "first bit highest".
unfoldable pub on_line : ℕ → List Bool
on_line q = in_periods (eqb (q / 8 % 2) 1) (eqb (q / 4 % 2) 1) (eqb (q / 2 % 2) 1) (eqb (q % 2) 1)

-- The Q message of twenty FA: those of the periods 1, 6, 11 and 16.
abbrev pub q_of : List Bool → ℕ
q_of fa = number_high_first (get_or fa 0 true ∷ get_or fa 5 true ∷ get_or fa 10 true ∷ get_or fa 15 true ∷ [])

-- ---- Several messages.
-- Those of the terminals at the indices below n that a mask has; and of all eight.
unfoldable pub messages_below : ℕ → ℕ → List ℕ → List ℕ
messages_below zero senders sent = []
messages_below (suc n) senders sent =
    cond (has_bit senders n) (get_or sent n 0 ∷ messages_below n senders sent) (messages_below n senders sent)

abbrev pub messages_of : ℕ → List ℕ → List ℕ
messages_of senders sent = messages_below 8 senders sent

-- Their AND, as a number: 15 of none.
unfoldable pub and_of : List ℕ → ℕ
and_of [] = 15
and_of (q ∷ qs) = bit_and q (and_of qs)

-- Whether something holds of each.
unfoldable pub all_of : (ℕ → Bool) → List ℕ → Bool
all_of p [] = true
all_of p (q ∷ qs) = p q && all_of p qs
