-- Without a message: nothing is sent, in this cycle and in those behind it.
use mathlib.Core.Path.{◌≡◌, refl}
use mathlib.Core.Bool.{Bool, true, false, cond, ◌&&◌}
use mathlib.Core.List.{List, [], ◌∷◌}
use Prim.Native.Nat.{ℕ, ◌-◌, ◌/◌, ◌<◌}
use native.Mathlib.Omega.{arith}
use lib.ListN.{length, replicate, get_or-replicate}
use Rattle.test_lemmas.proofs.ByCases.{at_each_below}
use Rattle.cycle.specs.Cycle.{no_messages, at_start, begun, taken, is_q, bits_at, has_bit, q_bit, up_fa, s_shifted, moved_on, heard_in}
use Rattle.cycle.specs.Periods.{Heard, period, sent_in, fa_sent, s_sent, q_sent}
use Rattle.cycle.specs.declared.record.Cycle.{Cycle}

either : (P : Cycle → Type 0) (b : Bool) {c d : Cycle} → P c → P d → P (cond b c d)
either P true p q = p
either P false p q = q

-- ---- S.
abbrev pub NoS : Cycle → Type 0
NoS c = (c.swaiting ≡ 0) × (c.ssent ≡ 0)

s_taken : (c : Cycle) → NoS c → NoS (taken c)
unfolding taken begun
s_taken c n = either NoS (at_start c) (refl, n.0) n

s_period : (h : Heard) (c : Cycle) → NoS (taken c) → NoS (taken (period h c))
unfolding period heard_in moved_on s_shifted
s_period h c n = s_taken (period h c) (either NoS (taken c).running (n.0, rw n.1) n)

pub s_silent : (hs : List Heard) (c : Cycle) → NoS (taken c) → s_sent hs c ≡ replicate (length hs) false
unfolding sent_in bits_at
s_silent [] c n = refl
s_silent (h ∷ hs) c n = rw (n.1, s_silent hs (period h c) (s_period h c n)) (never (taken c).running)
  where
    never : (b : Bool) → (b && false) ∷ replicate (length hs) false ≡ false ∷ replicate (length hs) false
    never true = refl
    never false = refl

-- ---- Q.
abbrev pub NoQ : Cycle → Type 0
NoQ c = (c.qwaiting ≡ no_messages) × (c.qsent ≡ no_messages)

q_taken : (c : Cycle) → NoQ c → NoQ (taken c)
unfolding taken begun
q_taken c n = either NoQ (at_start c) (refl, n.0) n

q_period : (h : Heard) (c : Cycle) → NoQ (taken c) → NoQ (taken (period h c))
unfolding period heard_in moved_on
q_period h c n = q_taken (period h c) (either NoQ (taken c).running n n)

-- four 1s at every place that has a bit
all_ones : (p : ℕ) → q_bit p 15 ≡ is_q p
unfolding q_bit
all_ones p = rw (at_each_below (λ k. has_bit 15 k) 4 (3 - p / 5) refl (omega arith)) (alone (is_q p))
  where
    alone : (b : Bool) → (b && true) ≡ b
    alone true = refl
    alone false = refl

no_fa : (i : ℕ) (c : Cycle) → i < 8 → c.qsent ≡ no_messages → up_fa true i c ≡ (bits_at c).fa
unfolding up_fa bits_at
no_fa i c h n = rw (n, get_or-replicate {A = ℕ} 8 i 15 0 h, all_ones c.place) (alone c.running (is_q c.place))
  where
    alone : (a b : Bool) → ((a && true) && b) ≡ (a && b)
    alone true b = refl
    alone false b = refl

pub q_silent : (i : ℕ) → i < 8 → (hs : List Heard) (c : Cycle) → NoQ (taken c) → q_sent i hs c ≡ fa_sent hs c
unfolding sent_in
q_silent i h [] c n = refl
q_silent i h (g ∷ hs) c n = rw (no_fa i (taken c) h n.1, q_silent i h hs (period g c) (q_period g c n))
