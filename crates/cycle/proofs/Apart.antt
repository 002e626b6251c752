-- What the messages of one unit do not reach: a part of the cycle that goes its way by itself.
use mathlib.Core.Path.{◌≡◌, refl, sym, ap, ◌∙◌}
use mathlib.Core.Bool.{Bool, true, false, cond}
use mathlib.Core.List.{List, [], ◌∷◌}
use Prim.Native.Nat.{ℕ, suc}
use native.Mathlib.Omega.{arith}
use borrow.Author.Tests.{eqb-false}
use lib.Dec.{eqb}
use lib.ListN.{get_or, replicate, get_or-replicate}
use lib.Seq.{get_or-set_other}
use Rattle.cycle.specs.Cycle.{q_given, s_given, at_start, begun, taken, bits_at, up_fa, moved_on, heard_in, q_told, s_told}
use Rattle.cycle.specs.Periods.{Heard, period, periods, sent_in, fa_sent, m_sent, s_sent, q_sent}
use Rattle.cycle.specs.declared.record.Cycle.{Cycle}

-- A part that no step looks beyond.
record Part (part : Cycle → Cycle) : Type 0 where
  pub taken : (c : Cycle) → part (taken (part c)) ≡ part (taken c)
  pub heard : (h : Heard) (c : Cycle) → part (heard_in h.fa h.s h.g3 h.f7 (part c)) ≡ part (heard_in h.fa h.s h.g3 h.f7 c)

taken_by_lem : (part : Cycle → Cycle) → Part part → (c d : Cycle) → part c ≡ part d → part (taken c) ≡ part (taken d)
taken_by_lem part p c d e = sym (p.taken c) ∙ (ap (λ x. part (taken x)) e ∙ p.taken d)

period_by : (part : Cycle → Cycle) → Part part → (h : Heard) (c d : Cycle) → part c ≡ part d → part (period h c) ≡ part (period h d)
unfolding period
period_by part p h c d e =
    sym (p.heard h (taken c)) ∙ (ap (λ x. part (heard_in h.fa h.s h.g3 h.f7 x)) (taken_by_lem part p c d e) ∙ p.heard h (taken d))

sent_by : (part : Cycle → Cycle) → Part part → (what : Cycle → Bool) → ((c : Cycle) → what (part c) ≡ what c)
    → (hs : List Heard) (c d : Cycle) → part c ≡ part d → sent_in what hs c ≡ sent_in what hs d
unfolding sent_in
sent_by part p what same [] c d e = refl
sent_by part p what same (h ∷ hs) c d e =
    let bit : what (taken c) ≡ what (taken d) = sym (same (taken c)) ∙ (ap what (taken_by_lem part p c d e) ∙ same (taken d)) in
    rw (bit, sent_by part p what same hs (period h c) (period h d) (period_by part p h c d e))

reached_by : (part : Cycle → Cycle) → Part part → (hs : List Heard) (c d : Cycle) → part c ≡ part d → part (periods hs c) ≡ part (periods hs d)
unfolding periods
reached_by part p [] c d e = e
reached_by part p (h ∷ hs) c d e = reached_by part p hs (period h c) (period h d) (period_by part p h c d e)

one_of : (part : Cycle → Cycle) (b : Bool) {c d x y : Cycle} → part c ≡ part x → part d ≡ part y → part (cond b c d) ≡ part (cond b x y)
one_of part true e f = e
one_of part false e f = f

-- ---- The S messages.
unfoldable s_part : Cycle → Cycle
s_part c = record {
  swaiting = c.swaiting;
  ssent = c.ssent;
  sheard = 0;
  qwaiting = [];
  qsent = [];
  qheard = 0;
  f7 = 0;
  place = c.place;
  running = c.running;
  g3 = false;
}

s_part_lem : Part s_part
unfolding s_part taken begun heard_in moved_on
s_part_lem = record {
  taken = λ c. one_of s_part (at_start c) refl refl;
  heard = λ h c. one_of s_part c.running refl refl;
}

q_given_kept : (i value : ℕ) (c : Cycle) → c.running ≡ true → s_part (q_given i value c) ≡ s_part c
unfolding s_part q_given
q_given_kept i value c r = rw r

pub s_apart : (i value : ℕ) (hs : List Heard) (c : Cycle) → c.running ≡ true → s_sent hs (q_given i value c) ≡ s_sent hs c
unfolding s_part bits_at
s_apart i value hs c r = sent_by s_part s_part_lem (λ d. (bits_at d).s) (λ d. refl) hs (q_given i value c) c (q_given_kept i value c r)

-- ---- The Q messages of the terminal at an index.
unfoldable one : ℕ → List ℕ → List ℕ
one j qs = replicate (suc j) (get_or qs j 0)

one_at : (j : ℕ) (qs : List ℕ) → get_or (one j qs) j 0 ≡ get_or qs j 0
unfolding one
one_at j qs = get_or-replicate (suc j) j (get_or qs j 0) 0 (omega arith)

one_one : (j : ℕ) (qs : List ℕ) → one j (one j qs) ≡ one j qs
unfolding one
one_one j qs = ap (λ q. replicate (suc j) q) (one_at j qs)

unfoldable q_part : ℕ → Cycle → Cycle
q_part j c = record {
  swaiting = 0;
  ssent = 0;
  sheard = 0;
  qwaiting = one j c.qwaiting;
  qsent = one j c.qsent;
  qheard = 0;
  f7 = 0;
  place = c.place;
  running = c.running;
  g3 = false;
}

q_part_lem : (j : ℕ) → Part (q_part j)
unfolding q_part taken begun heard_in moved_on
q_part_lem j = record {
  taken = λ c. one_of (q_part j) (at_start c) (rw (one_one j c.qwaiting)) (rw (one_one j c.qwaiting, one_one j c.qsent));
  heard = λ h c. one_of (q_part j) c.running (rw (one_one j c.qwaiting, one_one j c.qsent)) (rw (one_one j c.qwaiting, one_one j c.qsent));
}

up_same : (j : ℕ) (c : Cycle) → up_fa true j (q_part j c) ≡ up_fa true j c
unfolding up_fa q_part
up_same j c = rw (one_at j c.qsent)

s_given_kept : (value j : ℕ) (c : Cycle) → c.running ≡ true → q_part j (s_given value c) ≡ q_part j c
unfolding q_part s_given
s_given_kept value j c r = rw r

pub q_apart : (value j : ℕ) (hs : List Heard) (c : Cycle) → c.running ≡ true → q_sent j hs (s_given value c) ≡ q_sent j hs c
q_apart value j hs c r = sent_by (q_part j) (q_part_lem j) (λ d. up_fa true j d) (up_same j) hs (s_given value c) c (s_given_kept value j c r)

others_same : (i value j : ℕ) (c : Cycle) → c.running ≡ true → eqb j i ≡ false → q_part j (q_given i value c) ≡ q_part j c
unfolding q_part q_given one
others_same i value j c r n = rw (r, get_or-set_other c.qwaiting i j value 0 (eqb-false j i n))

pub q_others : (i value j : ℕ) (hs : List Heard) (c : Cycle) → c.running ≡ true → eqb j i ≡ false → q_sent j hs (q_given i value c) ≡ q_sent j hs c
q_others i value j hs c r n = sent_by (q_part j) (q_part_lem j) (λ d. up_fa true j d) (up_same j) hs (q_given i value c) c (others_same i value j c r n)

-- ---- What is heard, and the place.
unfoldable heard_part : Cycle → Cycle
heard_part c = record {
  swaiting = 0;
  ssent = 0;
  sheard = c.sheard;
  qwaiting = [];
  qsent = [];
  qheard = c.qheard;
  f7 = c.f7;
  place = c.place;
  running = c.running;
  g3 = c.g3;
}

heard_part_lem : Part heard_part
unfolding heard_part taken begun heard_in moved_on
heard_part_lem = record {
  taken = λ c. one_of heard_part (at_start c) refl refl;
  heard = λ h c. one_of heard_part c.running refl refl;
}

-- A message, as far as it goes: what is heard is the same with it and without it.
pub Unheard : (Cycle → Cycle) → Type 0
Unheard given = (c : Cycle) → c.running ≡ true → heard_part (given c) ≡ heard_part c

pub q_unheard : (i value : ℕ) → Unheard (q_given i value)
unfolding Unheard heard_part q_given
q_unheard i value c r = rw r

pub s_unheard : (value : ℕ) → Unheard (s_given value)
unfolding Unheard heard_part s_given
s_unheard value c r = rw r

pub place_same : (given : Cycle → Cycle) → Unheard given → (hs : List Heard) (c : Cycle) → c.running ≡ true
    → (fa_sent hs (given c) ≡ fa_sent hs c) × (m_sent hs (given c) ≡ m_sent hs c)
unfolding Unheard heard_part bits_at
place_same given u hs c r = (
  sent_by heard_part heard_part_lem (λ d. (bits_at d).fa) (λ d. refl) hs (given c) c (u c r),
  sent_by heard_part heard_part_lem (λ d. (bits_at d).m) (λ d. refl) hs (given c) c (u c r),
)

pub told_same : (given : Cycle → Cycle) → Unheard given → (hs : List Heard) (c : Cycle) → c.running ≡ true
    → (q_told (periods hs (given c)) ≡ q_told (periods hs c)) × ((i : ℕ) → s_told i (periods hs (given c)) ≡ s_told i (periods hs c))
unfolding Unheard heard_part q_told s_told
told_same given u hs c r =
    let e = reached_by heard_part heard_part_lem hs (given c) c (u c r) in
    (ap q_told e, λ i. ap (s_told i) e)
