-- The laws of `specs/Messages.antt`, proved under the same names in small letters.
use mathlib.Core.Path.{◌≡◌, refl, sym, ap, ◌∙◌}
use mathlib.Core.Bool.{Bool, true, false, ◌&&◌}
use mathlib.Core.List.{List, [], ◌∷◌, ◌++◌, map}
use Prim.Native.Nat.{ℕ, zero, suc, ◌-◌, ◌%◌, ◌^◌, ◌<◌, ◌≤◌}
use native.Mathlib.Nat.{div-one}
use native.Mathlib.Omega.{arith}
use borrow.Author.Tests.{eqb-true, leb-true}
use lib.Bits.{and_mask, and_le_r}
use lib.Dec.{eqb, leb}
use lib.ListN.{length, length-append, get_or, set, replicate}
use lib.Seq.{get_or-set_same}
use Rattle.test_lemmas.proofs.ByCases.{by_test, both, at_each_below}
use Rattle.symbols.specs.Symbols.{within, fits}
use Rattle.symbols.proofs.Lines.{fits_length, fits_within}
use Rattle.frame.specs.Bits.{number_high_first}
use Rattle.cycle.specs.Cycle.{last_place, no_q, no_messages, terminals, s_messages, start_place, q_given, s_given, begun, taken, is_q, bits_at, has_bit, q_bit, up_fa, fa_below, next_place, heard_in, moved_on, q_told, s_told, q_after, s_after, q_shifted, s_shifted}
use Rattle.cycle.specs.Periods.{Heard, period, periods, sent_in, throughout, fa_sent, q_sent, s_sent, joint_sent, Whole, until_next, on_line, q_of, messages_below, messages_of, and_of, all_of}
use Rattle.cycle.specs.Messages.{all_as_sent}
use Rattle.cycle.specs.Messages
use Rattle.cycle.specs.declared.record.Cycle.{Cycle}
use Rattle.cycle.proofs.Stretch.{places_from, by_place, begins, whole, waits_on}
use Rattle.cycle.proofs.Present.{and_true, bit_and_lem}
use Rattle.cycle.proofs.Carried as bits
use Rattle.cycle.proofs.Silent as silent
use Rattle.cycle.proofs.Given as goal
use Rattle.cycle.proofs.Apart as apart
use Rattle.cycle.proofs.Ranges.{ranged}
use Rattle.cycle.proofs.Laws.{next_whole, q_told_is, s_told_is}

start_in_range : (c : Cycle) → c.place ≤ last_place → start_place c ≤ last_place
start_in_range c p = by_test c.running (λ t. rw t p) (λ t. rw t (omega arith))

until_start : (c : Cycle) → until_next c ≡ (20 - start_place c) % 20
until_start c = by_test c.running (λ t. rw t) (λ t. rw t)

-- ---- S.
s_all_sent : (hs : List Heard) (c : Cycle) → Whole hs c → c.swaiting < s_messages → number_high_first (s_sent hs c) ≡ c.swaiting
unfolding begun
s_all_sent hs c w k = rw ((whole hs c w).sends bits.s_bit) (bits.s_all hs (begun c) w.running k w.long)

s_none_sent : (hs more : List Heard) (c : Cycle) → Whole hs c → s_sent more (periods hs c) ≡ replicate (length more) false
unfolding begun
s_none_sent hs more c w =
    let next = next_whole hs hs c w w.long in
    let none : (periods hs c).swaiting ≡ 0 = rw (whole hs c w).to (waits_on hs (begun c)).0 in
    silent.s_silent more (periods hs c) (rw (begins (periods hs c) next.running next.first) (refl, none))

s_given_next : (value : ℕ) (before hs : List Heard) (c : Cycle) → c.place ≤ last_place → length before ≡ until_next c → length hs ≡ 20
    → Whole hs (periods before (s_given value c)) × ((periods before (s_given value c)).swaiting ≡ value)
unfolding s_given
s_given_next value before hs c p n l =
    let next = goal.begins_next before hs (s_given value c) refl (start_in_range c p) (n ∙ until_start c) l in
    (next.0, rw next.1 (waits_on before (s_given value c)).0)

s_kept : (value : ℕ) (c : Cycle) → bits.s_bit (goal.s_set value c) ≡ bits.s_bit c
unfolding goal.s_set bits_at
s_kept value c = refl

pub s_once : Messages.SOnce
s_once value before hs more c k e n l =
    let g = s_given_next value before hs c (ranged c e).place n l in
    let then = periods before (s_given value c) in (
      goal.s_before bits.s_bit value (s_kept value) before c (ranged c e).place (omega arith),
      s_all_sent hs then g.0 (rw g.1 k) ∙ g.1,
      s_none_sent hs more then g.0,
    )

pub s_replaces : Messages.SReplaces
s_replaces value second early c e n = goal.s_replaces value second early c (ranged c e).place n

pub s_second : Messages.SSecond
s_second value second early before hs c k e n l =
    rw (s_replaces value second early c e (omega arith), goal.periods_append early before (s_given second c))
    (s_once second (early ++ before) hs [] c k e (length-append early before ∙ n) l).1

pub s_through : Messages.SThrough
s_through i hs c h w e all heard =
    s_told_is i hs c h w ∙ (rw (all, heard) (s_all_sent hs c w (ranged c e).swaiting))

-- ---- Q, of each terminal.
q_spread : (q : ℕ) → bits.spread 20 (λ p. q_bit p q) ≡ on_line q
unfolding bits.spread is_q q_bit on_line
q_spread q = rw (div-one q)

at_place : (p q : ℕ) → p < 20 → q_bit p q ≡ get_or (on_line q) p false
at_place p q h = sym (ap (λ (l : List Bool). get_or l p false) (sym (q_spread q)) ∙ bits.spread_at 20 (λ k. q_bit k q) p h)

pub up_fa_is : Messages.UpFaIs
unfolding up_fa
up_fa_is heard i c h = ap (λ (b : Bool). (c.running && heard) && b) (at_place c.place (get_or c.qsent i 0) h)

pub on_line_is : Messages.OnLineIs
unfolding on_line number_high_first
on_line_is q h = eqb-true (q_of (on_line q)) q (at_each_below (λ k. eqb (q_of (on_line k)) k) 16 q refl (omega arith))

up_at : (i : ℕ) (qs : List ℕ) (c : Cycle) → c.running ≡ true → c.qsent ≡ qs → up_fa true i c ≡ q_bit c.place (get_or qs i 0)
unfolding up_fa
up_at i qs c r q = rw (r, q)

q_places : (q : ℕ) → map (λ p. q_bit p q) (places_from 20 0) ≡ on_line q
unfolding places_from next_place is_q q_bit on_line
q_places q = rw (div-one q)

q_all_sent : (i : ℕ) (hs : List Heard) (c : Cycle) → Whole hs c → q_sent i hs c ≡ on_line (get_or c.qwaiting i 0)
unfolding begun
q_all_sent i hs c w =
    let q = get_or c.qwaiting i 0 in
    (whole hs c w).sends (λ d. up_fa true i d)
    ∙ (by_place (λ d. up_fa true i d) (λ p. q_bit p q) c.qwaiting (up_at i c.qwaiting) hs (begun c) w.running refl
    ∙ rw (w.long, w.first) (q_places q))

q_none_sent : (i : ℕ) (hs more : List Heard) (c : Cycle) → i < 8 → Whole hs c → q_sent i more (periods hs c) ≡ fa_sent more (periods hs c)
unfolding begun
q_none_sent i hs more c h w =
    let next = next_whole hs hs c w w.long in
    let none : (periods hs c).qwaiting ≡ no_messages = rw (whole hs c w).to (waits_on hs (begun c)).1 in
    silent.q_silent i h more (periods hs c) (rw (begins (periods hs c) next.running next.first) (refl, none))

q_given_next : (i value : ℕ) (before hs : List Heard) (c : Cycle) → c.place ≤ last_place → length before ≡ until_next c → length hs ≡ 20
    → Whole hs (periods before (q_given i value c)) × ((periods before (q_given i value c)).qwaiting ≡ set c.qwaiting i value)
unfolding q_given
q_given_next i value before hs c p n l =
    let next = goal.begins_next before hs (q_given i value c) refl (start_in_range c p) (n ∙ until_start c) l in
    (next.0, rw next.1 (waits_on before (q_given i value c)).1)

q_kept : (i value : ℕ) (c : Cycle) → up_fa true i (goal.q_set i value c) ≡ up_fa true i c
unfolding goal.q_set up_fa
q_kept i value c = refl

pub q_once : Messages.QOnce
q_once i value before hs more c h e n l =
    let r = ranged c e in
    let g = q_given_next i value before hs c r.place n l in
    let then = periods before (q_given i value c) in
    let long : i < length c.qwaiting = rw (fits_length terminals no_q c.qwaiting r.qwaiting) h in (
      goal.q_before (λ d. up_fa true i d) i value (q_kept i value) before c r.place (omega arith),
      q_all_sent i hs then g.0 ∙ ap on_line (ap (λ (qs : List ℕ). get_or qs i 0) g.1 ∙ get_or-set_same c.qwaiting i value 0 long),
      q_none_sent i hs more then h g.0,
    )

pub q_replaces : Messages.QReplaces
q_replaces i value second early c e n = goal.q_replaces i value second early c (ranged c e).place n

pub q_second : Messages.QSecond
q_second i value second early before hs c h e n l =
    rw (q_replaces i value second early c e (omega arith), goal.periods_append early before (q_given i second c))
    (q_once i second (early ++ before) hs [] c h e (length-append early before ∙ n) l).1

-- ---- Q, of several terminals.
and_swap : (a b : Bool) → (a && b) ≡ (b && a)
and_swap true b = sym (and_true b)
and_swap false true = refl
and_swap false false = refl

all_same : (p q : ℕ → Bool) → ((k : ℕ) → p k ≡ q k) → (l : List ℕ) → all_of p l ≡ all_of q l
unfolding all_of
all_same p q e [] = refl
all_same p q e (k ∷ l) = rw (e k, all_same p q e l)

-- the FA of a message at the place of a cycle
abbrev fa : Bool → Cycle → ℕ → Bool
fa heard c q = (c.running && heard) && q_bit c.place q

together : (n : ℕ) (heard : Bool) (senders : ℕ) (c : Cycle) → fa_below n heard senders c ≡ all_of (fa heard c) (messages_below n senders c.qsent)
unfolding fa_below messages_below all_of up_fa
together zero heard senders c = refl
together (suc n) heard senders c =
    let less = all_of (fa heard c) (messages_below n senders c.qsent) in
    rw (together n heard senders c)
    (by_test (has_bit senders n)
    (λ t. rw t (and_swap less (fa heard c (get_or c.qsent n 0))))
    (λ t. rw t (and_true less)))

pub q_together : Messages.QTogether
q_together heard senders c h =
    together 8 heard senders c
    ∙ all_same (fa heard c) (λ q. (c.running && heard) && get_or (on_line q) c.place false)
    (λ q. ap (λ (b : Bool). (c.running && heard) && b) (at_place c.place q h))
    (messages_of senders c.qsent)

-- the bits of ANDed messages
and_bit : (k : ℕ) → k < 4 → (qs : List ℕ) → all_of (λ q. has_bit q k) qs ≡ has_bit (and_of qs) k
unfolding all_of and_of
and_bit k h [] = sym (at_each_below (λ j. has_bit 15 j) 4 k refl h)
and_bit k h (q ∷ qs) = rw (and_bit k h qs) (sym (bit_and_lem q (and_of qs) k))

and_most : (qs : List ℕ) → and_of qs ≤ 15
unfolding and_of
and_most [] = omega arith
and_most (q ∷ qs) = omega (arith, and_most qs, and_le_r q (and_of qs))

four_bits : (q : ℕ) → q ≤ 15 → number_high_first (has_bit q 3 ∷ has_bit q 2 ∷ has_bit q 1 ∷ has_bit q 0 ∷ []) ≡ q
unfolding number_high_first
four_bits q h =
    eqb-true (number_high_first (has_bit q 3 ∷ has_bit q 2 ∷ has_bit q 1 ∷ has_bit q 0 ∷ [])) q
    (at_each_below (λ k. eqb (number_high_first (has_bit k 3 ∷ has_bit k 2 ∷ has_bit k 1 ∷ has_bit k 0 ∷ [])) k) 16 q refl (omega arith))

-- what the line shows at a place
abbrev joint : List ℕ → ℕ → Bool
joint qs p = all_of (λ q. is_q p && q_bit p q) qs

joint_places : (qs : List ℕ) → q_of (map (joint qs) (places_from 20 0)) ≡ number_high_first (all_of (λ q. has_bit q 3) qs ∷ all_of (λ q. has_bit q 2) qs ∷ all_of (λ q. has_bit q 1) qs ∷ all_of (λ q. has_bit q 0) qs ∷ [])
unfolding places_from next_place is_q q_bit
joint_places qs = refl

joint_at : (senders : ℕ) (qs : List ℕ) (c : Cycle) → c.running ≡ true → c.qsent ≡ qs
    → fa_below 8 (bits_at c).fa senders c ≡ joint (messages_of senders qs) c.place
unfolding bits_at
joint_at senders qs c r q = together 8 (c.running && is_q c.place) senders c ∙ rw (r, q)

joint_sent_lem : (senders : ℕ) (hs : List Heard) (c : Cycle) → Whole hs c → q_of (joint_sent senders hs c) ≡ and_of (messages_of senders c.qwaiting)
unfolding begun
joint_sent_lem senders hs c w =
    let qs = messages_of senders c.qwaiting in
    let what : Cycle → Bool = λ d. fa_below 8 (bits_at d).fa senders d in
    let sent : joint_sent senders hs c ≡ map (joint qs) (places_from 20 0) =
    (whole hs c w).sends what
    ∙ (by_place what (joint qs) c.qwaiting (joint_at senders c.qwaiting) hs (begun c) w.running refl ∙ rw (w.long, w.first)) in
    ap q_of sent
    ∙ (joint_places qs
    ∙ (rw (and_bit 3 (omega arith) qs, and_bit 2 (omega arith) qs, and_bit 1 (omega arith) qs, and_bit 0 (omega arith) qs) (four_bits (and_of qs) (and_most qs))))

pub q_through : Messages.QThrough
q_through senders hs c e = q_told_is hs c e.0 ∙ rw (e.2, e.3) (joint_sent_lem senders hs c e.0)

-- One terminal alone, and none.
alone : (i : ℕ) (qs : List ℕ) → i < 8 → messages_of (2 ^ i) qs ≡ get_or qs i 0 ∷ []
unfolding messages_below
alone zero qs h = refl
alone (suc zero) qs h = refl
alone (suc (suc zero)) qs h = refl
alone (suc (suc (suc zero))) qs h = refl
alone (suc (suc (suc (suc zero)))) qs h = refl
alone (suc (suc (suc (suc (suc zero))))) qs h = refl
alone (suc (suc (suc (suc (suc (suc zero)))))) qs h = refl
alone (suc (suc (suc (suc (suc (suc (suc zero))))))) qs h = refl
alone (suc (suc (suc (suc (suc (suc (suc (suc i)))))))) qs h = absurd (omega arith)

each_within : (top : ℕ) (qs : List ℕ) (i : ℕ) → within top qs ≡ true → get_or qs i 0 ≤ top
unfolding within
each_within top [] i e = omega arith
each_within top (q ∷ qs) zero e = leb-true q top (both (leb q top) (within top qs) e).0
each_within top (q ∷ qs) (suc i) e = each_within top qs i (both (leb q top) (within top qs) e).1

and_one : (q : ℕ) → q ≤ 15 → and_of (q ∷ []) ≡ q
unfolding and_of
and_one q h = and_mask q 4 ∙ omega arith

pub q_one : Messages.QOne
q_one i hs c h e =
    let r = ranged c e.1 in
    let most = each_within 15 c.qwaiting i (fits_within terminals no_q c.qwaiting r.qwaiting) in
    q_through (2 ^ i) hs c e ∙ (ap and_of (alone i c.qwaiting h) ∙ and_one (get_or c.qwaiting i 0) most)

none_send : (qs : List ℕ) → and_of (messages_of 0 qs) ≡ 15
unfolding messages_below and_of
none_send qs = refl

pub q_none : Messages.QNone
q_none hs c e = q_through 0 hs c e ∙ none_send c.qwaiting

-- ---- Apart.
pub s_apart : Messages.SApart
s_apart = apart.s_apart

pub q_apart : Messages.QApart
q_apart = apart.q_apart

pub q_others : Messages.QOthers
q_others = apart.q_others

pub place_kept : Messages.PlaceKept
place_kept i value hs c r =
    let q = apart.place_same (q_given i value) (apart.q_unheard i value) hs c r in
    let s = apart.place_same (s_given value) (apart.s_unheard value) hs c r in (q.0, q.1, s.0, s.1)

pub told_kept : Messages.ToldKept
told_kept i value hs c r =
    let q = apart.told_same (q_given i value) (apart.q_unheard i value) hs c r in
    let s = apart.told_same (s_given value) (apart.s_unheard value) hs c r in (q.0, s.0, q.1, s.1)

-- ---- The scene.
pub scene : Messages.Scene
unfolding s_given q_given all_as_sent period periods sent_in throughout fits within taken begun bits_at fa_below up_fa is_q q_bit heard_in moved_on s_after s_shifted q_after q_shifted next_place q_told s_told
scene = ((record { running = refl; first = refl; long = refl }, refl, refl, refl), refl, refl, refl)
