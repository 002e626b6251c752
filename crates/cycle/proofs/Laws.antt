-- The laws of `specs/Laws.antt`, proved under the same names in small letters.
use mathlib.Core.Path.{◌≡◌, refl, sym, ap, ◌∙◌}
use mathlib.Core.Bool.{Bool, true, false, ◌&&◌}
use mathlib.Core.List.{List, [], ◌∷◌, map}
use Prim.Native.Nat.{ℕ, zero, suc, ◌+◌, ◌<◌}
use native.Mathlib.Nat.{div-one}
use native.Mathlib.Omega.{arith}
use borrow.Author.Tests.{eq-eqb, ne_eqb}
use lib.Bits.{and_self}
use lib.Dec.{eqb}
use lib.ListN.{replicate}
use Rattle.test_lemmas.proofs.ByCases.{by_test, and_both_true}
use Rattle.frame.specs.Bits.{number_high_first, octet_bits}
use Rattle.cycle.specs.Cycle.{last_place, no_q, no_messages, q_given, s_given, at_start, begun, taken, is_q, bits_at, has_bit, up_fa, s_shifted, q_shifted, q_after, s_after, next_place, moved_on, heard_in, q_told, s_told}
use Rattle.cycle.specs.Periods.{Heard, period, periods, throughout, in_g3, in_f7, s_heard, fa_heard, q_of, Whole, in_periods}
use Rattle.cycle.specs.Laws.{Idle, placed_at}
use Rattle.cycle.specs.Laws
use Rattle.cycle.specs.declared.record.Cycle.{Cycle}
use Rattle.cycle.proofs.Stretch.{places_from, by_place, whole, place_after, waits_on, next_place_lem}
use Rattle.cycle.proofs.Carried as carried
use Rattle.cycle.proofs.Present as present
use Rattle.cycle.proofs.Ranges as ranges

pub not_running : Laws.NotRunning
unfolding taken bits_at up_fa period heard_in q_told s_told
not_running c e = (rw e, rw e, rw e, rw e, λ heard i. rw e, λ h. rw e, rw e, λ i. rw e)

-- ---- Periods.
pub first_period : Laws.FirstPeriod
unfolding q_given s_given
first_period i value hs c e n = (record { running = refl; first = rw e; long = n }, record { running = refl; first = rw e; long = n })

pub next_whole : Laws.NextWhole
unfolding begun
next_whole hs more c w n = record {
  running = rw (whole hs c w).to ((waits_on hs (begun c)).3 ∙ w.running);
  first = rw (whole hs c w).to (place_after hs (begun c) (omega (arith, w.first, w.long)) (omega (arith, w.long)));
  long = n;
}

fa_places : map is_q (places_from 20 0) ≡ in_periods true true true true
unfolding places_from next_place is_q
fa_places = refl

m_places : map (λ p. eqb p 0) (places_from 20 0) ≡ true ∷ replicate 19 false
unfolding places_from next_place
m_places = refl

pub fa_periods : Laws.FaPeriods
unfolding bits_at begun
fa_periods hs c w =
    (whole hs c w).sends (λ d. (bits_at d).fa)
    ∙ (by_place (λ d. (bits_at d).fa) is_q c.qwaiting (λ d r q. rw r) hs (begun c) w.running refl ∙ rw (w.long, w.first) fa_places)

pub m_period : Laws.MPeriod
unfolding bits_at begun
m_period hs c w =
    (whole hs c w).sends (λ d. (bits_at d).m)
    ∙ (by_place (λ d. (bits_at d).m) (λ p. eqb p 0) c.qwaiting (λ d r q. rw r) hs (begun c) w.running refl ∙ rw (w.long, w.first) m_places)

-- ---- What is told.
pub mask_bit : Laws.MaskBit
unfolding octet_bits
mask_bit mask zero h = rw (div-one mask)
mask_bit mask (suc zero) h = refl
mask_bit mask (suc (suc zero)) h = refl
mask_bit mask (suc (suc (suc zero))) h = refl
mask_bit mask (suc (suc (suc (suc zero)))) h = refl
mask_bit mask (suc (suc (suc (suc (suc zero))))) h = refl
mask_bit mask (suc (suc (suc (suc (suc (suc zero)))))) h = refl
mask_bit mask (suc (suc (suc (suc (suc (suc (suc zero))))))) h = refl
mask_bit mask (suc (suc (suc (suc (suc (suc (suc (suc i)))))))) h = absurd (omega arith)

at_end : (hs : List Heard) (c : Cycle) → Whole hs c → at_start (periods hs c) ≡ true
at_end hs c w =
    let next = next_whole hs hs c w w.long in
    and_both_true (periods hs c).running (eqb (periods hs c).place 0) next.running (eq-eqb (periods hs c).place 0 next.first)

g3_throughout : (hs : List Heard) (c : Cycle) → Whole hs c → (periods hs c).g3 ≡ throughout in_g3 hs
unfolding begun
g3_throughout hs c w = rw (whole hs c w).to (present.g3_all hs (begun c))

f7_throughout : (i : ℕ) (hs : List Heard) (c : Cycle) → i < 8 → Whole hs c → has_bit (periods hs c).f7 i ≡ throughout (in_f7 i) hs
unfolding begun
f7_throughout i hs c h w = rw (whole hs c w).to (present.f7_bits i hs (begun c) ∙ rw (present.all_there i h))

q_received : (hs : List Heard) (c : Cycle) → Whole hs c → (periods hs c).qheard ≡ q_of (fa_heard hs)
unfolding begun
q_received hs c w = rw (whole hs c w).to (carried.q_heard hs (begun c) w.long w.first refl)

pub q_told_is : Laws.QToldIs
unfolding q_told
q_told_is hs c w = rw (at_end hs c w, g3_throughout hs c w, q_received hs c w)

s_received : (i : ℕ) (hs : List Heard) (c : Cycle) → i < 8 → Whole hs c → throughout (in_f7 i) hs ≡ true → (periods hs c).sheard ≡ number_high_first (s_heard hs)
unfolding begun number_high_first
s_received i hs c h w all = rw (whole hs c w).to (carried.s_heard_lem i hs (begun c) [] (present.all_there i h) all refl (omega (arith, w.long)))

pub s_told_is : Laws.SToldIs
unfolding s_told
s_told_is i hs c h w =
    rw (at_end hs c w, f7_throughout i hs c h w)
    (by_test (throughout (in_f7 i) hs) (λ t. rw (t, s_received i hs c h w t)) (λ t. rw t))

heard_place : (fa s g3 : Bool) (f7 : ℕ) (c : Cycle) → c.place < last_place → at_start (heard_in fa s g3 f7 c) ≡ false
unfolding heard_in moved_on
heard_place fa s g3 f7 c h =
    by_test c.running
    (λ t. rw (t, next_place_lem c.place h, ne_eqb (c.place + 1) 0 (omega arith)))
    (λ t. rw t)

taken_place : (c : Cycle) → (taken c).place ≡ c.place
unfolding taken begun
taken_place c = by_test (at_start c) (λ t. rw t) (λ t. rw t)

pub told_at_end : Laws.ToldAtEnd
unfolding period q_told s_told
told_at_end h c k =
    let off = heard_place h.fa h.s h.g3 h.f7 (taken c) (rw (taken_place c) k) in (rw off, λ i. rw off)

-- ---- Idle.
same_flag : (b : Bool) → (b && b) ≡ b
same_flag true = refl
same_flag false = refl

idle_q : (p : ℕ) (fa : Bool) → (is_q p ≡ true → fa ≡ true) → q_after p no_q fa ≡ no_q
unfolding q_after q_shifted
idle_q p fa h = by_test (is_q p) (λ t. rw (t, h t)) (λ t. rw t)

-- an idle cycle, at a place
abbrev idle : Heard → ℕ → Cycle
idle h p = record {
  swaiting = 0;
  ssent = 0;
  sheard = 0;
  qwaiting = no_messages;
  qsent = no_messages;
  qheard = no_q;
  f7 = h.f7;
  place = p;
  running = true;
  g3 = h.g3;
}

idle_is : (h : Heard) (c : Cycle) → Idle h c → (p : ℕ) → placed_at p c ≡ idle h p
idle_is h c i p =
    rw (i.swaiting, i.ssent, i.sheard, i.qwaiting, i.qsent, i.qheard, i.f7, i.running, i.g3)

idle_s : (m : ℕ) (s : Bool) → (eqb m 0 ≡ false → s ≡ false) → s_after m 0 s ≡ 0
unfolding s_after s_shifted
idle_s m s h = by_test (eqb m 0) (λ t. rw t) (λ t. rw (t, h t))

idle_period : (h : Heard) (p : ℕ) → (eqb h.f7 0 ≡ false → h.s ≡ false) → h.f7 < 256 → (is_q p ≡ true → h.fa ≡ true) → period h (idle h p) ≡ idle h (next_place p)
unfolding period taken begun heard_in moved_on s_shifted
idle_period h p s m fa =
    by_test (eqb p 0)
    (λ t. rw (t, present.all_and h.f7 m, idle_s h.f7 h.s s, idle_q p h.fa fa))
    (λ t. rw (t, and_self h.f7, idle_s h.f7 h.s s, same_flag h.g3, idle_q p h.fa fa))

pub idle_moves_on : Laws.IdleMovesOn
idle_moves_on h c i =
    ap (period h) (idle_is h c i c.place)
    ∙ (idle_period h c.place i.s i.mask i.fa ∙ sym (idle_is h c i (next_place c.place)))

pub idle_in_g1 : Laws.IdleInG1
unfolding s_given
idle_in_g1 = record {
  running = refl;
  swaiting = refl;
  ssent = refl;
  sheard = refl;
  qwaiting = refl;
  qsent = refl;
  qheard = refl;
  g3 = refl;
  f7 = refl;
  mask = omega arith;
  s = λ no. no;
  fa = λ yes. refl;
}

-- ---- Ranges.
pub fresh_in_range : Laws.FreshInRange
fresh_in_range = ranges.fresh_in_range

pub taken_kept : Laws.TakenKept
taken_kept = ranges.taken_kept

pub period_kept : Laws.PeriodKept
period_kept = ranges.period_kept

pub q_given_kept : Laws.QGivenKept
q_given_kept = ranges.q_given_kept

pub s_given_kept : Laws.SGivenKept
s_given_kept = ranges.s_given_kept
