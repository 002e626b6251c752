-- Every step leaves the cycle in its range.
use mathlib.Core.Path.{◌≡◌, refl, sym, ◌∙◌}
use mathlib.Core.Bool.{Bool, true, false, cond, ◌&&◌}
use mathlib.Core.List.{List, [], ◌∷◌}
use Prim.Native.Nat.{ℕ, zero, suc, ◌<◌, ◌≤◌}
use native.Mathlib.Omega.{arith}
use borrow.Author.Tests.{ltb-true, lt-ltb, leb-true, le-leb}
use lib.Bits.{bit_and}
use lib.Dec.{eqb, ltb, leb}
use lib.ListN.{length, set, length-set}
use Rattle.test_lemmas.proofs.ByCases.{by_test, both, and_left, and_right}
use Rattle.symbols.specs.Symbols.{within, fits}
use Rattle.symbols.proofs.Lines.{fits_length, fits_within, fits_is}
use Rattle.frame.proofs.Bits.{bit_lt}
use Rattle.cycle.specs.Cycle.{terminals, last_place, no_q, no_messages, s_messages, fresh, cycle_in_range, start_place, q_given, s_given, at_start, begun, taken, is_q, s_shifted, q_shifted, q_after, s_after, next_place, moved_on, heard_in}
use Rattle.cycle.specs.Periods.{Heard, period}
use Rattle.cycle.specs.declared.record.Cycle.{Cycle}

-- The range, field by field.
pub record Ranged (c : Cycle) : Type 0 where
  pub qwaiting : fits terminals no_q c.qwaiting ≡ true
  pub qsent : fits terminals no_q c.qsent ≡ true
  pub swaiting : c.swaiting < s_messages
  pub ssent : c.ssent < s_messages
  pub sheard : c.sheard < s_messages
  pub qheard : c.qheard ≤ no_q
  pub place : c.place ≤ last_place

pub ranged : (c : Cycle) → cycle_in_range c ≡ true → Ranged c
ranged c e =
    let qw = fits terminals no_q c.qwaiting in
    let qs = fits terminals no_q c.qsent in
    let sw = ltb c.swaiting s_messages in
    let ss = ltb c.ssent s_messages in
    let sh = ltb c.sheard s_messages in
    let qh = leb c.qheard no_q in
    let pl = leb c.place last_place in
    let most = and_left (((qw && qs) && ((sw && ss) && sh)) && qh) pl e in
    let more = and_left ((qw && qs) && ((sw && ss) && sh)) qh most in
    let q = and_left (qw && qs) ((sw && ss) && sh) more in
    let s = and_right (qw && qs) ((sw && ss) && sh) more in
    record {
      qwaiting = and_left qw qs q;
      qsent = and_right qw qs q;
      swaiting = ltb-true c.swaiting s_messages (and_left sw ss (and_left (sw && ss) sh s));
      ssent = ltb-true c.ssent s_messages (and_right sw ss (and_left (sw && ss) sh s));
      sheard = ltb-true c.sheard s_messages (and_right (sw && ss) sh s);
      qheard = leb-true c.qheard no_q (and_right ((qw && qs) && ((sw && ss) && sh)) qh most);
      place = leb-true c.place last_place (and_right (((qw && qs) && ((sw && ss) && sh)) && qh) pl e);
    }

in_range : (c : Cycle) → Ranged c → cycle_in_range c ≡ true
in_range c r =
    rw (
      r.qwaiting,
      r.qsent,
      lt-ltb c.swaiting s_messages r.swaiting,
      lt-ltb c.ssent s_messages r.ssent,
      lt-ltb c.sheard s_messages r.sheard,
      le-leb c.qheard no_q r.qheard,
      le-leb c.place last_place r.place,
    )

either : (b : Bool) {c d : Cycle} → Ranged c → Ranged d → Ranged (cond b c d)
either true r s = r
either false r s = s

-- ---- The steps.
none_fit : fits terminals no_q no_messages ≡ true
unfolding fits within
none_fit = refl

begun_ranged : (c : Cycle) → Ranged c → Ranged (begun c)
unfolding begun
begun_ranged c r = record {
  qwaiting = search none_fit;
  qsent = r.qwaiting;
  swaiting = omega arith;
  ssent = r.swaiting;
  sheard = omega arith;
  qheard = omega arith;
  place = r.place;
}

taken_ranged : (c : Cycle) → Ranged c → Ranged (taken c)
unfolding taken
taken_ranged c r = either (at_start c) (begun_ranged c r) r

s_below : (n : ℕ) (b : Bool) → s_shifted n b < s_messages
unfolding s_shifted
s_below n b = omega (arith, bit_lt b)

s_kept : (f7 n : ℕ) (b : Bool) → n < s_messages → s_after f7 n b < s_messages
unfolding s_after
s_kept f7 n b h = by_test (eqb f7 0) (λ t. rw t h) (λ t. rw t (s_below n b))

q_below : (p n : ℕ) (b : Bool) → n ≤ no_q → q_after p n b ≤ no_q
unfolding q_after q_shifted
q_below p n b h = by_test (is_q p) (λ t. rw t (omega (arith, bit_lt b))) (λ t. rw t h)

next_below : (p : ℕ) → next_place p ≤ last_place
unfolding next_place
next_below p = by_test (ltb p last_place) (λ t. rw t (omega (arith, ltb-true p last_place t))) (λ t. rw t (omega arith))

moved_ranged : (fa s g3 : Bool) (f7 : ℕ) (c : Cycle) → Ranged c → Ranged (moved_on fa s g3 f7 c)
unfolding moved_on
moved_ranged fa s g3 f7 c r = record {
  qwaiting = r.qwaiting;
  qsent = r.qsent;
  swaiting = r.swaiting;
  ssent = s_below c.ssent false;
  sheard = s_kept (bit_and c.f7 f7) c.sheard s r.sheard;
  qheard = q_below c.place c.qheard fa r.qheard;
  place = next_below c.place;
}

heard_ranged : (fa s g3 : Bool) (f7 : ℕ) (c : Cycle) → Ranged c → Ranged (heard_in fa s g3 f7 c)
unfolding heard_in
heard_ranged fa s g3 f7 c r = either c.running (moved_ranged fa s g3 f7 c r) r

within_set : (top : ℕ) (l : List ℕ) (i v : ℕ) → v ≤ top → within top l ≡ true → within top (set l i v) ≡ true
unfolding within
within_set top [] i v h e = e
within_set top (x ∷ l) zero v h e = rw (le-leb v top h) (both (leb x top) (within top l) e).1
within_set top (x ∷ l) (suc i) v h e = let b = both (leb x top) (within top l) e in rw (b.0, within_set top l i v h b.1)

start_below : (c : Cycle) → Ranged c → start_place c ≤ last_place
start_below c r = by_test c.running (λ t. rw t r.place) (λ t. rw t (omega arith))

-- ---- The laws.
pub fresh_in_range : cycle_in_range fresh ≡ true
fresh_in_range = rw none_fit

pub taken_kept : (c : Cycle) → cycle_in_range c ≡ true → cycle_in_range (taken c) ≡ true
taken_kept c e = in_range (taken c) (taken_ranged c (ranged c e))

pub period_kept : (h : Heard) (c : Cycle) → cycle_in_range c ≡ true → cycle_in_range (period h c) ≡ true
unfolding period
period_kept h c e = in_range (period h c) (heard_ranged h.fa h.s h.g3 h.f7 (taken c) (taken_ranged c (ranged c e)))

pub q_given_kept : (i value : ℕ) (c : Cycle) → i < terminals → value ≤ no_q → cycle_in_range c ≡ true → cycle_in_range (q_given i value c) ≡ true
unfolding q_given
q_given_kept i value c k h e =
    let r = ranged c e in
    let long : length (set c.qwaiting i value) ≡ terminals = length-set c.qwaiting i value ∙ fits_length terminals no_q c.qwaiting r.qwaiting in
    in_range (q_given i value c)
    (record {
      qwaiting = sym (fits_is no_q (set c.qwaiting i value) long (sym (within_set no_q c.qwaiting i value h (fits_within terminals no_q c.qwaiting r.qwaiting))));
      qsent = r.qsent;
      swaiting = r.swaiting;
      ssent = r.ssent;
      sheard = r.sheard;
      qheard = r.qheard;
      place = start_below c r;
    })

pub s_given_kept : (value : ℕ) (c : Cycle) → value < s_messages → cycle_in_range c ≡ true → cycle_in_range (s_given value c) ≡ true
unfolding s_given
s_given_kept value c h e =
    let r = ranged c e in
    in_range (s_given value c)
    (record {
      qwaiting = r.qwaiting;
      qsent = r.qsent;
      swaiting = h;
      ssent = r.ssent;
      sheard = r.sheard;
      qheard = r.qheard;
      place = start_below c r;
    })
