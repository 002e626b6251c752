-- An exchange in which no terminal takes part: `specs/Rest.antt`. One opportunity first, then four.
use mathlib.Core.Path.{◌≡◌, refl, sym, ap, ◌∙◌}
use mathlib.Core.Bool.{Bool, true, false, cond, not, ◌&&◌, ◌||◌, and-true, and-false, or-false, or_assoc}
use mathlib.Core.List.{List, [], ◌∷◌}
use Prim.Native.Nat.{ℕ, suc}
use native.Mathlib.Omega.{arith}
use lib.Dec.{eqb}
use borrow.Author.Tests.{eqb-true, not-true}
use Rattle.test_lemmas.proofs.ByCases.{by_test}
use Rattle.test_lemmas.proofs.Operators.{and_both}
use Rattle.frame.specs.Four.{all_four}
use Rattle.frame.specs.declared.fields.Four.{Four}
use Rattle.combining.specs.Hit.{keep_letter}
use Rattle.notes_and_cells.specs.Cells.{info_in}
use Rattle.table_6_2.specs.Table62.{F7, info_sent}
use Rattle.packing.specs.Octets.{shifted}
use Rattle.dchannel.specs.Access.{normal1, normal2, idles}
use Rattle.dchannel.specs.AtRest.{at_rest}
use Rattle.dchannel.proofs.AccessLaws.{rests}
use Rattle.terminal.specs.declared.Terminal.{Terminal}
use Rattle.slice_lemmas.specs.Over.{map_from, fold_from}
use Rattle.bus_rules.specs.Exchange.{any_sends, access_step_of, station_after_e, d_of}
use Rattle.exchange.specs.Tally.{first_tally, begun, also, d_heard, ended}
use Rattle.exchange.specs.Part.{station_in, terminal_after_e, completed_class, tally_with}
use Rattle.exchange.specs.Opportunities.{tally_after, terminals_after, tally_after_four, terminals_after_four}
use Rattle.exchange.specs.Rest.{part_rests, all_rest, states_of, none_yet, also_rests, rest_of, e_sent, ones_sent, is_first, may_rest, rest_tally, RestsThrough, RestFour}
use Rattle.exchange.specs.declared.tally.Letters.{Letters}
use Rattle.exchange.specs.declared.tally.Tally.{Tally}
use Rattle.exchange.specs.declared.rest.Rest.{Rest}

-- ---- One terminal.
module _ (images : List ℕ) (e : Bool) (i : ℕ) (t : Terminal) (h : part_rests e t ≡ true) where
  idle : eqb t.state F7 ≡ true → access_step_of e (station_in images i t) ≡ idles t.access
  unfolding part_rests access_step_of
  idle f =
      let p = and_both (at_rest normal2 t.access) e (rw f at h) in
      rw p.1 (rests normal1 normal2 _ t.access (omega arith) p.0)

  as_it_was : terminal_after_e images e i t ≡ t
  unfolding terminal_after_e station_after_e idles
  as_it_was = by_test (eqb t.state F7) (λ f. rw (terminal_after_e, f, idle f)) (λ f. rw (terminal_after_e, f))

  one_d : d_of e (station_in images i t) ≡ true
  unfolding d_of idles
  one_d = by_test (eqb t.state F7) (λ f. rw (f, idle f)) (λ f. rw f)

  none_done : completed_class images e i t ≡ 0
  unfolding completed_class idles
  none_done = by_test (eqb t.state F7) (λ f. rw (f, idle f)) (λ f. rw f)

-- ---- All terminals.
-- the exchange at a place, no 0 sent for D so far
abbrev quiet : Letters → Four → ℕ → ℕ → Bool → Bool → Bool → Bool → Tally
quiet letters ds state place heard_d e info1 info3 =
    record { letters = letters; ds = ds; state = state; place = place; done1 = 0; done2 = 0; echo = heard_d; e = e; d = true; info1 = info1; info3 = info3 }

module _ (images : List ℕ) (letters : Letters) (ds : Four) (state place : ℕ) (heard_d e : Bool) where
  quiet_through : (i : ℕ) (c f : Bool) (ts : List Terminal) → all_rest e ts ≡ true
      → fold_from (tally_with images) i (quiet letters ds state place heard_d e c f) ts ≡ quiet letters ds state place heard_d e (c || any_sends 1 (states_of ts)) (f || any_sends 3 (states_of ts))
  unfolding fold_from all_rest any_sends tally_with also shifted
  quiet_through i c f [] h = rw (or-false c, or-false f)
  quiet_through i c f (t ∷ ts) h =
      let p = and_both (part_rests e t) (all_rest e ts) h in
      rw (one_d images e i t p.0, none_done images e i t p.0)
      (quiet_through (suc i) (c || eqb (info_in info_sent t.state) 1) (f || eqb (info_in info_sent t.state) 3) ts p.1 ∙ simp or_assoc)

all_as_they_were : (images : List ℕ) (e : Bool) (i : ℕ) (ts : List Terminal) → all_rest e ts ≡ true → map_from (terminal_after_e images e) i ts ≡ ts
unfolding map_from all_rest
all_as_they_were images e i [] h = refl
all_as_they_were images e i (t ∷ ts) h =
    let p = and_both (part_rests e t) (all_rest e ts) h in rw (as_it_was images e i t p.0, all_as_they_were images e (suc i) ts p.1)

-- ---- One opportunity.
module _ (images : List ℕ) (letters : Letters) (ds : Four) (state place : ℕ) (heard_d e₀ c₀ f₀ : Bool) (ts : List Terminal) (h : all_rest (e_sent state letters.first heard_d) ts ≡ true) where
  tally_after_lem : tally_after images (quiet letters ds state place heard_d e₀ c₀ f₀) ts ≡ ended (quiet letters ds state place heard_d (e_sent state letters.first heard_d) (any_sends 1 (states_of ts)) (any_sends 3 (states_of ts)))
  unfolding tally_after begun
  tally_after_lem = rw (quiet_through images letters ds state place heard_d (e_sent state letters.first heard_d) 0 false false ts h)

  terminals_after_lem : terminals_after images (quiet letters ds state place heard_d e₀ c₀ f₀) ts ≡ ts
  unfolding terminals_after begun
  terminals_after_lem = all_as_they_were images (e_sent state letters.first heard_d) 0 ts h

-- ---- Four.
abbrev shifted_letters : Letters → Letters
shifted_letters l = record { first = l.second; second = l.third; third = l.fourth; fourth = keep_letter }

-- the D heard at the second opportunity
second_d : (c : Bool) → cond c (not true) true ≡ not c
second_d true = refl
second_d false = refl

pub rest_four : RestFour
unfolding tally_after_four terminals_after_four ended d_heard
rest_four images state l1 heard_d ts r =
    let l2 = shifted_letters l1 in
    let l3 = shifted_letters l2 in
    let l4 = shifted_letters l3 in
    let c = any_sends 1 (states_of ts) in
    let f = any_sends 3 (states_of ts) in
    let d3 : Four = record { first = true; second = true; third = true; fourth = not c } in
    let d4 : Four = record { first = true; second = true; third = not c; fourth = true } in
    let e1 = e_sent state l1.first heard_d in
    let e2 = e_sent state l2.first true in
    let e3 = e_sent state l3.first (not c) in
    let m1 = tally_after_lem images l1 (all_four true) state 0 heard_d true false false ts r.first in
    let t1 = terminals_after_lem images l1 (all_four true) state 0 heard_d true false false ts r.first in
    let m2 = tally_after_lem images l2 (all_four true) state 1 true e1 c f ts r.second in
    let t2 = terminals_after_lem images l2 (all_four true) state 1 true e1 c f ts r.second in
    let m3 = tally_after_lem images l3 d3 state 2 (not c) e2 c f ts r.third in
    let t3 = terminals_after_lem images l3 d3 state 2 (not c) e2 c f ts r.third in
    let m4 = tally_after_lem images l4 d4 state 3 true e3 c f ts r.fourth in
    let t4 = terminals_after_lem images l4 d4 state 3 true e3 c f ts r.fourth in
    (rw (m1, t1, m2, t2, second_d c, m3, t3, m4), rw (m1, t1, m2, t2, second_d c, m3, t3) t4)

-- ---- What is gathered of all terminals.
also_still : (s p c a b : Bool) → (((s && p) && not c) && (a && not b)) ≡ (s && ((p && a) && not (c || b)))
also_still false p c a b = refl
also_still true false c a b = refl
also_still true true true a b = rw and-false
also_still true true false a b = refl

gathered : (i : ℕ) (r : Rest) (ts : List Terminal)
    → fold_from also_rests i r ts ≡ record { still = r.still && (all_rest true ts && not (any_sends 1 (states_of ts))); info3 = r.info3 || any_sends 3 (states_of ts) }
unfolding fold_from all_rest any_sends
gathered i r [] = rw (and-true r.still, or-false r.info3)
gathered i r (t ∷ ts) = gathered (suc i) (also_rests i r t) ts ∙ rw (also_still, or_assoc)

pub rest_is : (ts : List Terminal) → rest_of ts ≡ record { still = all_rest true ts && not (any_sends 1 (states_of ts)); info3 = any_sends 3 (states_of ts) }
unfolding rest_of
rest_is ts = gathered 0 none_yet ts

-- ---- An exchange whose E are all 1.
pub ones_rest : (state : ℕ) (letters : Letters) (heard_d : Bool) (ts : List Terminal)
    → ones_sent (first_tally state letters heard_d) ≡ true → all_rest true ts ≡ true → any_sends 1 (states_of ts) ≡ false → RestsThrough state letters heard_d ts
unfolding ones_sent
ones_rest state letters heard_d ts o h none =
    let p = and_both _ (e_sent state letters.fourth true) o in
    let q = and_both _ (e_sent state letters.third true) p.0 in
    let s = and_both (e_sent state letters.first heard_d) (e_sent state letters.second true) q.0 in
    record { first = rw s.0 h; second = rw s.1 h; third = rw (none, q.1) h; fourth = rw p.1 h }

-- ---- As the code finds it.
made : (letters : Letters) (state : ℕ) (heard_d : Bool) {d1 d2 d3 d4 e d info1 info3 : Bool} {place done1 done2 : ℕ}
    → d1 ≡ true → d2 ≡ true → d3 ≡ true → d4 ≡ true → place ≡ 0 → done1 ≡ 0 → done2 ≡ 0 → e ≡ true → d ≡ true → info1 ≡ false → info3 ≡ false
    → record {
      letters = letters;
      ds = record { first = d1; second = d2; third = d3; fourth = d4 };
      state = state;
      place = place;
      done1 = done1;
      done2 = done2;
      echo = heard_d;
      e = e;
      d = d;
      info1 = info1;
      info3 = info3;
    } ≡ first_tally state letters heard_d
made letters state heard_d a b c d p x y e f g h = cc

first_is : (m : Tally) → is_first m ≡ true → m ≡ first_tally m.state m.letters m.echo
unfolding is_first
first_is m h =
    let a = and_both _ (not m.info3) h in
    let b = and_both _ (not m.info1) a.0 in
    let c = and_both _ m.d b.0 in
    let d = and_both _ m.e c.0 in
    let e = and_both _ (eqb m.done2 0) d.0 in
    let f = and_both _ (eqb m.done1 0) e.0 in
    let g = and_both _ (eqb m.place 0) f.0 in
    let i = and_both _ m.ds.fourth g.0 in
    let j = and_both _ m.ds.third i.0 in
    let k = and_both m.ds.first m.ds.second j.0 in
    let info3 : m.info3 ≡ false = not-true m.info3 a.1 in
    let info1 : m.info1 ≡ false = not-true m.info1 b.1 in
    let done2 : m.done2 ≡ 0 = eqb-true m.done2 0 e.1 in
    let done1 : m.done1 ≡ 0 = eqb-true m.done1 0 f.1 in
    let place : m.place ≡ 0 = eqb-true m.place 0 g.1 in
    made m.letters m.state m.echo k.0 k.1 j.1 i.1 place done1 done2 d.1 c.1 info1 info3

pub left_at_rest : (images : List ℕ) (m : Tally) (ts : List Terminal) → may_rest m ≡ true → (rest_of ts).still ≡ true
    → (rest_tally m.state m.letters false (rest_of ts).info3 ≡ tally_after_four images m ts) × (ts ≡ terminals_after_four images m ts)
unfolding may_rest
left_at_rest images m ts h s =
    let p = and_both (is_first m) (ones_sent m) h in
    let f = first_is m p.0 in
    let q = and_both (all_rest true ts) (not (any_sends 1 (states_of ts))) (rw (rest_is ts) at s) in
    let none = not-true (any_sends 1 (states_of ts)) q.1 in
    let r = rest_four images m.state m.letters m.echo ts (ones_rest m.state m.letters m.echo ts (rw f at p.1) q.0 none) in
    (rw (rest_is ts) (ap (λ (c : Bool). rest_tally m.state m.letters c (any_sends 3 (states_of ts))) (sym none) ∙ sym r.0 ∙ ap (λ (x : Tally). tally_after_four images x ts) (sym f)), sym r.1 ∙ ap (λ (x : Tally). terminals_after_four images x ts) (sym f))
