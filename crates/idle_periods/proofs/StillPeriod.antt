-- A period of a still bus, as the code goes through it: it hands back no notes and changes nothing but the counts.
use mathlib.Core.Path.{◌≡◌, refl, sym}
use mathlib.Core.Bool.{Bool, true, false, cond, not, ◌&&◌}
use mathlib.Core.List.{List, [], ◌∷◌}
use Prim.Native.Nat.{ℕ, suc, ◌+◌, ◌<◌}
use native.Mathlib.Omega.{arith}
use lib.Dec.{eqb, leb}
use lib.ListN.{length, replicate}
use borrow.Author.Tests.{eqb-true, le-leb, not-true}
use Rattle.test_lemmas.proofs.ByCases.{by_test, clash}
use Rattle.test_lemmas.proofs.Operators.{and_both}
use Rattle.frame.specs.Four.{all_four}
use Rattle.frame.specs.declared.fields.Four.{Four}
use Rattle.notes_and_cells.specs.Cells.{info_in}
use Rattle.table_6_2.specs.Table62.{F1, F7}
use Rattle.table_6_3.specs.Table63.{G3, G4}
use Rattle.table_6_3.specs.Table63 as Table63
use Rattle.timing.specs.Counts.{most_periods}
use Rattle.timing.proofs.TimerLaws.{next_is, clear_due}
use Rattle.timing.specs.declared.counts.Periods.{Periods}
use Rattle.heard_line.specs.declared.heard.Downward.{Downward}
use Rattle.network.specs.declared.Network.{Network}
use Rattle.terminal.specs.declared.Terminal.{Terminal}
use Rattle.bus_rules.specs.Quick.{sent_e, shown_by, shown_from}
use Rattle.bus_rules.specs.Exchange.{any_sends}
use Rattle.exchange.specs.Rest.{part_rests, all_rest, states_of, rest_tally, RestsThrough}
use Rattle.exchange.specs.Shown.{letters_at_e}
use Rattle.exchange.proofs.Resting.{rest_four}
use Rattle.period_hearing.specs.Hears.{rests}
use Rattle.period_hearing.proofs.Rests.{AllRest, Unchanged, all_rest_lem}
use Rattle.bus_record.specs.Echo.{hit_in, first_tally, heard_down, step_tally, step_exchanged, step_line}
use Rattle.bus_record.specs.Reading.{quiet_reading, reader_waits, read_in, octets_in}
use Rattle.bus_record.proofs.Counted.{counted_one}
use Rattle.bus_record.proofs.SpokenLaws.{four_ones}
use Rattle.bus_record.proofs.NetworkRests.{rested, listens_rests}
use Rattle.bus_record.specs.NetworkSide.{reader_after, rests_elsewhere, network_rests, counted_after, counted_over, period_has_note, answer_with, answer_after, octets_after, no_notes, refused_run}
use Rattle.bus_record.specs.declared.record.BusRecord.{BusRecord}
use Rattle.bus_call_specs.specs.Step.{step_terminals, step_notes, step_told, step_answer, step_octets}
use Rattle.idle_periods.specs.Still.{quiet, leapt}
use Rattle.idle_periods.proofs.Stays.{AllStay, Still}

-- ---- The network end.
-- in G3 no terminal sends INFO 1 ..
none_calls : (c f : Bool) (n : Network) → network_rests (shown_from c f) n ≡ true → eqb n.state G3 ≡ true → c ≡ false
unfolding shown_from
none_calls false f n h t = refl
none_calls true false n h t = clash false (and_both (n.alignment.aligned && true) false (and_both _ false ((rested (shown_from true false) n h).in_it t)).0).1 refl
none_calls true true n h t = clash false (and_both (n.alignment.aligned && true) false (and_both _ true ((rested (shown_from true true) n h).in_it t)).0).1 refl

-- .. and where one sends INFO 1, so that D25 is 0, the E after it is as after a D of 1
third_e : (c f : Bool) (n : Network) → network_rests (shown_from c f) n ≡ true → sent_e n.state (not c) ≡ sent_e n.state true
unfolding sent_e info_in shown_from
third_e false f n h = refl
third_e true f n h =
    by_test (eqb n.state G3)
    (λ t. clash true refl (none_calls true f n h t))
    (λ t. rw (in_g4 f ((rested (shown_from true f) n h).out_of_it t)))
  where
    in_g4 : (g : Bool) → rests_elsewhere (shown_from true g) n.state ≡ true → n.state ≡ G4
    in_g4 false u = eqb-true n.state G4 u
    in_g4 true u = clash false u refl

-- ---- The terminals.
-- one in F7 that rests hears A at 1
hears_a : (line : Downward) (t : Terminal) → rests line t ≡ true → eqb t.state F7 ≡ true → line.a ≡ true
unfolding rests
hears_a line t h f =
    by_test (eqb t.alignment.run 0)
    (λ u. let h1 : (((t.alignment.aligned && line.pulse) && line.framed) && line.a) ≡ true = rw (u, f) at h in (and_both ((t.alignment.aligned && line.pulse) && line.framed) line.a h1).1)
    (λ u. let h1 : eqb t.state F1 ≡ true = rw u at h in absurd (omega (arith, eqb-true t.state F1 h1, eqb-true t.state F7 f)))

-- so an E of 1 is sent
e_sent_lem : (state : ℕ) (t : Terminal) → rests (shown_by state) t ≡ true → part_rests true t ≡ true → part_rests (sent_e state true) t ≡ true
unfolding part_rests shown_by sent_e
e_sent_lem state t h p =
    by_test (eqb t.state F7)
    (λ f.
    let a = hears_a (shown_by state) t h f in
    by_test (eqb (info_in Table63.info_sent state) 4) (λ u. rw u p)
    (λ u. by_test (eqb (info_in Table63.info_sent state) 2)
    (λ v. clash false (rw (u, v) at a) refl)
    (λ v. rw (u, v) p)))
    (λ f. rw f)

module _ (state : ℕ) (p : Periods) (j : ℕ) (l : p.0 < most_periods) where
  abbrev AllHere : List Terminal → Type 0
  AllHere ts = AllStay (shown_by state) p.0 (suc j) ts

  take_no_part : (ts : List Terminal) → AllHere ts → all_rest (sent_e state true) ts ≡ true
  unfolding all_rest
  take_no_part [] all = refl
  take_no_part (t ∷ ts) all = rw (e_sent_lem state t all.0.hears_alike all.0.takes_no_part, take_no_part ts all.1)

  all_rest_here : (ts : List Terminal) → AllHere ts → AllRest (shown_by state) p ts
  all_rest_here [] all = tt
  all_rest_here (t ∷ ts) all = ((all.0.hears_alike, clear_due p j t.t3 l all.0.t3_clear), all_rest_here ts all.1)

-- ---- The whole.
module _ (images octets letters : List ℕ) (j : ℕ) (b : BusRecord) (ts : List Terminal) (s : Still (suc j) b ts) where
  abbrev state : ℕ
  state = b.network.state

  run : b.periods.0 < most_periods
  run = omega (arith, s.one_left)

  parts : (b.hit ≡ false) × (b.echo ≡ true) × (cond (eqb state G3) (reader_waits b.reader) true ≡ true)
  unfolding quiet
  parts =
      let p = and_both (not b.hit && b.echo) (cond (eqb state G3) (reader_waits b.reader) true) s.quiet_is in
      let q = and_both (not b.hit) b.echo p.0 in
      (not-true b.hit q.0, q.1, p.1)

  rest : RestsThrough state (letters_at_e (hit_in false letters)) true ts
  unfolding hit_in letters_at_e
  rest =
      let all = take_no_part state b.periods j run ts s.terminals_stay in
      let third : all_rest (sent_e state (not (any_sends 1 (states_of ts)))) ts ≡ true = rw (third_e (any_sends 1 (states_of ts)) (any_sends 3 (states_of ts)) b.network s.network_rests_lem) all in
      record { first = all; second = all; third = third; fourth = all }

  tally_is : step_tally b ts images letters ≡ rest_tally state (letters_at_e (hit_in false letters)) (any_sends 1 (states_of ts)) (any_sends 3 (states_of ts))
  unfolding step_tally first_tally
  tally_is = rw (parts.0, parts.1) (rest_four images state (letters_at_e (hit_in false letters)) true ts rest).0

  exchanged_is : step_exchanged b ts images letters ≡ ts
  unfolding step_exchanged first_tally
  exchanged_is = rw (parts.0, parts.1) (rest_four images state (letters_at_e (hit_in false letters)) true ts rest).1

  line_is : step_line b ts images letters ≡ shown_by state
  unfolding step_line heard_down
  line_is = rw parts.0

  -- no terminal hears anything new
  heard : Unchanged (shown_by state) b.periods 0 ts
  heard = all_rest_lem (shown_by state) b.periods 0 ts (all_rest_here state b.periods j run ts s.terminals_stay)

  pub still_terminals : step_terminals b ts images letters ≡ ts
  unfolding step_terminals
  still_terminals = rw (line_is, exchanged_is) heard.terminals_are

  pub still_notes : step_notes b ts images letters ≡ replicate (length ts) no_notes
  unfolding step_notes
  still_notes = rw (line_is, exchanged_is) heard.notes_are

  told_is : step_told b ts images letters ≡ false
  unfolding step_told
  told_is = rw (line_is, exchanged_is) heard.told_is

  -- the four D heard; in G3 all are 1
  abbrev ds : Four
  ds = record { first = true; second = not (any_sends 1 (states_of ts)); third = true; fourth = true }

  ones : eqb state G3 ≡ true → ds ≡ all_four true
  ones t = rw (none_calls (any_sends 1 (states_of ts)) (any_sends 3 (states_of ts)) b.network s.network_rests_lem t)

  read_is : read_in state ds octets b.reader ≡ quiet_reading b.reader
  unfolding read_in
  read_is =
      by_test (eqb state G3)
      (λ t. rw (t, ones t) (four_ones octets b.reader (rw t at parts.2)).0)
      (λ t. rw t)

  pub still_octets : step_octets b ts images octets letters ≡ octets
  unfolding step_octets octets_after octets_in
  still_octets =
      rw tally_is
      (by_test (eqb state G3)
      (λ t. rw (t, ones t) (four_ones octets b.reader (rw t at parts.2)).1)
      (λ t. rw t))

  counted_is : counted_after state b.opportunities ≡ counted_over state 1 b.opportunities
  counted_is = sym (counted_one state b.opportunities)

  pub still_ran : step_answer b ts images octets letters ≡ refused_run 0 (leapt 1 b)
  unfolding step_answer answer_after answer_with refused_run leapt period_has_note reader_after
  still_ran =
      let l : leb (b.periods.0 + 1) most_periods ≡ true = le-leb (b.periods.0 + 1) most_periods (omega (arith, s.one_left)) in
      let d1 = clear_due b.periods j b.network.t1 run s.t1_clear in
      let d2 = clear_due b.periods j b.network.t2 run s.t2_clear in
      rw (tally_is, told_is, read_is, listens_rests (shown_from (any_sends 1 (states_of ts)) (any_sends 3 (states_of ts))) b.periods b.network s.network_rests_lem d1 d2, next_is b.periods run, counted_is, l, parts.0, parts.1)
