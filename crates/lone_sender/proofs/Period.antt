-- A period of a run alone is the period over all terminals: specs/Period.antt.
use mathlib.Core.Path.{◌≡◌, ◌∙◌}
use mathlib.Core.Bool.{Bool, true, false, not, ◌&&◌}
use mathlib.Core.List.{List, [], ◌∷◌}
use Prim.Native.Nat.{ℕ, suc}
use native.Mathlib.Omega.{arith}
use lib.Dec.{eqb}
use borrow.Author.Tests.{eqb-true, leb-false, not-true}
use Rattle.test_lemmas.proofs.ByCases.{by_test}
use Rattle.test_lemmas.proofs.Operators.{and_both}
use Rattle.hdlc.specs.Bits.{same_bit}
use Rattle.dchannel.proofs.AccessLaws.{same_equal}
use Rattle.notes_and_cells.specs.Cells.{info_in}
use Rattle.table_6_2.specs.Table62.{F7}
use Rattle.table_6_3.specs.Table63.{G3}
use Rattle.table_6_3.specs.Table63 as Table63
use Rattle.timing.specs.Counts.{most_periods}
use Rattle.timing.specs.Calls.{all_run}
use Rattle.timing.proofs.TimerLaws.{clear_due, clear_later}
use Rattle.timing.specs.declared.counts.Periods.{Periods}
use Rattle.heard_line.specs.declared.heard.Downward.{Downward}
use Rattle.terminal.specs.declared.Terminal.{Terminal}
use Rattle.slice_lemmas.specs.Over.{map_from}
use Rattle.slice_lemmas.proofs.Over.{length_mapped}
use Rattle.bus_rules.specs.Quick.{shown_by}
use Rattle.exchange.specs.Tally.{no_letters}
use Rattle.exchange.specs.Tally as exchange
use Rattle.exchange.specs.Shown.{letters_at_e}
use Rattle.period_hearing.specs.Hears.{rests}
use Rattle.period_hearing.proofs.Rests.{AllRest, all_rest_lem}
use Rattle.bus_record.specs.Echo.{hit_in, first_tally, heard_down, step_tally, step_exchanged, step_line}
use Rattle.lone_sender.specs.Lone.{lone_after_four, lone_goes, followed}
use Rattle.lone_sender.specs.Alone.{stays_alone, goes_alone}
use Rattle.lone_sender.specs.Search.{all_hear_alike, AllClear}
use Rattle.lone_sender.specs.Period.{line_here, PeriodAlone, ClearOn}
use Rattle.lone_sender.specs.declared.lone.LoneSender.{LoneSender}
use Rattle.lone_sender.specs.declared.alone.Alone.{Alone}
use Rattle.lone_sender.proofs.LoneFour.{followed_in, followed_out, lone_four}

pub clear_on : ClearOn
clear_on now n k [] few all = tt
clear_on now n k (t ∷ ts) few all = (clear_later now n k 1 t.t3 (omega arith) all.0, clear_on now n k ts few all.1)

-- ---- The hearing: all rest, and no timer is due.
same_rest : (line : Downward) (s : LoneSender) (i : ℕ) (t : Terminal) → rests line (followed s i t) ≡ rests line t
unfolding rests
same_rest line s i t = by_test (eqb t.state F7) (λ h. rw (followed_in s i t h)) (λ h. rw (followed_out s i t h))

same_timer : (s : LoneSender) (i : ℕ) (t : Terminal) → (followed s i t).t3 ≡ t.t3
same_timer s i t = by_test (eqb t.state F7) (λ h. rw (followed_in s i t h)) (λ h. rw (followed_out s i t h))

module _ (period : Periods) (more : all_run period ≡ false) (s : LoneSender) where
  abbrev line : Downward
  line = shown_by G3

  all_rest_here : (i : ℕ) (ts : List Terminal) → all_hear_alike ts ≡ true → AllClear period.0 1 ts → AllRest line period (map_from (followed s) i ts)
  unfolding map_from all_hear_alike
  all_rest_here i [] r c = tt
  all_rest_here i (t ∷ ts) r c =
      let rest = and_both (rests line t) (all_hear_alike ts) r in
      ((same_rest line s i t ∙ rest.0, rw (same_timer s i t) (clear_due period 0 t.t3 (leb-false most_periods period.0 more) c.0)), all_rest_here (suc i) ts rest.1 c.1)

-- ---- What is known where a period more is run.
pub record Goes (images : List ℕ) (a : Alone) : Type 0 where
  pub no_reply : a.answer.reply ≡ 0
  pub none_told : a.answer.told ≡ false
  in_g3_lem : a.answer.bus.network.state ≡ G3
  no_hit : a.answer.bus.hit ≡ false
  heard_is : a.answer.bus.echo ≡ a.lone.last
  goes : lone_goes images a.lone ≡ true
  pub more : all_run a.answer.bus.periods ≡ false

pub goes_facts : (images : List ℕ) (a : Alone) → goes_alone images a ≡ true → Goes images a
unfolding goes_alone stays_alone
goes_facts images a h =
    let bus = a.answer.bus in
    let quiet : Bool = eqb a.answer.reply 0 && not a.answer.told in
    let still : Bool = (quiet && eqb bus.network.state G3) && not bus.hit in
    let same : Bool = same_bit bus.echo a.lone.last in
    let h1 = and_both ((still && same) && lone_goes images a.lone) (not (all_run bus.periods)) h in
    let h2 = and_both (still && same) (lone_goes images a.lone) h1.0 in
    let h3 = and_both still same h2.0 in
    let h4 = and_both (quiet && eqb bus.network.state G3) (not bus.hit) h3.0 in
    let h5 = and_both quiet (eqb bus.network.state G3) h4.0 in
    let h6 = and_both (eqb a.answer.reply 0) (not a.answer.told) h5.0 in
    record {
      no_reply = eqb-true a.answer.reply 0 h6.0;
      none_told = not-true a.answer.told h6.1;
      in_g3_lem = eqb-true bus.network.state G3 h5.1;
      no_hit = not-true bus.hit h4.1;
      heard_is = same_equal bus.echo a.lone.last h3.1;
      goes = h2.1;
      more = not-true (all_run bus.periods) h1.1;
    }

module _ (images letters : List ℕ) (a : Alone) (ts : List Terminal) (g : Goes images a) where
  first_is : first_tally a.answer.bus letters ≡ exchange.first_tally a.answer.bus.network.state no_letters a.lone.last
  unfolding first_tally hit_in letters_at_e
  first_is = rw (g.no_hit, g.heard_is)

  line_is : line_here images letters a ts ≡ shown_by G3
  unfolding step_line heard_down
  line_is = rw (g.no_hit, g.in_g3_lem)

  info_is : eqb (info_in Table63.info_sent a.answer.bus.network.state) 4 ≡ true
  unfolding info_in
  info_is = rw g.in_g3_lem

pub period_alone : PeriodAlone
unfolding step_tally step_exchanged
period_alone images letters a ts on stations sender rest clear =
    let g = goes_facts images a on in
    let four = lone_four images a.answer.bus.network.state a.lone ts (info_is images letters a ts g) stations sender g.goes in
    let after = lone_after_four images a.lone in
    let heard = all_rest_lem (shown_by G3) a.answer.bus.periods 0 (map_from (followed after) 0 ts) (all_rest_here a.answer.bus.periods g.more after 0 ts rest clear) in
    record {
      tally_is = rw (first_is images letters a ts g) four.tally_is;
      terminals_are = rw (line_is images letters a ts g, first_is images letters a ts g, four.terminals_are) heard.terminals_are;
      notes_are = rw (line_is images letters a ts g, first_is images letters a ts g, four.terminals_are) (heard.notes_are ∙ rw (length_mapped (followed after) 0 ts));
      told_is = rw (line_is images letters a ts g, first_is images letters a ts g, four.terminals_are) heard.told_is;
    }
