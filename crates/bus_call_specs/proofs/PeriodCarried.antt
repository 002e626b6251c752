-- A period on the record and what is lent with it: the reply and the notes of document 01's rules, and what it leaves stands for the bus
-- after it.
use mathlib.Core.Path.{◌≡◌, refl, sym, ap, ◌∙◌}
use mathlib.Core.Bool.{true, false}
use mathlib.Core.List.{map}
use Prim.Native.Nat.{ℕ, ◌+◌, ◌≤◌}
use native.Mathlib.Omega.{arith}
use lib.Dec.{eqb, leb}
use lib.ListN.{length}
use Rattle.test_lemmas.proofs.ByCases.{by_test}
use Rattle.table_6_3.specs.Table63.{G3}
use Rattle.timing.specs.Counts.{most_periods}
use Rattle.hdlc.specs.Image.{longest_body}
use Rattle.hdlc.proofs.ReadingLaws.{after, answers}
use Rattle.d_reader.specs.StandsFor.{StandsFor}
use Rattle.d_reader.specs.Calls as reader
use Rattle.d_reader.proofs.ReadingKept.{stands_after}
use Rattle.d_reader.proofs.AnswerLaws.{answers_say, one_speaks}
use Rattle.cycle.specs.declared.record.Cycle.{Cycle}
use Rattle.bus_rules.specs.Bus.{Bus, fresh_station, with_cycle}
use Rattle.bus_rules.specs.Exchange.{exchanged, opportunities_of, whole_down}
use Rattle.bus_rules.specs.Period.{hearing_codes, heard_by, timed, said_notes, period_run, period_notes}
use Rattle.bus_rules.specs.Calls as bus
use Rattle.bus_rules.specs.Calls.Call.{period}
use Rattle.bus_rules.proofs.OneDone.{exchanged_at}
use Rattle.bus_rules.proofs.Off.{period_off, told_off, units_off}
use Rattle.exchange.specs.Part.{image_of}
use Rattle.bus_record.specs.NetworkSide.{refused_run}
use Rattle.bus_record.specs.declared.side.RunAnswer.{RunAnswer}
use Rattle.bus_call_specs.specs.Kept.{Kept}
use Rattle.bus_record.specs.Echo.{hit_in}
use Rattle.bus_call_specs.specs.Shown.{record_shown, bus_in}
use Rattle.bus_call_specs.specs.Period.{d_read, left_g3, reader_run, octets_run, note_of, body_of, answers_in, done_mask, network_notes, terminals_notes, period_answer, kept_run}
use Rattle.bus_call_specs.specs.Ready.{run_reply, run_goes_on}
use Rattle.bus_call_specs.specs.Run.{SinglePeriod, answer_on, kept_on, not_yet, run_answer, kept_after}
use Rattle.bus_call_specs.specs.Lists.{Carries, called, replied, notes_told, reader_told, period_told}
use Rattle.bus_call_specs.proofs.Fields.{periods_of, cycle_of}
use Rattle.bus_call_specs.proofs.SameExchange.{SameBus, period_same, terminals_same, has_period}
use Rattle.bus_call_specs.proofs.ReaderCarried.{stands_left, reading_exchanged, said_exchanged, note_said}
use Rattle.bus_call_specs.proofs.SameNotes.{read_same, left_same, mask_same, network_notes_same, terminals_notes_same, done_notes_lem, hearing_told, timers_told_lem}
use Rattle.bus_call_specs.proofs.ReadyKept.{reader_run_lem, length_notes}
use Rattle.bus_call_specs.proofs.RunSingle.{period_single}
use Rattle.bus_call_specs.proofs.Fitting.{Fit, run_reply_lem, bus_shown}

few_read : (b : Bus) → length (d_read b) ≤ 4
unfolding d_read opportunities_of
few_read b = by_test (eqb b.network.state G3) (λ t. rw t (omega arith)) (λ t. rw t (omega arith))

module _ (k : Kept) (b : Bus) (c : Carries k b) (f : Fit b) where
  same : SameBus (bus_in k) b
  same = bus_shown k b c f

  -- ---- the reader
  read : StandsFor (reader.reader_after (d_read b) k.bus.reader k.octets) (reader.octets_after (d_read b) k.bus.reader k.octets) (after b.reading (d_read b))
      × (longest_body ≤ length (reader.octets_after (d_read b) k.bus.reader k.octets))
  read = stands_after (d_read b) k.bus.reader k.octets b.reading c.octets_fit c.reader_is

  read_exchanged : StandsFor (reader.reader_after (d_read b) k.bus.reader k.octets) (reader.octets_after (d_read b) k.bus.reader k.octets) (exchanged b).reading
  read_exchanged = rw (reading_exchanged b) read.0

  reader_stands : StandsFor (reader_run k) (octets_run k) (period_run b).reading
  unfolding reader_run octets_run left_g3 period_run timed heard_by
  reader_stands =
      rw (left_same (bus_in k) b same, read_same (bus_in k) b same)
      (stands_left _ _ (exchanged b).reading read_exchanged b.network.state (heard_by (exchanged b) b).network.state (period_run b).network.state)

  octets_long : longest_body ≤ length (octets_run k)
  unfolding octets_run
  octets_long = rw (read_same (bus_in k) b same) read.1

  -- ---- no cycle runs
  no_cycle_lem : (bus_in k).cycle.running ≡ false
  unfolding bus_in
  no_cycle_lem = rw c.cycle_rests

  none_runs : b.cycle.running ≡ false
  none_runs = rw (← cycle_of c.record_is, c.cycle_rests)

  -- ---- what it leaves
  pub run_carried : Carries (kept_run k) (period_run b)
  unfolding kept_run period_answer bus_in hit_in period_run timed heard_by
  run_carried =
      let p = period_same (bus_in k) b same in
      record {
        record_is = ap (λ (x : Cycle). with_cycle x (record_shown (period_answer k).bus k.letters)) (sym (period_off (bus_in k) no_cycle_lem)) ∙ p.bare_same;
        cycle_rests = c.cycle_rests;
        terminals_are = terminals_same _ _ p;
        images_are = λ i. (has_period (image_of k.images i) i b (f.in_order i, c.images_are i)).1;
        reader_is = reader_stands;
        reader_fits = reader_run_lem k c.reader_fits;
        images_fit = c.images_fit;
        octets_fit = octets_long;
        letters_fit = c.letters_fit;
        notes_fit = rw (terminals_notes_same (bus_in k) b same) (length_notes b ∙ f.in_range.eight);
      }

  -- ---- the notes that it hands back
  reader_notes : (r : RunAnswer) → r.said ≡ note_of (answers_in k) → r.body ≡ body_of (answers_in k) →
      reader_told b.periods r (octets_run k) ≡ said_notes b.periods (exchanged b).saids
  unfolding answers_in octets_run
  reader_notes r p q =
      let ds = d_read b in
      let few = few_read b in
      note_said b.periods (octets_run k) r (answers_in k) (answers b.reading ds) p q
      (rw (read_same (bus_in k) b same) (answers_say ds k.bus.reader k.octets b.reading (omega arith) c.octets_fit c.reader_is))
      (rw (read_same (bus_in k) b same) (one_speaks ds k.bus.reader k.octets (omega arith)))
      ∙ sym (said_exchanged b b.periods)

  period_told_lem : (r : RunAnswer) → r.said ≡ note_of (answers_in k) → r.body ≡ body_of (answers_in k) → r.network ≡ network_notes b →
      r.done1 ≡ done_mask 1 b → r.done2 ≡ done_mask 2 b → period_told b.periods r (terminals_notes b) (octets_run k) ≡ period_notes b
  unfolding period_told period_notes heard_by terminals_notes network_notes
  period_told_lem r p q n one two =
      rw (
        reader_notes r p q,
        hearing_told (whole_down (exchanged b)) b.periods r (exchanged_at b fresh_station) 0 (exchanged b).senders
            (λ j. let z : 0 + j ≡ j = omega arith in rw (z, one, two) (done_notes_lem b f.in_range j)),
        timers_told_lem (whole_down (exchanged b)) b.periods (exchanged b).senders,
        n,
        told_off b none_runs 0,
        units_off _ (told_off b none_runs) b.periods 1 (map (hearing_codes (whole_down (exchanged b)) b.periods) (exchanged b).senders),
      )

  pub run_told_lem : period_told k.bus.periods.0 (period_answer k) (kept_run k).notes (kept_run k).octets ≡ period_notes b
  unfolding kept_run period_answer
  run_told_lem =
      rw (terminals_notes_same (bus_in k) b same)
      (ap (λ (n : ℕ). period_told n (period_answer k) (terminals_notes b) (octets_run k)) (periods_of c.record_is)
      ∙ period_told_lem (period_answer k) refl refl (network_notes_same (bus_in k) b same) (mask_same (bus_in k) b same 1) (mask_same (bus_in k) b same 2))

  -- ---- the call: refused by 9, or one period
  last_run : leb most_periods b.periods ≡ true → (run_answer 1 k ≡ refused_run 9 k.bus) × (kept_after 1 k ≡ k)
  unfolding run_answer kept_after answer_on kept_on not_yet run_goes_on refused_run
  last_run t = let e : run_reply 1 k ≡ 9 = rw t at (run_reply_lem k b c f) in (rw e, rw e)

  one_more : leb most_periods b.periods ≡ false → SinglePeriod k
  one_more t = period_single k (rw t at (run_reply_lem k b c f))

  replied_run : replied k period ≡ (run_answer 1 k).reply
  unfolding replied
  replied_run = refl

  pub period_replied : replied k period ≡ bus.reply b period
  unfolding bus.reply refused_run period_answer
  period_replied =
      replied_run ∙ by_test (leb most_periods b.periods) (λ t. rw ((last_run t).0, t)) (λ t. rw ((one_more t).answer_is, t))

  pub period_notes_lem : notes_told k period ≡ bus.notes b period
  unfolding notes_told bus.notes bus.tells bus.reply
  period_notes_lem =
      rw period_replied
      (by_test (leb most_periods b.periods)
      (λ t. rw t)
      (λ t. rw ((one_more t).answer_is, (one_more t).kept_is, t) run_told_lem))

  pub period_carried : Carries (called k period) (bus.after b period)
  unfolding called bus.after bus.does bus.reply
  period_carried =
      by_test (leb most_periods b.periods) (λ t. rw ((last_run t).1, t) c) (λ t. rw ((one_more t).kept_is, t) run_carried)
