-- A period as the code goes through it is document 01's period: `specs/Step.antt`.
use mathlib.Core.Path.{◌≡◌, refl, sym, ap, ◌∙◌}
use mathlib.Core.Bool.{Bool, true, false, ◌||◌, or-true, or-false, or_assoc}
use mathlib.Core.List.{List, [], ◌∷◌, map}
use Prim.Native.Nat.{ℕ, suc, ◌+◌, ◌*◌, ◌≤◌, ◌<◌}
use native.Mathlib.Omega.{arith}
use lib.Dec.{eqb}
use borrow.Author.Tests.{le-leb, lt-leb, leb-false}
use Rattle.test_lemmas.proofs.ByCases.{by_test}
use Rattle.symbols.specs.Symbols.{is_line}
use Rattle.frame.specs.Four.{filled_with_ones}
use Rattle.frame.specs.declared.fields.Four.{Four}
use Rattle.info.specs.Info.{unset}
use Rattle.info.proofs.Laws.{line_info0, line_info2, line_info4}
use Rattle.notes_and_cells.specs.Cells.{info_in}
use Rattle.table_6_3.specs.Table63.{G3}
use Rattle.table_6_3.specs.Table63 as Table63
use Rattle.slice_lemmas.specs.Over.{map_from, fold_from}
use Rattle.timing.specs.Counts.{most_periods}
use Rattle.timing.specs.Calls.{at_period, all_run, next_period, four_more}
use Rattle.timing.specs.declared.counts.Periods.{Periods}
use Rattle.heard_line.specs.Sensing.{shown_up, shown_down}
use Rattle.heard_line.specs.declared.heard.Downward.{Downward}
use Rattle.heard_line.specs.declared.heard.Upward.{Upward}
use Rattle.network.specs.Network as network
use Rattle.terminal.specs.declared.Terminal.{Terminal}
use Rattle.d_reader.specs.Calls as reader
use Rattle.bus_rules.specs.Bus.{Bus}
use Rattle.bus_rules.specs.Exchange.{Sender, Opportunity as Lines, stations_of, any_info1, any_info3, d_comes, senders_after, e_comes, onward, begins, opportunities_of, exchanged, sent_down, line_down, whole_down, whole_up}
use Rattle.bus_rules.specs.Period.{network_hears, terminal_hears, heard_by, timed, period_run}
use Rattle.bus_rules.specs.Quick.{shown_from}
use Rattle.bus_rules.specs.Stretch.{station_then}
use Rattle.bus_rules.specs.Ranges.{InRange}
use Rattle.bus_rules.proofs.Quick.{info1_hears, info3_hears, up_shown, down_shown}
use Rattle.bus_rules.proofs.Off.{still_off, line_off}
use Rattle.bus_rules.proofs.Stations.{stations_stationed}
use Rattle.bus_rules.proofs.Ranges.{PeriodCalled, exchanged_in, period_called}
use Rattle.exchange.specs.Opportunities.{tally_after_four}
use Rattle.exchange.specs.Shown.{done_octet, first_tally_of, Exchanges}
use Rattle.exchange.specs.declared.tally.Tally.{Tally}
use Rattle.exchange.proofs.Shown.{exchange_shown}
use Rattle.period_hearing.specs.Hears.{heard_one, has_note, notes_after, told_after}
use Rattle.period_hearing.specs.Shown.{all_in_range, terminals_of, terminal_notes}
use Rattle.period_hearing.proofs.Shown.{stations_shown, notes_shown}
use Rattle.bus_record.specs.Echo.{hit_in, first_tally, sent_es, heard_down, step_tally, step_exchanged, step_line}
use Rattle.bus_record.specs.NetworkSide as side
use Rattle.bus_record.specs.Reading.{said_note, said_body, read_in}
use Rattle.bus_record.specs.declared.reading.Spoken.{Spoken}
use Rattle.bus_event.specs.Event.{are_letters}
use Rattle.bus_record.specs.declared.record.BusRecord.{BusRecord}
use Rattle.bus_call_specs.specs.Kept.{Kept}
use Rattle.bus_call_specs.specs.Shown.{bus_in}
use Rattle.bus_call_specs.specs.Period as period
use Rattle.bus_call_specs.specs.Period.{period_answer, kept_run, terminals_notes, network_notes, left_g3, any_unit_note}
use Rattle.bus_call_specs.specs.Step.{step_terminals, step_notes, step_told, step_answer, step_octets, StepShows, StepShown}
use Rattle.bus_call_specs.proofs.ReadFour.{read_in_lem, octets_in_lem}
use Rattle.bus_call_specs.proofs.InOrder.{InOrder, in_order, one_left, all_fit, bus_in_range}

-- ---- What the terminals hear.
line_sent : (state : ℕ) (es : Four) → is_line (sent_down unset state es) ≡ true
unfolding sent_down
line_sent state es =
    by_test (eqb (info_in Table63.info_sent state) 4)
    (λ t. rw t (line_info4 unset es))
    (λ t. by_test (eqb (info_in Table63.info_sent state) 2) (λ u. rw (t, u) (line_info2 unset)) (λ u. rw (t, u) line_info0))

heard_down_lem : (bus : BusRecord) (ds : Four) (es : List Bool) (letters : List ℕ) → are_letters letters ≡ true → sent_es bus ds ≡ filled_with_ones es →
    heard_down bus ds letters ≡ shown_down (line_down unset bus.network.state (hit_in bus.hit letters) es)
unfolding heard_down line_down hit_in
heard_down_lem bus ds es letters fit sent =
    by_test bus.hit
    (λ t. rw (t, sent, line_sent bus.network.state (filled_with_ones es), fit))
    (λ t. rw t (sym (down_shown unset bus.network.state (filled_with_ones es))))

-- the E that are sent: the D heard before each
es_sent : (bus : BusRecord) (b : Bus) → bus.echo ≡ b.heard_d → sent_es bus (filled_with_ones (map d_comes (opportunities_of b))) ≡ filled_with_ones (exchanged b).es
unfolding filled_with_ones opportunities_of exchanged onward begins
es_sent bus b e = rw e

-- ---- Whether they have a note.
told_noted : (line : Downward) (now : Periods) (i : ℕ) (told : Bool) (ts : List Terminal) →
    fold_from (told_after line now) i told ts ≡ (told || any_unit_note (map_from (notes_after line now) i ts))
unfolding fold_from map_from any_unit_note heard_one has_note
told_noted line now i told [] = sym (or-false told)
told_noted line now i told (t ∷ ts) =
    told_noted line now (suc i) (told || (heard_one line now t).told) ts ∙ or_assoc told (heard_one line now t).told _

-- ---- Their notes.
notes_of_lem : (down : List ℕ) (now : ℕ) (ss : List Sender) →
    map (terminal_notes (shown_down down) now) (terminals_of (stations_of ss)) ≡ map (λ (s : Sender). terminal_notes (shown_down down) now s.station.terminal) ss
notes_of_lem down now [] = refl
notes_of_lem down now (s ∷ ss) = rw (notes_of_lem down now ss)

-- ---- What the network end hears: the states do not change in the exchange.
info1_onward : (m : Lines) → any_info1 (stations_of (onward m).senders) ≡ any_info1 (stations_of m.senders)
unfolding onward senders_after
info1_onward m = info1_hears (e_comes m) m.senders

info3_onward : (m : Lines) → any_info3 (stations_of (onward m).senders) ≡ any_info3 (stations_of m.senders)
unfolding onward senders_after
info3_onward m = info3_hears (e_comes m) m.senders

begins_stations : (b : Bus) → stations_of (begins b).senders ≡ b.stations
unfolding begins
begins_stations b = stations_stationed b.stations

up_is : (b : Bus) → b.cycle.running ≡ false → shown_up (whole_up (exchanged b)) ≡ shown_from (any_info1 b.stations) (any_info3 b.stations)
unfolding exchanged
up_is b h =
    let one = begins b in
    let two = onward one in
    let three = onward two in
    up_shown (exchanged b) (still_off b h)
    ∙ rw (
      info1_onward (onward three),
      info1_onward three,
      info1_onward two,
      info1_onward one,
      info3_onward (onward three),
      info3_onward three,
      info3_onward two,
      info3_onward one,
      begins_stations b,
    )

-- ---- Whether there is a note, in the two orders.
two_orders : (h i t s a b : Bool) → (((((t || s) || a) || b) || h) || i) ≡ (((((h || i) || t) || s) || a) || b)
two_orders true i t s a b = rw (or-true (((t || s) || a) || b))
two_orders false true t s a b = or-true ((((t || s) || a) || b) || false)
two_orders false false t s a b = rw (or-false (((t || s) || a) || b), or-false (((t || s) || a) || b))

-- ---- A period that can be run.
module _ (k : Kept) (o : InOrder k) (l : k.bus.periods.0 < most_periods) where
  abbrev b : Bus
  b = bus_in k

  abbrev now : ℕ
  now = k.bus.periods.0

  abbrev down : List ℕ
  down = whole_down (exchanged b)

  in_range : InRange b
  in_range = bus_in_range k o

  -- no cycle runs
  no_cycle_lem : b.cycle.running ≡ false
  unfolding bus_in
  no_cycle_lem = rw o.cycle_rests

  -- the exchange
  shown : Exchanges k.images b k.terminals
  unfolding bus_in
  shown = exchange_shown k.images (bus_in k) k.terminals o.eight refl

  abbrev tally : Tally
  tally = tally_after_four k.images (first_tally_of b) k.terminals

  first_is : first_tally k.bus k.letters ≡ first_tally_of b
  unfolding first_tally bus_in
  first_is = refl

  tally_is : step_tally k.bus k.terminals k.images k.letters ≡ tally
  unfolding step_tally
  tally_is = rw first_is

  exchanged_is : step_exchanged k.bus k.terminals k.images k.letters ≡ terminals_of (stations_of (exchanged b).senders)
  unfolding step_exchanged
  exchanged_is = rw first_is shown.terminals

  fit_after : all_in_range (terminals_of (stations_of (exchanged b).senders)) ≡ true
  unfolding station_then
  fit_after = all_fit (stations_of (exchanged b).senders) (exchanged_in b in_range)

  -- the terminals' hearing
  line_is : step_line k.bus k.terminals k.images k.letters ≡ shown_down down
  unfolding step_line bus_in
  line_is =
      rw (tally_is, shown.ds, line_off b no_cycle_lem)
      (heard_down_lem k.bus (filled_with_ones (map d_comes (opportunities_of b))) (exchanged b).es k.letters o.letters_fit (es_sent k.bus b refl))

  terminals_are : step_terminals k.bus k.terminals k.images k.letters ≡ (kept_run k).terminals
  unfolding step_terminals kept_run period_run timed heard_by terminal_hears bus_in
  terminals_are = rw (line_is, exchanged_is) (stations_shown (shown_down down) now (stations_of (exchanged b).senders) (omega arith) fit_after)

  notes_are : step_notes k.bus k.terminals k.images k.letters ≡ (kept_run k).notes
  unfolding step_notes kept_run terminals_notes bus_in
  notes_are =
      rw (line_is, exchanged_is)
      (notes_shown (shown_down down) now (terminals_of (stations_of (exchanged b).senders)) (omega arith) fit_after
      ∙ notes_of_lem down now (exchanged b).senders)

  told_is : step_told k.bus k.terminals k.images k.letters ≡ any_unit_note (terminals_notes b)
  unfolding step_told step_notes kept_run
  told_is = told_noted (step_line k.bus k.terminals k.images k.letters) k.bus.periods 0 false _ ∙ ap any_unit_note notes_are

  -- the reader
  octets_are : step_octets k.bus k.terminals k.images k.octets k.letters ≡ (kept_run k).octets
  unfolding step_octets side.octets_after kept_run period.octets_run period.d_read opportunities_of bus_in
  octets_are = rw (tally_is, shown.ds) (octets_in_lem k.bus.network.state _ _ _ _ k.octets k.bus.reader)

  abbrev spoken : Spoken
  spoken = read_in k.bus.network.state tally.ds k.octets k.bus.reader

  spoken_is : (spoken.reader ≡ reader.reader_after (period.d_read b) k.bus.reader k.octets)
      × (said_note spoken.said ≡ period.note_of (period.answers_in k))
      × (said_body spoken.said ≡ period.body_of (period.answers_in k))
  unfolding period.d_read period.answers_in opportunities_of bus_in
  spoken_is = rw shown.ds (read_in_lem k.bus.network.state _ _ _ _ k.octets k.bus.reader)

  -- the network end's hearing and its timers
  called : PeriodCalled b
  unfolding bus_in
  called = period_called b l in_range

  abbrev line_up_lem : Upward
  line_up_lem = shown_from tally.info1 tally.info3

  next_is : next_period k.bus.periods ≡ at_period (now + 1)
  unfolding next_period
  next_is = rw (lt-leb most_periods now l)

  hears_is : side.hearing_step line_up_lem k.bus.periods k.bus.network ≡ network_hears (whole_up (exchanged b)) now b.network
  unfolding side.hearing_step bus_in
  hears_is = rw (shown.info1, shown.info3, ← up_is b no_cycle_lem) called.network_hears_lem

  timers_is : side.timer_step line_up_lem k.bus.periods k.bus.network ≡ network.timers (now + 1) (heard_by (exchanged b) b).network
  unfolding side.timer_step heard_by bus_in
  timers_is = rw (hears_is, next_is) called.network_timers

  side_is : side.network_listens line_up_lem k.bus.periods k.bus.network ≡ record {
    network = (period_run b).network;
    notes = network_notes b;
    left = left_g3 b;
  }
  unfolding side.network_listens period_run timed network_notes left_g3 heard_by bus_in
  side_is = rw (hears_is, timers_is)

  -- the counts
  counted : side.counted_after k.bus.network.state k.bus.opportunities ≡ record { 0 = (period_run b).opportunities }
  unfolding side.counted_after four_more period_run timed heard_by bus_in
  counted =
      let few : k.bus.opportunities.0 ≤ 4 * most_periods = omega (arith, o.opportunities_fit) in
      let same : k.bus.opportunities.0 + 0 ≡ k.bus.opportunities.0 = omega arith in
      by_test (eqb k.bus.network.state G3) (λ t. rw (t, le-leb k.bus.opportunities.0 (4 * most_periods) few)) (λ t. rw (t, same))

  answer_is : step_answer k.bus k.terminals k.images k.octets k.letters ≡ period_answer k
  unfolding step_answer side.answer_after side.answer_with side.reader_after side.period_has_note period_answer period.reader_run period.has_notes any_unit_note has_note done_octet period.done_mask period_run timed heard_by bus_in
  answer_is =
      rw (
        tally_is,
        spoken_is.0,
        spoken_is.1,
        spoken_is.2,
        side_is,
        told_is,
        shown.echo,
        shown.done1,
        shown.done2,
        next_is,
        counted,
        two_orders (has_note (network_notes b).hearing) (has_note (network_notes b).timers) (any_unit_note (terminals_notes b)),
      )

pub order_shows : (k : Kept) → InOrder k → all_run k.bus.periods ≡ false → StepShows k
order_shows k o e =
    let l : k.bus.periods.0 < most_periods = leb-false most_periods k.bus.periods.0 e in
    record { answer_is = answer_is k o l; terminals_are = terminals_are k o l; octets_are = octets_are k o l; notes_are = notes_are k o l }

pub step_shown : StepShown
step_shown k h = order_shows k (in_order 1 k h) (one_left 1 k (omega arith) h)
