-- Laws: scenes of the bus, computed by the definitions: lists of calls with what they hand back,
-- and records that no list of calls leads to.
-- Interface: none but for laws and proofs. Assumes nothing.
use Rattle.std.specs.Prelude.{◌≡◌, refl, Bool, true, false, cond, List, [], ◌∷◌, ◌++◌, map, ℕ, zero, suc, ◌*◌, eqb, replicate}
use Rattle.symbols.specs.Symbols.{line_length, within, fits, tabulate, same_symbols}
use Rattle.frame.specs.Bits as bits
use Rattle.frame.specs.Polarity as polarity
use Rattle.frame.specs.Down as down
use Rattle.frame.specs.Up as up
use Rattle.frame.specs.Four as four
use Rattle.framed.specs.Framed as framing
use Rattle.combining.specs.Combine as combine
use Rattle.combining.specs.Hit.{keep_letter, minus_letter, none_letter}
use Rattle.combining.specs.Hit as hits
use Rattle.hdlc.specs.Bits as octets
use Rattle.hdlc.specs.Image as images
use Rattle.hdlc.specs.Reading.{cleared}
use Rattle.hdlc.specs.Reading as reader
use Rattle.cycle.specs.Cycle as cycle
use Rattle.dchannel.specs.Access as access
use Rattle.dchannel.specs.Handing as handing
use Rattle.dchannel.specs.declared.access.Access.{Access}
use Rattle.contention.specs.Change.{change}
use Rattle.notes_and_cells.specs.Notes.{ph_act, ph_deact, mph_act, mph_deact, mph_ei, mph_ei1, mph_ei2, mph_ii_connected, HEARD}
use Rattle.notes_and_cells.specs.Notes.{mph_ii_disconnected, TORN, DONE1, DROPPED1, REFUSED, noted}
use Rattle.notes_and_cells.specs.Cells.{cell_in, info_in}
use Rattle.table_6_2.specs.Table62.{F2, F4, F6, F7}
use Rattle.table_6_3.specs.Table63.{G1, G2, G3, G4}
use Rattle.timing.specs.Counts.{most_periods}
use Rattle.timing.specs.Timers as timers
use Rattle.alignment.specs.Alignment as alignment
use Rattle.alignment.specs.declared.Alignment.{Alignment}
use Rattle.heard_line.specs.Heard as heard
use Rattle.heard_line.specs.Sensing as sensing
use Rattle.network.specs.Network as network
use Rattle.network.specs.declared.Network.{Network}
use Rattle.terminal.specs.Terminal as terminal
use Rattle.bus_rules.specs.Bus.{Station, Bus, Note, fresh_station, fresh_bus, notes_of}
use Rattle.bus_rules.specs.Bus.{with_counts, with_network, with_stations}
use Rattle.bus_rules.specs.Order.{unit_by_unit}
use Rattle.bus_rules.specs.Exchange.{Opportunity, sent_down, sent_up, access_step_of, station_after_e, d_of, done_of, hears_e, sent_of}
use Rattle.bus_rules.specs.Exchange.{line_down, line_up, e_comes, senders_after, d_comes, said_to, onward, as_sender, begins}
use Rattle.bus_rules.specs.Exchange.{opportunities_of, exchanged, whole_down, fa_down, fa_sent, sent_from, whole_up}
use Rattle.bus_rules.specs.CycleNotes.{q_notes, s_notes, cycle_notes}
use Rattle.bus_rules.specs.Period.{reading_after, network_hears, terminal_hears, stepped, said_notes, done_codes, heard_by}
use Rattle.bus_rules.specs.Period.{cycle_after, timed, period_run, period_notes}
use Rattle.bus_rules.specs.TwoParts.{notes_heard, notes_timed}
use Rattle.bus_rules.specs.Event.{class_of, event_for, bars_network, bars_terminal, bars, call_reasons, state_reasons, reasons}
use Rattle.bus_rules.specs.Event.{first_holding, refusal, network_does, network_done, hit_given, terminal_does, with_frame}
use Rattle.bus_rules.specs.Event.{station_after, station_done, event_done, event_notes}
use Rattle.bus_rules.specs.Calls.{Call, reply, does, tells, after, notes, after_all, notes_of_all, run_goes_on, run_calls, run_reply}
use Rattle.bus_rules.specs.Calls.{run_notes, run_leaves}
use Rattle.notes_and_cells.specs.Events.{ON, OFF, AR, DR, D1, D2, HIT}
use Rattle.bus_rules.specs.Calls.Call.{event, period}
use Rattle.bus_rules.specs.Stretch.{opportunities_of_call, opportunities_in, station_then, buses, powered, powered_from, powered_in}
use Rattle.bus_rules.specs.Stretch.{longest_of, longest_in}
use Rattle.bus_rules.specs.Claims.{wait_bound}

-- n periods, then more calls
abbrev pub periods : ℕ → List Call → List Call
periods zero more = more
periods (suc n) more = period ∷ periods n more

abbrev pub note : ℕ → ℕ → ℕ → List ℕ → Note
note p u c v = record { period = p; unit = u; code = c; value = v }

abbrev unit_of : Call → ℕ
unit_of (event unit number value) = unit
unit_of period = 0

-- the notes of a call, or the one of its refusal
abbrev reported : Bus → Call → List Note
reported b c = cond (eqb (reply b c) 0) (notes b c) (note b.periods (unit_of c) REFUSED (reply b c ∷ []) ∷ [])

abbrev report_from : Bus → List Call → List Note
report_from b [] = []
report_from b (c ∷ more) = reported b c ++ report_from (after b c) more

-- what a list of calls hands back; whatever says `unfolding handed_back` computes a bus
unfoldable pub handed_back : Bus → List Call → List Note
unfolding within fits tabulate same_symbols bits.octet_bits bits.zeros polarity.alternate polarity.symbols down.down_body down.down_bits
    down.down_line up.up_bits up.up_line four.pick four.filled_with_ones framing.first_pulse framing.framed_in framing.has_pulse
    combine.is_sent combine.combined hits.hit octets.low_bits octets.body_bits octets.number_low_first octets.octets images.stuff
    images.image images.all_octets images.is_body reader.starts_with reader.unstuff reader.reversed reader.rest reader.contents
    reader.between reader.aborted reader.says reader.said reader.next access.entered access.count_after access.low_after access.after_e
    access.low_of access.threshold access.may_start access.sends_next access.stops access.completes access.idles access.access_step
    handing.taken_up handing.left change noted cell_in info_in timers.due timers.started_by timers.timer_after alignment.framed_period
    alignment.unframed_period alignment.followed heard.downward_event heard.upward_event heard.loss_up sensing.shown_down sensing.shown_up
    network.moved network.acts network.happens network.and_then network.aligned network.requests network.t1_due network.t2_due
    network.timers network.heard_as network.hears terminal.access_after terminal.dropped_note terminal.moved terminal.acts
    terminal.happens terminal.aligned terminal.no_timer terminal.switches_on terminal.switches_off terminal.requests terminal.timer
    terminal.heard_as terminal.hears notes_of sent_down sent_up access_step_of station_after_e d_of done_of hears_e sent_of line_down
    line_up
    e_comes senders_after d_comes said_to onward as_sender begins opportunities_of exchanged whole_down whole_up reading_after network_hears
    terminal_hears stepped said_notes done_codes heard_by notes_heard timed notes_timed period_run period_notes class_of event_for
    bars_network
    bars_terminal bars call_reasons state_reasons reasons first_holding refusal network_does network_done hit_given terminal_does with_frame
    station_after station_done event_done event_notes reply does tells after notes after_all opportunities_of_call opportunities_in
    station_then
    buses powered powered_from powered_in longest_of longest_in network.bars terminal.bars unit_by_unit notes_of_all run_goes_on
    run_calls run_reply
    run_notes run_leaves fa_down fa_sent sent_from q_notes s_notes cycle_notes cycle_after cycle.taken cycle.bits_at cycle.up_fa
    cycle.heard_in
    cycle.q_told cycle.s_told
handed_back b calls = report_from b calls

-- ---- Lists of calls from the fresh bus.

-- document 01's book: `on` in period 0, `ar` in period 1, `d1` with body 00 in period 9, and the
-- periods before 20
abbrev pub example_calls : List Call
example_calls = event 1 ON [] ∷ periods 1 (event 1 AR [] ∷ periods 8 (event 1 D1 (0 ∷ []) ∷ periods 11 []))

-- its report
pub the_book :
    handed_back fresh_bus example_calls
    ≡ note 0 1 mph_ii_connected []
    ∷ note 7 0 ph_act []
    ∷ note 7 0 mph_act []
    ∷ note 8 1 ph_act []
    ∷ note 8 1 mph_act []
    ∷ note 8 1 mph_ei2 []
    ∷ note 16 0 HEARD (0 ∷ [])
    ∷ note 16 1 DONE1 []
    ∷ []
unfolding handed_back
the_book = refl

-- "four for each period whose lines leave the network end in G3": the lines of periods 8 to 19, and
-- not those of period 20 after a `dr`
pub four_each :
    ((after_all fresh_bus example_calls).opportunities ≡ 48)
    × ((after_all fresh_bus (example_calls ++ (event 0 DR [] ∷ period ∷ []))).opportunities ≡ 48)
unfolding handed_back
four_each = (refl, refl)

-- bodies 01 and 00 started together: 00 is completed, and 01 starts over
pub zero_before_one :
    handed_back fresh_bus
    (event 1 ON [] ∷ event 2 ON [] ∷ periods 1 (event 1 AR [] ∷ periods 19 (event 1 D1 (1 ∷ []) ∷ event 2 D1 (0 ∷ []) ∷ periods 15 [])))
    ≡ note 0 1 mph_ii_connected []
    ∷ note 0 2 mph_ii_connected []
    ∷ note 7 0 ph_act []
    ∷ note 7 0 mph_act []
    ∷ note 8 1 ph_act []
    ∷ note 8 1 mph_act []
    ∷ note 8 1 mph_ei2 []
    ∷ note 8 2 ph_act []
    ∷ note 8 2 mph_act []
    ∷ note 8 2 mph_ei2 []
    ∷ note 25 0 HEARD (0 ∷ [])
    ∷ note 26 2 DONE1 []
    ∷ note 33 0 HEARD (1 ∷ [])
    ∷ note 34 1 DONE1 []
    ∷ []
unfolding handed_back
zero_before_one = refl

-- document 01's book up to the `d1` of period 9: terminal 1 is in F7, the network end in G3
abbrev pub activating : List Call
activating = event 1 ON [] ∷ periods 1 (event 1 AR [] ∷ periods 8 [])

abbrev pub activated : Bus
activated = after_all fresh_bus activating

-- A hit that blots out period 9: the terminal drops its frame and falls to F3, the network end
-- hears INFO 0 in period 10; period 10 has no hit, and all is activated anew. A second hit that is
-- refused replaces nothing.
pub one_hit :
    handed_back activated
    (event 1 D1 (0 ∷ []) ∷ event 0 HIT (replicate line_length none_letter) ∷ event 0 HIT (replicate 47 keep_letter) ∷ periods 8 [])
    ≡ note 9 0 REFUSED (2 ∷ [])
    ∷ note 9 1 DROPPED1 []
    ∷ note 9 1 mph_deact []
    ∷ note 9 1 ph_deact []
    ∷ note 10 0 mph_deact []
    ∷ note 10 0 mph_ei []
    ∷ note 15 0 ph_act []
    ∷ note 15 0 mph_act []
    ∷ note 16 1 ph_act []
    ∷ note 16 1 mph_act []
    ∷ note 16 1 mph_ei2 []
    ∷ []
unfolding handed_back
one_hit = refl

-- "a second replaces the first": one that keeps all leaves nothing of it
pub second_hit :
    handed_back activated
    (event 1 D1 (0 ∷ []) ∷ event 0 HIT (replicate line_length none_letter) ∷ event 0 HIT (replicate line_length keep_letter) ∷ periods 8 [])
    ≡ note 16 0 HEARD (0 ∷ []) ∷ note 16 1 DONE1 [] ∷ []
unfolding handed_back
second_hit = refl

-- "D notes .. come before the table's": in period 16 the frame is completed, and a hit that puts a
-- pulse at position 13, where A stands, makes the terminal hear INFO 2.
pub d_notes_first :
    handed_back activated
    (event 1 D1 (0 ∷ [])
    ∷ periods 7 (event 0 HIT (replicate 12 keep_letter ++ (minus_letter ∷ replicate 35 keep_letter)) ∷ periods 1 []))
    ≡ note 16 0 HEARD (0 ∷ []) ∷ note 16 1 DONE1 [] ∷ note 16 1 mph_ei1 [] ∷ []
unfolding handed_back
d_notes_first = refl

-- The reader's notes come before the table's of unit 0: terminal 1 is switched off while its frame
-- is sent, and in period 16 the network end reads seven 1s and hears INFO 0.
pub reader_first :
    handed_back activated (event 1 D1 (0 ∷ []) ∷ periods 7 (event 1 OFF [] ∷ periods 1 []))
    ≡ note 16 1 DROPPED1 []
    ∷ note 16 1 mph_ii_disconnected []
    ∷ note 16 1 mph_deact []
    ∷ note 16 1 ph_deact []
    ∷ note 16 0 TORN []
    ∷ note 16 0 mph_deact []
    ∷ note 16 0 mph_ei []
    ∷ []
unfolding handed_back
reader_first = refl

-- The order of the refusals: 2 before 3, 3 before 4, 6 before 7, 7 before 8. Terminal 1 is in F7,
-- terminal 2 in F1.
pub refusals_in_order :
    handed_back activated
    (event 9 HIT []
    ∷ event 9 DR []
    ∷ event 2 DR []
    ∷ event 2 OFF []
    ∷ event 1 AR []
    ∷ event 2 D1 []
    ∷ event 1 D1 []
    ∷ event 1 D1 (0 ∷ [])
    ∷ event 1 D2 []
    ∷ event 1 D2 (0 ∷ [])
    ∷ [])
    ≡ note 9 9 REFUSED (2 ∷ [])
    ∷ note 9 9 REFUSED (3 ∷ [])
    ∷ note 9 2 REFUSED (4 ∷ [])
    ∷ note 9 2 REFUSED (5 ∷ [])
    ∷ note 9 1 REFUSED (5 ∷ [])
    ∷ note 9 2 REFUSED (6 ∷ [])
    ∷ note 9 1 REFUSED (7 ∷ [])
    ∷ note 9 1 REFUSED (7 ∷ [])
    ∷ note 9 1 REFUSED (8 ∷ [])
    ∷ []
unfolding handed_back
refusals_in_order = refl

-- ---- The bound of demand 3 on a wait is met at its last opportunity, so that no smaller one
-- holds; `during_wait` is a stretch (specs/Exists.antt). Terminals 2 and 3 are activated first, and
-- terminal 3 sends a frame of class 2; as terminal 1 enters F7, with C at 0, theirs is 2. So
-- terminal 2's frame of class 2 starts with terminal 1's of class 1, and wins; then terminal 2's of
-- class 1 wins, then terminal 3's.
abbrev pub before_wait : List Call
before_wait =
    event 2 ON [] ∷ event 3 ON [] ∷ periods 1 (event 2 AR [] ∷ periods 8 (event 3 D2 (0 ∷ []) ∷ periods 6 (event 1 ON [] ∷ periods 3 [])))

abbrev pub during_wait : List Call
during_wait =
    event 1 D1 (1 ∷ []) ∷ event 2 D2 (0 ∷ []) ∷ periods 5 (event 3 D1 (128 ∷ []) ∷ periods 3 (event 2 D1 (0 ∷ []) ∷ periods 24 []))

abbrev pub wait_start : Bus
wait_start = after_all fresh_bus before_wait

-- the places, from t on, of the D opportunities at which terminal i completes a frame
abbrev completed_at : ℕ → ℕ → List Opportunity → List ℕ
completed_at i t [] = []
completed_at i t (m ∷ ms) = map (λ (class : ℕ). t) (done_of (e_comes m) (station_then i m)) ++ completed_at i (suc t) ms

pub worst_wait : (wait_bound wait_start during_wait ≡ 128) × (completed_at 0 0 (opportunities_in wait_start during_wait) ≡ 127 ∷ [])
unfolding handed_back
worst_wait = (refl, refl)

-- ---- A busy stretch (specs/Exists.antt) after document 01's book has activated terminal 1, which
-- is given a frame. While that is sent terminal 2 is switched on, off and on, enters F7 and is
-- given a frame, and calls are refused with every number from 2 to 8. A hit is given last, and its
-- period is not run.
abbrev pub during_busy : List Call
during_busy =
    event 1 D1 (0 ∷ [])
    ∷ event 0 HIT []
    ∷ event 9 ON []
    ∷ event 2 DR []
    ∷ event 1 AR []
    ∷ event 2 ON []
    ∷ event 2 D1 (0 ∷ [])
    ∷ periods 1 (event 2 OFF []
    ∷ periods 1 (event 2 ON []
    ∷ event 1 D2 []
    ∷ event 1 D2 (1 ∷ [])
    ∷ periods 6 (event 2 D2 (1 ∷ []) ∷ periods 1 (event 0 HIT (replicate line_length none_letter) ∷ []))))

-- the number that comes back from each call of a list, 0 where it is not refused
abbrev replies : Bus → List Call → List ℕ
replies b [] = []
replies b (c ∷ more) = reply b c ∷ replies (after b c) more

pub busy_replies :
    replies activated during_busy
    ≡ 0 ∷ 2 ∷ 3 ∷ 4 ∷ 5 ∷ 0 ∷ 6 ∷ 0 ∷ 0 ∷ 0 ∷ 0 ∷ 7 ∷ 8 ∷ 0 ∷ 0 ∷ 0 ∷ 0 ∷ 0 ∷ 0 ∷ 0 ∷ 0 ∷ 0 ∷ []
unfolding handed_back
busy_replies = refl

-- terminal 1's frame is heard and completed, and terminal 2 is activated meanwhile
pub busy_notes :
    handed_back activated during_busy
    ≡ note 9 0 REFUSED (2 ∷ [])
    ∷ note 9 9 REFUSED (3 ∷ [])
    ∷ note 9 2 REFUSED (4 ∷ [])
    ∷ note 9 1 REFUSED (5 ∷ [])
    ∷ note 9 2 REFUSED (6 ∷ [])
    ∷ note 11 1 REFUSED (7 ∷ [])
    ∷ note 11 1 REFUSED (8 ∷ [])
    ∷ note 13 2 mph_ii_connected []
    ∷ note 13 2 ph_act []
    ∷ note 13 2 mph_act []
    ∷ note 16 0 HEARD (0 ∷ [])
    ∷ note 16 1 DONE1 []
    ∷ []
unfolding handed_back
busy_notes = refl

-- ---- Records that are made up.
abbrev aligned : Alignment
aligned = alignment.in_alignment 0

abbrev network_in : ℕ → ℕ → ℕ → Network
network_in state t1 t2 = record { t1 = t1; t2 = t2; state = state; alignment = aligned }

-- a terminal in a state with T3 and access, and a frame of body 00
abbrev station_in : ℕ → ℕ → Access → Station
station_in state t3 a =
    record {
      terminal = terminal.with_fields t3 a state aligned terminal.fresh;
      image = images.image (0 ∷ []);
      body = 0 ∷ [];
    }

-- all else is as on the fresh bus
abbrev bus_with : ℕ → Network → List Station → Bus
bus_with p n stations = with_counts p 0 (with_network n cleared (with_stations stations fresh_bus))

-- INFO 1 beside INFO 3, where no list of calls leads: the four D that the network end hears in G3,
-- with terminal 2 in F4 and terminal 1 in F7 with a C and a held frame of class 1 or none.
abbrev ds_beside : ℕ → ℕ → List Bool
ds_beside count held =
    map d_comes
    (opportunities_of
    (bus_with 0 (network_in G3 0 0)
    (station_in F7 0 (record { length = held * 24; sent = 0; count = count; held = held; low1 = false; low2 = false; last = true })
    ∷ station_in F4 0 access.fresh
    ∷ [])))

-- nobody sends 0, and D25 is 0; the first 0 of a flag leaves at D25, D25 is 1, the sending stops at
-- E35 and starts over at D47
pub inverted : (ds_beside 0 0 ≡ true ∷ false ∷ true ∷ true ∷ []) × (ds_beside 6 1 ≡ true ∷ true ∷ true ∷ false ∷ [])
unfolding handed_back
inverted = (refl, refl)

-- "hearing, unit 0 first": in one period the network end hears INFO 3 from terminal 1, and terminal
-- 2 hears INFO 2 for the first time
pub unit_0_first :
    handed_back (bus_with 7 (network_in G2 0 0) (station_in F6 0 access.fresh ∷ station_in F2 0 access.fresh ∷ [])) (period ∷ [])
    ≡ note 7 0 ph_act [] ∷ note 7 0 mph_act [] ∷ note 7 2 mph_ii_connected [] ∷ []
unfolding handed_back
unit_0_first = refl

-- "T1 comes before T2", both due as period 500 starts: T1 leads from G2 to G4 and starts T2, and "a
-- new start replaces it", so that T2 is not due any more and G4 is not left
abbrev both_due : Bus
both_due = timed (bus_with 500 (network_in G2 500 500) [])

pub t1_first : (notes_timed (bus_with 500 (network_in G2 500 500) []) ≡ note 500 0 ph_deact [] ∷ []) × (both_due.network.state ≡ G4)
    × (both_due.network.t2 ≡ 700)
unfolding handed_back
t1_first = (refl, refl, refl)

-- T1, and T3 of terminal 2, are due as period 8 starts: their notes come with the call that runs
-- period 7, after what is heard in it, unit 0 first, and have the number 8
pub timers_next :
    handed_back (bus_with 7 (network_in G2 8 0) (fresh_station ∷ station_in F4 8 access.fresh ∷ station_in F2 0 access.fresh ∷ []))
    (period ∷ [])
    ≡ note 7 3 mph_ii_connected [] ∷ note 8 0 ph_deact [] ∷ note 8 2 mph_deact [] ∷ note 8 2 ph_deact [] ∷ []
unfolding handed_back
timers_next = refl

-- "the bus has run 4,000,000": the last period that is run has the number 3,999,999
pub nine : handed_back (bus_with 3999999 (network_in G1 0 0) []) (period ∷ period ∷ []) ≡ note most_periods 0 REFUSED (9 ∷ []) ∷ []
unfolding handed_back
nine = refl

-- ---- Runs. Document 01's book after its `ar`: of 20 periods that are asked for those with the
-- numbers 1 to 7 are run, since the last of them has notes; of 3 all are run, and there are none.
abbrev asked : Bus
asked = after_all fresh_bus (event 1 ON [] ∷ periods 1 (event 1 AR [] ∷ []))

pub run_to_notes :
    (run_reply 20 asked ≡ 0)
    × (run_calls 20 asked ≡ periods 7 [])
    × (run_notes 20 asked ≡ note 7 0 ph_act [] ∷ note 7 0 mph_act [] ∷ [])
    × ((run_leaves 20 asked).periods ≡ 8)
unfolding handed_back
run_to_notes = (refl, refl, refl, refl)

pub run_of_three : (run_calls 3 asked ≡ periods 3 []) × (run_notes 3 asked ≡ []) × ((run_leaves 3 asked).periods ≡ 4)
unfolding handed_back
run_of_three = (refl, refl, refl)

-- .. and where the bus has run 4,000,000, the first period is refused and the run with it
abbrev nearly_all : ℕ → Bus
nearly_all p = bus_with p (network_in G1 0 0) []

pub run_to_the_last :
    (run_reply 5 (nearly_all 3999998) ≡ 0)
    × (run_calls 5 (nearly_all 3999998) ≡ periods 2 [])
    × (run_reply 5 (nearly_all most_periods) ≡ 9)
    × (run_reply 0 (nearly_all most_periods) ≡ 0)
unfolding handed_back
run_to_the_last = (refl, refl, refl, refl)
