-- Each call on the bus is a list of actions on the D channel: the two are in step after every list of calls.
use mathlib.Core.Path.{◌≡◌, refl, sym, ap, ◌∙◌}
use mathlib.Core.Bool.{Bool, true, false, cond, not, ◌&&◌, ◌||◌, true≢false}
use mathlib.Core.List.{List, [], ◌∷◌, ◌++◌, map}
use Prim.Native.Nat.{ℕ, zero, suc, ◌+◌, ◌-◌}
use lib.Dec.{eqb, ltb}
use lib.ListN.{get_or}
use borrow.Author.Tests.{eqb-true}
use Rattle.test_lemmas.proofs.ByCases.{by_test}
use Rattle.symbols.specs.Symbols.{line_length, fits}
use Rattle.combining.specs.Hit.{none_letter}
use Rattle.table_6_2.specs.Table62.{F7}
use Rattle.table_6_3.specs.Table63.{G3}
use Rattle.hdlc.specs.Image.{is_body}
use Rattle.hdlc.specs.Reading.{Reading}
use Rattle.dchannel.specs.Access.{normal1, normal2}
use Rattle.contention.specs.Channel.{Contender, Channel, Action, may_hold, holding, entering, leaving, with_contenders, step, run}
use Rattle.contention.specs.Change.{change}
use Rattle.contention.specs.Channel.Action.{hand}
use Rattle.contention.proofs.Change.{change_map}
use Rattle.contention.proofs.Crossing.{run_crossing, run_crossings, run_clearing, crossing, crossed, crossings, clearing}
use Rattle.contention.proofs.WholeList.{run_append}
use Rattle.network.specs.Network as network
use Rattle.network.proofs.Laws.{timers_keep_g3}
use Rattle.terminal.specs.Terminal as terminal
use Rattle.terminal.specs.declared.Terminal.{Terminal}
use Rattle.terminal.specs.Steps.{TerminalStep}
use Rattle.terminal.proofs.Laws.{AccessByState, hears_access, timer_keeps_f7, timer_keeps_access}
use Rattle.bus_rules.specs.Bus.{Station, Bus, terminals, fresh_station}
use Rattle.bus_rules.specs.Exchange.{Opportunity, in_f7, stations_of, onward, begins, opportunities_of, exchanged, whole_down, whole_up}
use Rattle.bus_rules.specs.BusChannel.{contender_of, contenders_of, channel_of, Imaged, AllImaged}
use Rattle.bus_rules.specs.Period.{reading_after, network_hears, terminal_hears, stepped, heard_by, timed, period_run}
use Rattle.bus_rules.specs.Event.{station_of, class_of, event_for, bars, gives_frame, call_reasons, state_reasons, reasons, refusal, network_does, network_done, hit_given, terminal_does, with_frame, station_after, station_done, event_done}
use Rattle.notes_and_cells.specs.Events.{D1, D2, HIT}
use Rattle.bus_rules.specs.Calls.{Call, reply, does, after, after_all}
use Rattle.bus_rules.specs.Calls.Call.{event, period}
use Rattle.bus_rules.proofs.Refusals.{accepted_holds}
use Rattle.bus_rules.proofs.Stations.{stations_stationed, each_onward, each_begins, each_period, each_event}
use Rattle.bus_rules.proofs.Mapping.{channel_at, imaged_turned, action_at, channel_onward}
use Rattle.bus_rules.proofs.TerminalDoes.{does_by_state}

-- ---- a step of a terminal is an entry into F7, a leave of it, or nothing to the channel
module _ (f : Terminal → TerminalStep) (by_state : (t : Terminal) → AccessByState f t) where
  pub contender_crossed : (s : Station) → contender_of (stepped f s) ≡ crossed (in_f7 s) (in_f7 (stepped f s)) (contender_of s)
  unfolding stepped terminal.access_after leaving entering
  contender_crossed s =
      by_test (in_f7 s)
      (λ t. by_test (eqb (f s.terminal).terminal.state F7) (λ u. rw (by_state s.terminal, t, u)) (λ u. rw (by_state s.terminal, t, u)))
      (λ t. by_test (eqb (f s.terminal).terminal.state F7) (λ u. rw (by_state s.terminal, t, u)) (λ u. rw (by_state s.terminal, t, u)))

hears_by_state : (down : List ℕ) (now : ℕ) (t : Terminal) → AccessByState (terminal_hears down now) t
unfolding terminal_hears
hears_by_state down now t = hears_access now t _

-- ---- timers neither enter nor leave F7 or G3: they are nothing to the channel
timer_contender : (now : ℕ) (s : Station) → contender_of (stepped (terminal.timer now) s) ≡ contender_of s
unfolding stepped
timer_contender now s = rw (timer_keeps_f7 now s.terminal, timer_keeps_access now s.terminal)

timer_contenders : (now : ℕ) (ss : List Station) → contenders_of (map (stepped (terminal.timer now)) ss) ≡ contenders_of ss
timer_contenders now [] = refl
timer_contenders now (s ∷ ss) = rw (timer_contender now s, timer_contenders now ss)

reading_stays : (from to : ℕ) (r : Reading) → eqb to G3 ≡ eqb from G3 → reading_after from to r ≡ r
unfolding reading_after
reading_stays from to r h = by_test (eqb from G3) (λ t. rw (t, h ∙ t)) (λ t. rw t)

pub channel_timed : (b : Bus) → channel_of (timed b) ≡ channel_of b
unfolding channel_of timed
channel_timed b =
    rw (
      timer_contenders b.periods b.stations,
      reading_stays b.network.state (network.timers b.periods b.network).network.state b.reading (timers_keep_g3 b.periods b.network),
    )

-- ---- what an accepted event has met
pub record Accepted (b : Bus) (unit number : ℕ) (value : List ℕ) : Type 0 where
  pub letters : (eqb number HIT && not (fits line_length none_letter value)) ≡ false
  pub unit_known : ltb terminals unit ≡ false
  pub for_unit : not (event_for unit number) ≡ false
  pub not_barred : bars b unit number ≡ false
  pub in_f7_lem : (gives_frame number && not (eqb (station_of b unit).terminal.state F7)) ≡ false
  pub a_body : (gives_frame number && not (is_body value)) ≡ false
  pub none_held : (gives_frame number && not (eqb (station_of b unit).terminal.access.held 0)) ≡ false

pub accepted : (b : Bus) (unit number : ℕ) (value : List ℕ) → refusal b unit number value ≡ 0 → Accepted b unit number value
unfolding reply reasons call_reasons state_reasons
accepted b unit number value h =
    let n = accepted_holds b unit number value h in
    record { letters = n 2; unit_known = n 3; for_unit = n 4; not_barred = n 5; in_f7_lem = n 6; a_body = n 7; none_held = n 8 }

-- what a terminal has met that takes a frame
pub record Takes (s : Station) (body : List ℕ) : Type 0 where
  pub in_f7_lem : in_f7 s ≡ true
  pub good : is_body body ≡ true
  pub free : eqb s.terminal.access.held 0 ≡ true

met : (a b : Bool) → a ≡ true → (a && not b) ≡ false → b ≡ true
met true true e h = refl
met true false e h = sym h
met false b e h = absurd (true≢false (sym e))

pub accepted_frame : (b : Bus) (unit number : ℕ) (value : List ℕ) → refusal b unit number value ≡ 0 → eqb (class_of number) 0 ≡ false → Takes (station_of b unit) value
accepted_frame b unit number value h c =
    let a = accepted b unit number value h in
    let g : gives_frame number ≡ true = rw c in
    record {
      in_f7_lem = met (gives_frame number) (in_f7 (station_of b unit)) g a.in_f7_lem;
      good = met (gives_frame number) (is_body value) g a.a_body;
      free = met (gives_frame number) (eqb (station_of b unit).terminal.access.held 0) g a.none_held;
    }

-- ---- an event
pub class_known : (number : ℕ) → eqb (class_of number) 0 ≡ false → (eqb (class_of number) 1 || eqb (class_of number) 2) ≡ true
unfolding class_of
class_known number h =
    by_test (eqb number D1) (λ t. rw t) (λ t. by_test (eqb number D2) (λ u. rw (t, u)) (λ u. absurd (true≢false (rw (t, u) at h))))

frame_taken : (s : Station) (k : ℕ) (body : List ℕ) → (eqb k 1 || eqb k 2) ≡ true → Takes s body → contender_of (with_frame k body s) ≡ holding k body (contender_of s)
unfolding with_frame holding may_hold
frame_taken s k body known h = rw (h.in_f7_lem, h.good, h.free, known)

station_crossed : (number now : ℕ) (value : List ℕ) → eqb (class_of number) 0 ≡ true → (s : Station) →
    contender_of (station_after number value now s) ≡ crossed (in_f7 s) (in_f7 (stepped (terminal_does number now) s)) (contender_of s)
unfolding station_after
station_crossed number now value u s = rw u (contender_crossed (terminal_does number now) (does_by_state number now) s)

station_taken : (number now : ℕ) (value : List ℕ) → eqb (class_of number) 0 ≡ false → (s : Station) → Takes s value →
    contender_of (station_after number value now s) ≡ holding (class_of number) value (contender_of s)
unfolding station_after
station_taken number now value u s h = rw u (frame_taken s (class_of number) value (class_known number u) h)

unfoldable pub event_actions : ℕ → ℕ → List ℕ → Bus → List Action
event_actions unit number value b =
    cond (eqb unit 0)
    (cond (eqb number HIT) [] (clearing (eqb b.network.state G3) (eqb (network_does number b.periods b.network).network.state G3)))
    (cond (eqb (class_of number) 0)
    (crossing (unit - 1) (in_f7 (station_of b unit)) (in_f7 (stepped (terminal_does number b.periods) (station_of b unit))))
    (hand (unit - 1) (class_of number) value ∷ []))

one_changes : (f : Station → Station) (g : Contender → Contender) (i : ℕ) (b : Bus) → contender_of (f (get_or b.stations i fresh_station)) ≡ g (contender_of (get_or b.stations i fresh_station)) →
    with_contenders (channel_of b) (contenders_of (change f i b.stations)) ≡ with_contenders (channel_of b) (change g i (contenders_of b.stations))
one_changes f g i b e = ap (with_contenders (channel_of b)) (change_map f contender_of g fresh_station i b.stations e)

pub event_channel : (unit number : ℕ) (value : List ℕ) (b : Bus) → refusal b unit number value ≡ 0 →
    channel_of (event_done unit number value b) ≡ run normal1 normal2 (channel_of b) (event_actions unit number value b)
unfolding event_done event_actions hit_given network_done station_done reading_after channel_of run step
event_channel unit number value b h =
    let f = station_after number value b.periods in
    let s = station_of b unit in
    let was = in_f7 s in
    let is = in_f7 (stepped (terminal_does number b.periods) s) in
    by_test (eqb unit 0)
    (λ t. rw t (by_test (eqb number HIT) (λ u. rw u) (λ u. rw u (sym (run_clearing normal1 normal2 _ _ (channel_of b))))))
    (λ t. rw t (by_test (eqb (class_of number) 0)
    (λ u. rw u (one_changes f (crossed was is) (unit - 1) b (station_crossed number b.periods value u s) ∙ sym (run_crossing normal1 normal2 was is (unit - 1) (channel_of b))))
    (λ u. rw u (one_changes f (holding (class_of number) value) (unit - 1) b (station_taken number b.periods value u s (accepted_frame b unit number value h u))))))

-- ---- a period

-- what hearing is to the channel, after the exchange m
unfoldable pub hearing_actions : Opportunity → Bus → List Action
hearing_actions m b =
    clearing (eqb b.network.state G3) (eqb (network_hears (whole_up m) b.periods b.network).network.state G3)
    ++ crossings contender_of (λ (s : Station). contender_of (stepped (terminal_hears (whole_down m) b.periods) s)) 0 (stations_of m.senders)

-- the exchange as each of n Es comes, from m on, and what they leave
unfoldable pub chain : ℕ → Opportunity → List Opportunity
chain zero m = []
chain (suc n) m = m ∷ chain n (onward m)

unfoldable pub past : ℕ → Opportunity → Opportunity
past zero m = m
past (suc n) m = past n (onward m)

pub four_in_chain : (b : Bus) → opportunities_of b ≡ chain 4 (begins b)
unfolding opportunities_of chain
four_in_chain b = refl

pub four_past : (b : Bus) → exchanged b ≡ past 4 (begins b)
unfolding exchanged past
four_past b = refl

unfoldable pub period_actions : Bus → List Action
period_actions b = map action_at (opportunities_of b) ++ hearing_actions (exchanged b) b

contenders_of_map : (f : Station → Station) (ss : List Station) → contenders_of (map f ss) ≡ map (λ (s : Station). contender_of (f s)) ss
contenders_of_map f [] = refl
contenders_of_map f (s ∷ ss) = rw (contenders_of_map f ss)

heard_channel : (m : Opportunity) (b : Bus) → channel_of (heard_by m b) ≡ run normal1 normal2 (channel_at m) (hearing_actions m b)
unfolding channel_of channel_at heard_by hearing_actions reading_after
heard_channel m b =
    let f = terminal_hears (whole_down m) b.periods in
    let is : Station → Contender = λ s. contender_of (stepped f s) in
    let ss = stations_of m.senders in
    let was-G3 = eqb b.network.state G3 in
    let is-G3 = eqb (network_hears (whole_up m) b.periods b.network).network.state G3 in
    rw (contenders_of_map (stepped f) ss)
    (sym (run_append normal1 normal2 (channel_at m) (clearing was-G3 is-G3) (crossings contender_of is 0 ss)
    ∙ (ap (λ (c : Channel). run normal1 normal2 c (crossings contender_of is 0 ss)) (run_clearing normal1 normal2 was-G3 is-G3 (channel_at m))
    ∙ run_crossings normal1 normal2 contender_of is (contender_crossed f (hears_by_state (whole_down m) b.periods)) ss _ refl)))

pub channel_begins : (b : Bus) → channel_at (begins b) ≡ channel_of b
unfolding channel_at channel_of begins
channel_begins b = rw (stations_stationed b.stations)

-- all bits that are sent in an exchange are those of the bodies' images
pub imaged_begins : (b : Bus) → AllImaged b.stations → AllImaged (stations_of (begins b).senders)
imaged_begins b h = each_begins Imaged imaged_turned b h

pub imaged_onward : (m : Opportunity) → AllImaged (stations_of m.senders) → AllImaged (stations_of (onward m).senders)
imaged_onward m h = each_onward Imaged imaged_turned m h

-- what the opportunities leave
pub channel_past : (n : ℕ) (m : Opportunity) → AllImaged (stations_of m.senders) → run normal1 normal2 (channel_at m) (map action_at (chain n m)) ≡ channel_at (past n m)
unfolding run chain past
channel_past zero m h = refl
channel_past (suc n) m h =
    ap (λ (c : Channel). run normal1 normal2 c (map action_at (chain n (onward m)))) (sym (channel_onward m h)) ∙ channel_past n (onward m) (imaged_onward m h)

channel_exchanged : (b : Bus) → AllImaged b.stations → run normal1 normal2 (channel_of b) (map action_at (opportunities_of b)) ≡ channel_at (exchanged b)
channel_exchanged b h = rw (four_in_chain b, four_past b, ← channel_begins b) (channel_past 4 (begins b) (imaged_begins b h))

pub period_channel : (b : Bus) → AllImaged b.stations → channel_of (period_run b) ≡ run normal1 normal2 (channel_of b) (period_actions b)
unfolding period_run period_actions
period_channel b h =
    rw (
      channel_timed (heard_by (exchanged b) b),
      run_append normal1 normal2 (channel_of b) (map action_at (opportunities_of b)) (hearing_actions (exchanged b) b),
      channel_exchanged b h,
    ) (heard_channel (exchanged b) b)

-- ---- a call, and a list of calls
unfoldable pub actions_of : Bus → Call → List Action
actions_of b (event unit number value) = cond (eqb (reply b (event unit number value)) 0) (event_actions unit number value b) []
actions_of b period = cond (eqb (reply b period) 0) (period_actions b) []

pub call_channel : (b : Bus) (c : Call) → AllImaged b.stations → channel_of (after b c) ≡ run normal1 normal2 (channel_of b) (actions_of b c)
unfolding actions_of after does reply run
call_channel b (event unit number value) h =
    by_test (eqb (refusal b unit number value) 0)
    (λ t. rw t (event_channel unit number value b (eqb-true (refusal b unit number value) 0 t)))
    (λ t. rw t)
call_channel b period h = by_test (eqb (reply b period) 0) (λ t. rw t (period_channel b h)) (λ t. rw t)

-- ---- nothing changes image or body but a frame that is taken up, which sets both
imaged_stepped : (f : Terminal → TerminalStep) (s : Station) → Imaged s → Imaged (stepped f s)
unfolding stepped
imaged_stepped f s h = h

imaged_station : (number now : ℕ) (value : List ℕ) (s : Station) → Imaged s → Imaged (station_after number value now s)
unfolding station_after with_frame
imaged_station number now value s h = by_test (eqb (class_of number) 0) (λ t. rw t (imaged_stepped (terminal_does number now) s h)) (λ t. rw t)

imaged_period : (b : Bus) → AllImaged b.stations → AllImaged (period_run b).stations
imaged_period b h = each_period Imaged imaged_turned b (λ down. imaged_stepped (terminal_hears down b.periods)) (imaged_stepped (terminal.timer (b.periods + 1))) h

imaged_event : (unit number : ℕ) (value : List ℕ) (b : Bus) → AllImaged b.stations → AllImaged (event_done unit number value b).stations
imaged_event unit number value b h = each_event Imaged unit number value b (imaged_station number b.periods value (station_of b unit) (h (unit - 1))) h

pub imaged_after : (b : Bus) (c : Call) → AllImaged b.stations → AllImaged (after b c).stations
unfolding after does
imaged_after b (event unit number value) h =
    by_test (eqb (reply b (event unit number value)) 0) (λ t. rw t (imaged_event unit number value b h)) (λ t. rw t h)
imaged_after b period h = by_test (eqb (reply b period) 0) (λ t. rw t (imaged_period b h)) (λ t. rw t h)

pub imaged_ran : (b : Bus) (calls : List Call) → AllImaged b.stations → AllImaged (after_all b calls).stations
unfolding after_all
imaged_ran b [] h = h
imaged_ran b (c ∷ more) h = imaged_ran (after b c) more (imaged_after b c h)

-- ---- all calls
unfoldable pub all_actions : Bus → List Call → List Action
all_actions b [] = []
all_actions b (c ∷ more) = actions_of b c ++ all_actions (after b c) more

pub calls_channel : (b : Bus) (calls : List Call) → AllImaged b.stations → channel_of (after_all b calls) ≡ run normal1 normal2 (channel_of b) (all_actions b calls)
unfolding all_actions after_all run
calls_channel b [] h = refl
calls_channel b (c ∷ more) h =
    calls_channel (after b c) more (imaged_after b c h)
    ∙ (ap (λ (x : Channel). run normal1 normal2 x (all_actions (after b c) more)) (call_channel b c h)
    ∙ sym (run_append normal1 normal2 (channel_of b) (actions_of b c) (all_actions (after b c) more)))
