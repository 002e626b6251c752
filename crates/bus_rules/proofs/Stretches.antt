-- A stretch of calls is a stretch of actions on the D channel, with the same D opportunities.
use mathlib.Core.Path.{◌≡◌, refl, sym, ◌∙◌}
use mathlib.Core.Bool.{true, false, true≢false}
use mathlib.Core.List.{List, [], ◌∷◌, ◌++◌, map, map-append, append-nil}
use Prim.Native.Nat.{ℕ, zero, suc, ◌+◌, ◌-◌, ◌<◌, ◌≤◌}
use native.Mathlib.Omega.{arith}
use lib.Dec.{eqb}
use lib.ListN.{length, get_or}
use borrow.Author.Tests.{eqb-true, eq-eqb}
use Rattle.test_lemmas.proofs.ByCases.{by_test}
use Rattle.table_6_2.specs.Table62.{F7}
use Rattle.table_6_3.specs.Table63.{G3}
use Rattle.dchannel.specs.Access.{normal1, normal2}
use Rattle.contention.specs.Channel.{Contender, Channel, together_d, run}
use Rattle.contention.specs.Stretch as channel
use Rattle.contention.proofs.Change.{change_there}
use Rattle.contention.proofs.Crossing.{crossing_calm, crossing_none, crossings_calm, crossings_none, clearing_calm, clearing_none, crossings, clearing}
use Rattle.contention.proofs.WholeList.{opportunities_append, stretch_append}
use Rattle.network.specs.Network as network
use Rattle.network.proofs.Laws.{timers_keep_g3}
use Rattle.terminal.proofs.Laws.{timer_keeps_f7}
use Rattle.bus_rules.specs.Bus.{Station, Hit, Bus, fresh_station, station_at}
use Rattle.bus_rules.specs.Exchange.{Opportunity, in_f7, in_g3, stations_of, any_info1, e_comes, d_comes, senders_after, onward, begins, opportunities_of, exchanged, whole_down, whole_up}
use Rattle.bus_rules.specs.BusChannel.{contender_of, contenders_of, channel_of, AllImaged}
use Rattle.bus_rules.specs.Period.{network_hears, terminal_hears, stepped, heard_by, timed, period_run}
use Rattle.bus_rules.specs.Event.{station_of, class_of, refusal, network_does, network_done, terminal_does, station_after, station_done, event_done}
use Rattle.notes_and_cells.specs.Events.{HIT}
use Rattle.bus_rules.specs.Calls.{Call, reply, does, after}
use Rattle.bus_rules.specs.Calls.Call.{event, period}
use Rattle.bus_rules.specs.Stretch.{station_then, Undisturbed, Stays, Calm, Stretch, opportunities_of_call, opportunities_in}
use Rattle.bus_rules.specs.Quick.{InStep}
use Rattle.bus_rules.proofs.Quick.{state_turned, info1_hears, one_more, in_step_stationed, in_step_hears}
use Rattle.bus_rules.proofs.Stations.{stations_stationed, station_begins, station_onward, station_heard, station_timed}
use Rattle.bus_rules.proofs.Mapping.{channel_at, action_at, channel_onward, e_quiet, d_quiet}
use Rattle.bus_rules.proofs.Simulation.{hearing_actions, chain, past, four_in_chain, four_past, event_actions, period_actions, actions_of, all_actions, channel_begins, imaged_begins, imaged_onward, imaged_after, call_channel}

-- ---- the exchange in a stretch, as the E after k others comes
pub record Quiet (k : ℕ) (m : Opportunity) : Type 0 where
  pub no_hit : m.hit ≡ Hit.none
  pub in_g3_lem : m.network ≡ G3
  pub no_info_1 : any_info1 (stations_of m.senders) ≡ false
  pub gone : length m.es ≡ k
  pub in_step : InStep k m.senders
  pub imaged : AllImaged (stations_of m.senders)

quiet_begins : (b : Bus) → AllImaged b.stations → b.network.state ≡ G3 → Undisturbed b → Quiet 0 (begins b)
unfolding begins
quiet_begins b h g u =
    record {
      no_hit = u.no_hit;
      in_g3_lem = g;
      no_info_1 = rw (stations_stationed b.stations) u.no_info_1;
      gone = refl;
      in_step = in_step_stationed b.stations;
      imaged = imaged_begins b h;
    }

quiet_onward : (k : ℕ) (m : Opportunity) → Quiet k m → Quiet (suc k) (onward m)
unfolding onward senders_after
quiet_onward k m q =
    record {
      no_hit = q.no_hit;
      in_g3_lem = q.in_g3_lem;
      no_info_1 = info1_hears (e_comes m) m.senders ∙ q.no_info_1;
      gone = one_more m.es m.heard_d k q.gone;
      in_step = in_step_hears k (e_comes m) m.senders q.in_step;
      imaged = imaged_onward m q.imaged;
    }

-- ---- an undisturbed opportunity: E is the last D heard, D is what the terminals send together, and the network end reads it
pub record Faithful (m : Opportunity) : Type 0 where
  pub e_is : e_comes m ≡ m.heard_d
  pub d_is : d_comes m ≡ together_d normal1 normal2 m.heard_d (contenders_of (stations_of m.senders))
  pub reads : in_g3 m ≡ true
  pub imaged : AllImaged (stations_of m.senders)

faithful_at : (k : ℕ) (m : Opportunity) → k < 4 → Quiet k m → Faithful m
faithful_at k m h q =
    let e : e_comes m ≡ m.heard_d = e_quiet m q.no_hit q.in_g3_lem (rw q.gone h) in
    record {
      e_is = e;
      d_is = rw e at (d_quiet m q.no_info_1 (rw q.gone h) (rw q.gone q.in_step) q.imaged);
      reads = eq-eqb m.network G3 q.in_g3_lem;
      imaged = q.imaged;
    }

-- something that holds at every D opportunity of a list
pub data Every (P : Opportunity → Type 0) : List Opportunity → Type 0 where
  empty : Every P []
  also : {m : Opportunity} {ms : List Opportunity} → P m → Every P ms → Every P (m ∷ ms)

pub every_append : {P : Opportunity → Type 0} {ms ns : List Opportunity} → Every P ms → Every P ns → Every P (ms ++ ns)
every_append empty q = q
every_append (also p ps) q = also p (every_append ps q)

-- the opportunities of a period in a stretch are such
faithful_chain : (n k : ℕ) (m : Opportunity) → k + n ≤ 4 → Quiet k m → Every Faithful (chain n m)
unfolding chain
faithful_chain zero k m h q = empty
faithful_chain (suc n) k m h q = also (faithful_at k m (omega arith) q) (faithful_chain n (suc k) (onward m) (omega arith) (quiet_onward k m q))

faithful_period : (b : Bus) → AllImaged b.stations → b.network.state ≡ G3 → Undisturbed b → Every Faithful (opportunities_of b)
faithful_period b h g u = rw (four_in_chain b) (faithful_chain 4 0 (begins b) (omega arith) (quiet_begins b h g u))

stretch_chain : (n : ℕ) (m : Opportunity) → Every Faithful (chain n m) → channel.Stretch normal1 normal2 (channel_at m) (map action_at (chain n m))
unfolding channel.Stretch chain channel_at
stretch_chain zero m fs = tt
stretch_chain (suc n) m (also f fs) = ((f.e_is, f.d_is, f.reads), rw (← channel_onward m f.imaged) (stretch_chain n (onward m) fs))

-- ---- hearing in a stretch: nobody leaves F7, and the network end stays in G3
state_past : (i n : ℕ) (m : Opportunity) → (station_then i (past n m)).terminal.state ≡ (station_then i m).terminal.state
unfolding past
state_past i zero m = refl
state_past i (suc n) m = state_past i n (onward m) ∙ rw (station_onward i m) (state_turned (e_comes m) (station_then i m))

pub state_exchanged : (i : ℕ) (b : Bus) → (station_then i (exchanged b)).terminal.state ≡ (station_at i b).terminal.state
state_exchanged i b = rw (four_past b, ← station_begins i b) (state_past i 4 (begins b))

-- timers cross neither, so what holds after them held before
hears_g3 : (b : Bus) → (period_run b).network.state ≡ G3 → eqb (network_hears (whole_up (exchanged b)) b.periods b.network).network.state G3 ≡ true
unfolding period_run timed heard_by
hears_g3 b h =
    let n = (network_hears (whole_up (exchanged b)) b.periods b.network).network in
    sym (timers_keep_g3 (b.periods + 1) n) ∙ eq-eqb (network.timers (b.periods + 1) n).network.state G3 h

hears_f7 : (i : ℕ) (b : Bus) → (station_at i (period_run b)).terminal.state ≡ F7 →
    in_f7 (stepped (terminal_hears (whole_down (exchanged b)) b.periods) (station_then i (exchanged b))) ≡ true
unfolding period_run heard_by stepped
hears_f7 i b h =
    let s = stepped (terminal_hears (whole_down (exchanged b)) b.periods) (station_then i (exchanged b)) in
    sym (timer_keeps_f7 (b.periods + 1) s.terminal) ∙ eq-eqb _ F7 (rw (station_timed i (heard_by (exchanged b) b), station_heard i (exchanged b) b) at h)

hearing_stretch : (c : Channel) (b : Bus) → Stays b (period_run b) → channel.Stretch normal1 normal2 c (hearing_actions (exchanged b) b)
unfolding hearing_actions station_then
hearing_stretch c b s =
    let m = exchanged b in
    let is : Station → Contender = λ x. contender_of (stepped (terminal_hears (whole_down m) b.periods) x) in
    let was-G3 = eqb b.network.state G3 in
    let is-G3 = eqb (network_hears (whole_up m) b.periods b.network).network.state G3 in
    stretch_append normal1 normal2 c (clearing was-G3 is-G3) (crossings contender_of is 0 (stations_of m.senders))
    (clearing_calm normal1 normal2 c was-G3 is-G3 (hears_g3 b s.still_g3))
    (crossings_calm normal1 normal2 contender_of is fresh_station (stations_of m.senders) _ 0
    (λ i h. hears_f7 i b (s.still_f7 i (sym (state_exchanged i b) ∙ eqb-true (station_then i m).terminal.state F7 h))))

period_stretch : (b : Bus) → AllImaged b.stations → Undisturbed b → Stays b (period_run b) → channel.Stretch normal1 normal2 (channel_of b) (period_actions b)
unfolding period_actions
period_stretch b h u s =
    rw (four_in_chain b, ← channel_begins b)
    (stretch_append normal1 normal2 (channel_at (begins b)) (map action_at (chain 4 (begins b))) (hearing_actions (exchanged b) b)
    (stretch_chain 4 (begins b) (rw (four_in_chain b) at (faithful_period b h s.in_g3_lem u))) (hearing_stretch _ b s))

-- ---- an event in a stretch
within_f7 : (ss : List Station) (i : ℕ) → in_f7 (get_or ss i fresh_station) ≡ true → i < length ss
within_f7 [] i h = absurd (true≢false (sym h))
within_f7 (s ∷ ss) zero h = omega arith
within_f7 (s ∷ ss) (suc i) h = omega (arith, within_f7 ss i h)

terminal_stays : (b : Bus) (unit number : ℕ) (value : List ℕ) → eqb unit 0 ≡ false → eqb (class_of number) 0 ≡ true → Stays b (event_done unit number value b) →
    in_f7 (station_of b unit) ≡ true → in_f7 (stepped (terminal_does number b.periods) (station_of b unit)) ≡ true
unfolding event_done station_done station_after
terminal_stays b unit number value t u s h =
    let f = station_after number value b.periods in
    let e : (station_at (unit - 1) (event_done unit number value b)).terminal.state ≡ F7 = s.still_f7 (unit - 1) (eqb-true (station_of b unit).terminal.state F7 h) in
    let e2 : (f (station_of b unit)).terminal.state ≡ F7 = rw (t, change_there f fresh_station (unit - 1) b.stations (within_f7 b.stations (unit - 1) h)) at e in
    eq-eqb (stepped (terminal_does number b.periods) (station_of b unit)).terminal.state F7 (rw u at e2)

network_stays : (b : Bus) (unit number : ℕ) (value : List ℕ) → eqb unit 0 ≡ true → eqb number HIT ≡ false → Stays b (event_done unit number value b) →
    eqb (network_does number b.periods b.network).network.state G3 ≡ true
unfolding event_done network_done
network_stays b unit number value t u s = eq-eqb (network_does number b.periods b.network).network.state G3 (rw (t, u) at s.still_g3)

event_stretch : (b : Bus) (unit number : ℕ) (value : List ℕ) → Stays b (event_done unit number value b) →
    channel.Stretch normal1 normal2 (channel_of b) (event_actions unit number value b)
unfolding channel.Stretch event_actions
event_stretch b unit number value s =
    by_test (eqb unit 0)
    (λ t. rw t (by_test (eqb number HIT) (λ u. rw u tt)
    (λ u. rw u (clearing_calm normal1 normal2 (channel_of b) _ _ (network_stays b unit number value t u s)))))
    (λ t. rw t (by_test (eqb (class_of number) 0)
    (λ u. rw u (crossing_calm normal1 normal2 (channel_of b) (unit - 1) _ _ (terminal_stays b unit number value t u s)))
    (λ u. rw u (tt, tt))))

-- ---- a call in a stretch, and all calls
call_stretch : (b : Bus) (c : Call) → AllImaged b.stations → Calm b c → Stays b (after b c) → channel.Stretch normal1 normal2 (channel_of b) (actions_of b c)
unfolding channel.Stretch actions_of after does reply
call_stretch b (event unit number value) h calm s =
    by_test (eqb (refusal b unit number value) 0) (λ t. rw t (event_stretch b unit number value (rw t at s))) (λ t. rw t tt)
call_stretch b period h calm s =
    by_test (eqb (reply b period) 0) (λ t. rw t (period_stretch b h (calm (eqb-true (reply b period) 0 t)) (rw t at s))) (λ t. rw t tt)

pub calls_stretch : (b : Bus) (calls : List Call) → AllImaged b.stations → Stretch b calls → channel.Stretch normal1 normal2 (channel_of b) (all_actions b calls)
unfolding Stretch all_actions channel.Stretch
calls_stretch b [] h s = tt
calls_stretch b (c ∷ more) h s =
    stretch_append normal1 normal2 (channel_of b) (actions_of b c) (all_actions (after b c) more) (call_stretch b c h s.0 s.1)
    (rw (← call_channel b c h) (calls_stretch (after b c) more (imaged_after b c h) s.2))

faithful_call : (b : Bus) (c : Call) → AllImaged b.stations → Calm b c → Stays b (after b c) → Every Faithful (opportunities_of_call b c)
unfolding opportunities_of_call
faithful_call b (event unit number value) h calm s = empty
faithful_call b period h calm s =
    by_test (eqb (reply b period) 0) (λ t. rw t (faithful_period b h s.in_g3_lem (calm (eqb-true (reply b period) 0 t)))) (λ t. rw t empty)

pub faithful : (b : Bus) (calls : List Call) → AllImaged b.stations → Stretch b calls → Every Faithful (opportunities_in b calls)
unfolding Stretch opportunities_in
faithful b [] h s = empty
faithful b (c ∷ more) h s = every_append (faithful_call b c h s.0 s.1) (faithful (after b c) more (imaged_after b c h) s.2)

-- ---- the D opportunities are the same
chain_opportunities : (n : ℕ) (m : Opportunity) → AllImaged (stations_of m.senders) →
    channel.opportunities normal1 normal2 (channel_at m) (map action_at (chain n m)) ≡ map channel_at (chain n m)
unfolding channel.opportunities chain
chain_opportunities zero m h = refl
chain_opportunities (suc n) m h = rw (← channel_onward m h, chain_opportunities n (onward m) (imaged_onward m h))

hearing_opportunities : (c : Channel) (m : Opportunity) (b : Bus) → channel.opportunities normal1 normal2 c (hearing_actions m b) ≡ []
unfolding hearing_actions
hearing_opportunities c m b =
    rw (opportunities_append normal1 normal2 c (clearing _ _) (crossings contender_of _ 0 (stations_of m.senders)), clearing_none normal1 normal2 c _ _)
    (crossings_none normal1 normal2 contender_of _ (stations_of m.senders) _ 0)

period_opportunities : (b : Bus) → AllImaged b.stations → channel.opportunities normal1 normal2 (channel_of b) (period_actions b) ≡ map channel_at (opportunities_of b)
unfolding period_actions
period_opportunities b h =
    rw (
      opportunities_append normal1 normal2 (channel_of b) (map action_at (opportunities_of b)) (hearing_actions (exchanged b) b),
      hearing_opportunities (run normal1 normal2 (channel_of b) (map action_at (opportunities_of b))) (exchanged b) b,
      append-nil,
      four_in_chain b,
      ← channel_begins b,
    ) (chain_opportunities 4 (begins b) (imaged_begins b h))

event_opportunities : (b : Bus) (unit number : ℕ) (value : List ℕ) → channel.opportunities normal1 normal2 (channel_of b) (event_actions unit number value b) ≡ []
unfolding channel.opportunities event_actions
event_opportunities b unit number value =
    by_test (eqb unit 0)
    (λ t. rw t (by_test (eqb number HIT) (λ u. rw u) (λ u. rw u (clearing_none normal1 normal2 (channel_of b) _ _))))
    (λ t. rw t (by_test (eqb (class_of number) 0) (λ u. rw u (crossing_none normal1 normal2 (channel_of b) (unit - 1) _ _)) (λ u. rw u)))

call_opportunities : (b : Bus) (c : Call) → AllImaged b.stations → channel.opportunities normal1 normal2 (channel_of b) (actions_of b c) ≡ map channel_at (opportunities_of_call b c)
unfolding channel.opportunities actions_of opportunities_of_call
call_opportunities b (event unit number value) h =
    by_test (eqb (reply b (event unit number value)) 0) (λ t. rw t (event_opportunities b unit number value)) (λ t. rw t)
call_opportunities b period h = by_test (eqb (reply b period) 0) (λ t. rw t (period_opportunities b h)) (λ t. rw t)

pub calls_opportunities : (b : Bus) (calls : List Call) → AllImaged b.stations →
    channel.opportunities normal1 normal2 (channel_of b) (all_actions b calls) ≡ map channel_at (opportunities_in b calls)
unfolding channel.opportunities all_actions opportunities_in
calls_opportunities b [] h = refl
calls_opportunities b (c ∷ more) h =
    rw (
      opportunities_append normal1 normal2 (channel_of b) (actions_of b c) (all_actions (after b c) more),
      call_opportunities b c h,
      ← call_channel b c h,
      calls_opportunities (after b c) more (imaged_after b c h),
      map-append,
    )
