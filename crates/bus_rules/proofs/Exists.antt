-- The laws of `specs/Exists.antt`: a bus with terminals in F7 goes on as it is, for as many periods as wanted.
use mathlib.Core.Path.{◌≡◌, refl, sym, ap, ◌∙◌}
use mathlib.Core.Bool.{Bool, true, false, not, ◌&&◌, ◌||◌, true≢false}
use mathlib.Core.List.{List, [], ◌∷◌}
use Prim.Native.Nat.{ℕ, zero, suc, ◌+◌}
use native.Mathlib.Omega.{arith}
use lib.Dec.{eqb, leb}
use lib.ListN.{length, get_or, replicate}
use borrow.Author.Tests.{eqb-true, ne_eqb, leb-true, not-true, lt-leb}
use Rattle.test_lemmas.proofs.ByCases.{by_test, and_left, and_right}
use Rattle.notes_and_cells.specs.Cells.{cell_in, info_in}
use Rattle.table_6_2.specs.Table62.{F1, F7}
use Rattle.table_6_2.specs.Table62 as Table62
use Rattle.table_6_3.specs.Table63.{G3}
use Rattle.hdlc.specs.Reading.{Said}
use Rattle.hdlc.specs.Reading.Said.{heard}
use Rattle.dchannel.specs.Access.{low_of}
use Rattle.timing.specs.Counts.{most_periods}
use Rattle.timing.specs.Timers.{due}
use Rattle.alignment.specs.Alignment.{framed_period, followed}
use Rattle.heard_line.specs.Heard.{downward_event, upward_event, loss_up}
use Rattle.heard_line.specs.Sensing.{shown_up, shown_down}
use Rattle.network.specs.Network as network
use Rattle.network.specs.declared.Network.{Network}
use Rattle.terminal.specs.Terminal as terminal
use Rattle.cycle.specs.declared.record.Cycle.{Cycle}
use Rattle.bus_rules.specs.Bus.{Station, Hit, Bus, fresh_station, fresh_bus, station_at, with_counts}
use Rattle.bus_rules.specs.Bus.Hit.{none, given}
use Rattle.bus_rules.specs.Exchange.{Opportunity, access_step_of, e_comes, said_to, stations_of, any_sends, any_info1, any_info3, station_after_e, onward, begins, opportunities_of, exchanged, whole_down, whole_up, line_down, in_f7}
use Rattle.bus_rules.specs.Period.{network_hears, terminal_hears, stepped, heard_by, timed, period_run}
use Rattle.bus_rules.specs.Calls.{Call, reply, does, after, after_all}
use Rattle.bus_rules.specs.Calls.Call.{event, period}
use Rattle.bus_rules.specs.Stretch.{station_then, Undisturbed, Stretch, opportunities_of_call, opportunities_in, Calm, Stays, Waits, Completes, Begins, body_heard, first_done, body_completed}
use Rattle.bus_rules.specs.Claims.{at, opps, wait_bound}
use Rattle.bus_rules.specs.Quick.{shown_by, shown_from}
use Rattle.bus_rules.specs.Scenes as scenes
use Rattle.bus_rules.specs.Scenes.{handed_back, activating, activated, before_wait, wait_start, during_wait, during_busy}
use Rattle.bus_rules.specs.Exists as exists
use Rattle.bus_rules.proofs.Quick.{up_shown, down_shown}
use Rattle.bus_rules.proofs.Off.{still_off, period_off}
use Rattle.bus_rules.proofs.Stations.{Each, station_heard, station_timed, each_exchanged}
use Rattle.bus_rules.proofs.Stretches.{state_exchanged}
use Rattle.bus_rules.proofs.Ranges.{opportunities_counted}
use Rattle.bus_rules.proofs.Sound.{sound_fresh, sound_after, sound_counted}
use Rattle.bus_rules.proofs.Demand3.{demand3}

-- ---- the conditions of a stretch, each by those that document 01 has for it
undisturbed_when : (b : Bus) → b.hit ≡ Hit.none → any_info1 b.stations ≡ false → Undisturbed b
undisturbed_when b hit calls = search

stays_when : (b b' : Bus) → b.network.state ≡ G3 → b'.network.state ≡ G3
    → ((i : ℕ) → (station_at i b).terminal.state ≡ F7 → (station_at i b').terminal.state ≡ F7) → Stays b b'
stays_when b b' g g' f = search

-- a terminal that is off, or activated and aligned
data Rests (s : Station) : Type 0 where
  off : s.terminal.state ≡ F1 → Rests s
  active : s.terminal.state ≡ F7 → s.terminal.alignment.aligned ≡ true → Rests s

-- a bus that goes on as it is
record Steady (b : Bus) : Type 0 where
  in_g3_lem : b.network.state ≡ G3
  aligned : b.network.alignment.aligned ≡ true
  no_hit : b.hit ≡ Hit.none
  no_cycle_lem : b.cycle.running ≡ false
  rest : Each Rests b.stations
  -- one that is activated
  who : ℕ
  sends : (station_at who b).terminal.state ≡ F7

-- ---- the network end
net_hears : (up : List ℕ) (now : ℕ) (n : Network) → shown_up up ≡ shown_from false true → n.state ≡ G3 → n.alignment.aligned ≡ true →
    ((network_hears up now n).network.state ≡ G3) × ((network_hears up now n).network.alignment.aligned ≡ true)
unfolding network_hears network.hears network.heard_as network.and_then network.happens network.acts network.aligned followed framed_period loss_up upward_event cell_in shown_from
net_hears up now n s g a = (rw (s, a, g), rw (s, a, g))

net_timers : (now : ℕ) (n : Network) → n.state ≡ G3 → n.alignment.aligned ≡ true →
    ((network.timers now n).network.state ≡ G3) × ((network.timers now n).network.alignment.aligned ≡ true)
unfolding network.timers network.and_then network.t1_due network.t2_due network.happens network.acts cell_in
net_timers now n g a =
    by_test (due n.t1 now)
    (λ t. by_test (due n.t2 now) (λ u. (rw (t, g, u), rw (t, g, u) a)) (λ u. (rw (t, g, u), rw (t, g, u) a)))
    (λ t. by_test (due n.t2 now) (λ u. (rw (t, u, g), rw (t, u, g) a)) (λ u. (rw (t, u) g, rw (t, u) a)))

-- ---- a terminal: it rests, and stays in F7 where it is
abbrev Still : Station → Station → Type 0
Still s s' = Rests s' × (s.terminal.state ≡ F7 → s'.terminal.state ≡ F7)

still_hears : (down : List ℕ) (now : ℕ) (s : Station) → shown_down down ≡ shown_by G3 → Rests s → Still s (stepped (terminal_hears down now) s)
unfolding stepped terminal_hears terminal.hears terminal.heard_as terminal.happens terminal.acts terminal.aligned followed framed_period downward_event cell_in shown_by info_in
still_hears down now s h (off o) = (off (rw o), λ f. rw o (rw o at f))
still_hears down now s h (active f a) = (active (rw (f, h, a)) (rw (f, h, a)), λ e. rw (f, h, a))

still_timer : (now : ℕ) (s : Station) → Rests s → Still s (stepped (terminal.timer now) s)
unfolding stepped terminal.timer terminal.happens terminal.acts terminal.no_timer cell_in
still_timer now s (off o) =
    by_test (due s.terminal.t3 now) (λ u. (off (rw (u, o)), λ f. rw (u, o) (rw o at f))) (λ u. (off (rw u o), λ f. rw u f))
still_timer now s (active f a) =
    by_test (due s.terminal.t3 now) (λ u. (active (rw (u, f)) (rw (u, f) a), λ e. rw (u, f))) (λ u. (active (rw u f) (rw u a), λ e. rw u e))

rests_turned : (e : Bool) (s : Station) → Rests s → Rests (station_after_e e s)
unfolding station_after_e
rests_turned e s (off o) = off (rw o)
rests_turned e s (active f a) = active (rw f) (rw f a)

-- ---- the bus
rest_no_info_1 : (ss : List Station) → Each Rests ss → any_info1 ss ≡ false
unfolding any_sends
rest_no_info_1 [] r = refl
rest_no_info_1 (s ∷ ss) r = rw (quiet s (r 0)) (rest_no_info_1 ss (λ i. r (suc i)))
  where
    quiet : (x : Station) → Rests x → eqb (info_in Table62.info_sent x.terminal.state) 1 ≡ false
    quiet x (off o) = rw o (unfold info_in in refl)
    quiet x (active f a) = rw f (unfold info_in in refl)

one_sends : (ss : List Station) (i : ℕ) → (get_or ss i fresh_station).terminal.state ≡ F7 → any_info3 ss ≡ true
unfolding any_sends info_in
one_sends [] i h = cc
one_sends (s ∷ ss) zero h = rw h
one_sends (s ∷ ss) (suc i) h = rw (one_sends ss i h) (or_true (eqb (info_in Table62.info_sent s.terminal.state) 3))
  where
    or_true : (a : Bool) → (a || true) ≡ true
    or_true true = refl
    or_true false = refl

hears_info_4 : (b : Bus) → Steady b → shown_down (whole_down (exchanged b)) ≡ shown_by G3
unfolding whole_down line_down exchanged onward begins
hears_info_4 b s = rw (s.in_g3_lem, s.no_hit) (down_shown _ G3 _)

hears_info_3 : (b : Bus) → Steady b → shown_up (whole_up (exchanged b)) ≡ shown_from false true
unfolding station_then
hears_info_3 b s =
    let stations = stations_of (exchanged b).senders in
    rw (
      up_shown (exchanged b) (still_off b s.no_cycle_lem),
      rest_no_info_1 stations (each_exchanged Rests rests_turned b s.rest),
      one_sends stations s.who (state_exchanged s.who b ∙ s.sends),
    )

still_run : (b : Bus) → Steady b → (i : ℕ) → Still (station_at i b) (station_at i (period_run b))
unfolding period_run heard_by station_then
still_run b s i =
    let heard = still_hears (whole_down (exchanged b)) b.periods (station_then i (exchanged b)) (hears_info_4 b s) (each_exchanged Rests rests_turned b s.rest i) in
    let after = still_timer (b.periods + 1) (stepped (terminal_hears (whole_down (exchanged b)) b.periods) (station_then i (exchanged b))) heard.0 in
    rw (station_timed i (heard_by (exchanged b) b), station_heard i (exchanged b) b) (after.0, λ f. after.1 (heard.1 (state_exchanged i b ∙ f)))

net_run : (b : Bus) → Steady b → ((period_run b).network.state ≡ G3) × ((period_run b).network.alignment.aligned ≡ true)
unfolding period_run timed heard_by
net_run b s =
    let h = net_hears (whole_up (exchanged b)) b.periods b.network (hears_info_3 b s) s.in_g3_lem s.aligned in
    net_timers (b.periods + 1) (network_hears (whole_up (exchanged b)) b.periods b.network).network h.0 h.1

hit_run : (b : Bus) → (period_run b).hit ≡ Hit.none
unfolding period_run timed heard_by
hit_run b = refl

steady_on : (b : Bus) → Steady b → Steady (period_run b)
steady_on b s =
    record {
      in_g3_lem = (net_run b s).0;
      aligned = (net_run b s).1;
      no_hit = hit_run b;
      no_cycle_lem = ap (λ (c : Cycle). c.running) (period_off b s.no_cycle_lem) ∙ s.no_cycle_lem;
      rest = λ i. (still_run b s i).0;
      who = s.who;
      sends = (still_run b s s.who).1 s.sends;
    }

-- periods alone, as many as wanted
steady_stretch : (n : ℕ) (b : Bus) → Steady b → Stretch b (replicate n period)
unfolding Stretch after does
steady_stretch zero b s = tt
steady_stretch (suc n) b s =
    let calm = undisturbed_when b s.no_hit (rest_no_info_1 b.stations s.rest) in
    by_test (eqb (reply b period) 0)
    (λ t. rw t ((λ r. calm), stays_when b (period_run b) s.in_g3_lem (net_run b s).0 (λ i. (still_run b s i).1), steady_stretch n (period_run b) (steady_on b s)))
    (λ t. rw t ((λ r. calm), stays_when b b s.in_g3_lem s.in_g3_lem (λ i h. h), steady_stretch n b s))

-- document 01's book leads to such a bus: terminal 1 in F7, the others fresh
all_fresh : (n i : ℕ) → (get_or (replicate n fresh_station) i fresh_station).terminal.state ≡ F1
all_fresh zero i = refl
all_fresh (suc n) zero = refl
all_fresh (suc n) (suc i) = all_fresh n i

activated_rest : Each Rests activated.stations
unfolding handed_back
activated_rest zero = active refl refl
activated_rest (suc i) = off (all_fresh 7 i)

activated_steady : Steady activated
unfolding handed_back
activated_steady = record { in_g3_lem = refl; aligned = refl; no_hit = refl; no_cycle_lem = refl; rest = activated_rest; who = 0; sends = refl }

pub stretches_exist : exists.StretchesExist
stretches_exist n = steady_stretch n activated activated_steady

-- .. and so does it with one D opportunity counted, where no list from the fresh bus leads: those count by fours
other_steady : Steady (with_counts activated.periods 1 activated)
other_steady =
    let s = activated_steady in
    record { in_g3_lem = s.in_g3_lem; aligned = s.aligned; no_hit = s.no_hit; no_cycle_lem = s.no_cycle_lem; rest = s.rest; who = s.who; sends = s.sends }

one_is_no_four : (calls : List Call) → after_all fresh_bus calls ≡ with_counts activated.periods 1 activated → ⊥
one_is_no_four calls e =
    let counted = opportunities_counted calls fresh_bus in
    let one : (after_all fresh_bus calls).opportunities ≡ 1 = ap (λ (b : Bus). b.opportunities) e in
    omega (arith, counted, one)

pub other_start : exists.OtherStart
unfolding handed_back
other_start =
    record {
      is_sound = sound_counted activated activated.periods 1 (omega arith) (omega arith) (sound_after fresh_bus activating sound_fresh);
      not_led_to = one_is_no_four;
      stretches = λ n. steady_stretch n (with_counts activated.periods 1 activated) other_steady;
    }

periods_run_lem : (b : Bus) → (period_run b).periods ≡ b.periods + 1
unfolding period_run timed heard_by
periods_run_lem b = refl

pub stretch_length : exists.StretchLength
unfolding opportunities_in opportunities_of_call after does reply opportunities_of
stretch_length zero b h = refl
stretch_length (suc n) b h =
    let e : leb most_periods b.periods ≡ false = lt-leb most_periods b.periods (omega arith) in
    rw (e, stretch_length n (period_run b) (rw (periods_run_lem b) (omega arith))) (omega arith)

-- ---- a stretch by computation
abbrev keeps_f7 : List Station → List Station → Bool
keeps_f7 [] ts = true
keeps_f7 (s ∷ ss) [] = not (in_f7 s) && keeps_f7 ss []
keeps_f7 (s ∷ ss) (t ∷ ts) = (not (in_f7 s) || in_f7 t) && keeps_f7 ss ts

abbrev no_hit : Hit → Bool
no_hit none = true
no_hit (given letters) = false

abbrev is_calm : Bus → Call → Bool
is_calm b (event unit number value) = true
is_calm b period = no_hit b.hit && not (any_info1 b.stations)

abbrev stays : Bus → Bus → Bool
stays b b' = eqb b.network.state G3 && (eqb b'.network.state G3 && keeps_f7 b.stations b'.stations)

abbrev is_stretch : Bus → List Call → Bool
is_stretch b [] = true
is_stretch b (c ∷ more) = is_calm b c && (stays b (after b c) && is_stretch (after b c) more)

still_in_f7 : (ss ts : List Station) → keeps_f7 ss ts ≡ true → (i : ℕ) → (get_or ss i fresh_station).terminal.state ≡ F7 → (get_or ts i fresh_station).terminal.state ≡ F7
still_in_f7 [] ts h i f = absurd (omega arith)
still_in_f7 (s ∷ ss) [] h zero f = absurd (true≢false (sym (rw f at (and_left (not (in_f7 s)) (keeps_f7 ss []) h))))
still_in_f7 (s ∷ ss) [] h (suc i) f = still_in_f7 ss [] (and_right (not (in_f7 s)) (keeps_f7 ss []) h) i f
still_in_f7 (s ∷ ss) (t ∷ ts) h zero f = eqb-true t.terminal.state F7 (rw f at (and_left (not (in_f7 s) || in_f7 t) (keeps_f7 ss ts) h))
still_in_f7 (s ∷ ss) (t ∷ ts) h (suc i) f = still_in_f7 ss ts (and_right (not (in_f7 s) || in_f7 t) (keeps_f7 ss ts) h) i f

no_hit_is : (h : Hit) → no_hit h ≡ true → h ≡ Hit.none
no_hit_is none e = refl
no_hit_is (given letters) e = absurd (true≢false (sym e))

calm_event : (b : Bus) (unit number : ℕ) (value : List ℕ) → Calm b (event unit number value)
calm_event b unit number value = search

calm_is : (b : Bus) (c : Call) → is_calm b c ≡ true → Calm b c
calm_is b (event unit number value) h = calm_event b unit number value
calm_is b period h = λ r.
    undisturbed_when b (no_hit_is b.hit (and_left (no_hit b.hit) (not (any_info1 b.stations)) h))
    (not-true (any_info1 b.stations) (and_right (no_hit b.hit) (not (any_info1 b.stations)) h))

stays_is : (b b' : Bus) → stays b b' ≡ true → Stays b b'
stays_is b b' h =
    let first = eqb b.network.state G3 in
    let second = eqb b'.network.state G3 in
    let more = and_right first (second && keeps_f7 b.stations b'.stations) h in
    stays_when b b' (eqb-true b.network.state G3 (and_left first (second && keeps_f7 b.stations b'.stations) h))
    (eqb-true b'.network.state G3 (and_left second (keeps_f7 b.stations b'.stations) more))
    (still_in_f7 b.stations b'.stations (and_right second (keeps_f7 b.stations b'.stations) more))

stretch_is : (b : Bus) (calls : List Call) → is_stretch b calls ≡ true → Stretch b calls
unfolding Stretch
stretch_is b [] h = tt
stretch_is b (c ∷ more) h =
    let rest = stays b (after b c) && is_stretch (after b c) more in
    let others = and_right (is_calm b c) rest h in (
      calm_is b c (and_left (is_calm b c) rest h),
      stays_is b (after b c) (and_left (stays b (after b c)) (is_stretch (after b c) more) others),
      stretch_is (after b c) more (and_right (stays b (after b c)) (is_stretch (after b c) more) others),
    )

pub worst_stretch : exists.WorstStretch
unfolding handed_back any_sends
worst_stretch = stretch_is wait_start during_wait refl

-- ---- the words as tests
abbrev waits_now : ℕ → ℕ → Opportunity → Bool
waits_now k i m =
    let s = station_then i m in
    in_f7 s && (eqb s.terminal.access.held k && not (low_of k s.terminal.access))

abbrev begins_now : ℕ → Opportunity → Bool
begins_now i m =
    let s = station_then i m in
    in_f7 s && (eqb s.terminal.access.sent 0 && eqb (access_step_of (e_comes m) s).access.sent 1)

abbrev completes_now : ℕ → ℕ → Opportunity → Bool
completes_now k i m = in_f7 (station_then i m) && eqb (access_step_of (e_comes m) (station_then i m)).done k

-- ---- what a stretch may have
pub any_event : exists.AnyEvent
unfolding Stretch
any_event b unit number value more g g' f rest = (calm_event b unit number value, stays_when b (after b (event unit number value)) g g' f, rest)

pub any_period : exists.AnyPeriod
unfolding Stretch
any_period b more hit calls g g' f rest = ((λ r. undisturbed_when b hit calls), stays_when b (after b period) g g' f, rest)

pub any_refused_call : exists.AnyRefusedCall
unfolding Stretch after
any_refused_call b c more g refused rest =
    rw (ne_eqb (reply b c) 0 refused) (calm c refused, stays_when b b g g (λ i f. f), rest)
  where
    calm : (x : Call) → (reply b x ≡ 0 → ⊥) → Calm b x
    calm (event unit number value) r = calm_event b unit number value
    calm period r = λ e. absurd (r e)

-- ---- the words, by document 01's conditions
pub waits_when : exists.WaitsWhen
waits_when k i m in_f7_lem held normal = search

pub completes_when : exists.CompletesWhen
completes_when k i m in_f7_lem done = search

pub begins_when : exists.BeginsWhen
begins_when i m in_f7_lem idle first = search

-- ---- the words, at opportunities that are computed
waits_is : (k i : ℕ) (m : Opportunity) → waits_now k i m ≡ true → Waits k i m
waits_is k i m h =
    let s = station_then i m in
    let holds = eqb s.terminal.access.held k in
    let low = low_of k s.terminal.access in
    let more = and_right (in_f7 s) (holds && not low) h in
    waits_when k i m (eqb-true s.terminal.state F7 (and_left (in_f7 s) (holds && not low) h))
    (eqb-true s.terminal.access.held k (and_left holds (not low) more)) (not-true low (and_right holds (not low) more))

begins_is : (i : ℕ) (m : Opportunity) → begins_now i m ≡ true → Begins i m
begins_is i m h =
    let s = station_then i m in
    let t = access_step_of (e_comes m) s in
    let idle = eqb s.terminal.access.sent 0 in
    let first = eqb t.access.sent 1 in
    let more = and_right (in_f7 s) (idle && first) h in
    begins_when i m (eqb-true s.terminal.state F7 (and_left (in_f7 s) (idle && first) h))
    (eqb-true s.terminal.access.sent 0 (and_left idle first more)) (eqb-true t.access.sent 1 (and_right idle first more))

completes_is : (k i : ℕ) (m : Opportunity) → completes_now k i m ≡ true → Completes k i m
completes_is k i m h =
    let s = station_then i m in
    let t = access_step_of (e_comes m) s in
    let done = eqb t.done k in
    completes_when k i m (eqb-true s.terminal.state F7 (and_left (in_f7 s) done h)) (eqb-true t.done k (and_right (in_f7 s) done h))

-- the worst wait, computed once
abbrev every : List Bool → Bool
every [] = true
every (x ∷ xs) = x && every xs

every_one : (xs : List Bool) → every xs ≡ true → (i : ℕ) → get_or xs i true ≡ true
every_one [] h i = refl
every_one (x ∷ xs) h zero = and_left x (every xs) h
every_one (x ∷ xs) h (suc i) = every_one xs (and_right x (every xs) h) i

abbrev wait_tests : List Opportunity → List Bool
wait_tests ms =
    leb 128 (length ms)
    ∷ waits_now 1 0 (at ms 0)
    ∷ completes_now 1 1 (at ms 63)
    ∷ waits_now 1 0 (at ms 63)
    ∷ completes_now 1 2 (at ms 95)
    ∷ waits_now 1 0 (at ms 95)
    ∷ begins_now 0 (at ms 103)
    ∷ completes_now 1 0 (at ms 127)
    ∷ []

waits_to_the_last : (ms : List Opportunity) → every (wait_tests ms) ≡ true → said_to (at ms 126) ≡ heard (1 ∷ []) → body_completed (at ms 127) ≡ (1 ∷ []) ∷ []
    → exists.WaitsToTheLast ms
unfolding body_heard
waits_to_the_last ms h said done =
    record {
      waits = waits_is 1 0 (at ms 0) (every_one (wait_tests ms) h 1);
      lasts = leb-true 128 (length ms) (every_one (wait_tests ms) h 0);
      second_completes = completes_is 1 1 (at ms 63) (every_one (wait_tests ms) h 2);
      waits_meanwhile = waits_is 1 0 (at ms 63) (every_one (wait_tests ms) h 3);
      third_completes = completes_is 1 2 (at ms 95) (every_one (wait_tests ms) h 4);
      still_waits = waits_is 1 0 (at ms 95) (every_one (wait_tests ms) h 5);
      begun = begins_is 0 (at ms 103) (every_one (wait_tests ms) h 6);
      is_heard = said;
      body_heard_lem = rw said;
      completed = completes_is 1 0 (at ms 127) (every_one (wait_tests ms) h 7);
      body_completed_lem = done;
    }

-- what is seen there, computed at once
record Seen : Type 0 where
  tests : Bool
  said : Said
  completed : List (List ℕ)

abbrev seen : List Opportunity → Seen
seen ms = record { tests = every (wait_tests ms); said = said_to (at ms 126); completed = body_completed (at ms 127) }

worst_seen : seen (opps wait_start during_wait) ≡ record { tests = true; said = heard (1 ∷ []); completed = (1 ∷ []) ∷ [] }
unfolding handed_back any_sends body_completed first_done
worst_seen = refl

pub worst_wait : exists.WorstWait
worst_wait =
    waits_to_the_last (opps wait_start during_wait) (ap (λ (s : Seen). s.tests) worst_seen) (ap (λ (s : Seen). s.said) worst_seen)
    (ap (λ (s : Seen). s.completed) worst_seen)

-- what demand 3 says there
pub said_of_worst_wait : exists.SaidOfWorstWait
said_of_worst_wait =
    let claimed = (demand3 before_wait during_wait [] worst_stretch).of_stretch in
    let bound : wait_bound wait_start during_wait ≡ 128 = (scenes.worst_wait).0 in
    let long = worst_wait.lasts in
    record {
      in_time = claimed.wait_ends 0 0 worst_wait.waits (rw bound (omega (arith, long)));
      frame_heard = claimed.begun_heard 0 1 103 126 (omega arith) (omega arith) (omega (arith, long)) worst_wait.begun worst_wait.completed;
      as_completed = claimed.heard_as_completed 0 103 16 worst_wait.begun (omega (arith, long));
    }

abbrev seen_busy : List Opportunity → Seen
seen_busy ms = record { tests = begins_now 0 (at ms 7) && completes_now 1 0 (at ms 31); said = said_to (at ms 30); completed = [] }

busy_seen : seen_busy exists.busy ≡ record { tests = true; said = heard (0 ∷ []); completed = [] }
unfolding handed_back any_sends
busy_seen = refl

pub busy_stretch : exists.BusyStretch
unfolding handed_back any_sends
busy_stretch =
    let both = ap (λ (s : Seen). s.tests) busy_seen in
    record {
      is_stretch_lem = stretch_is activated during_busy refl;
      begun = begins_is 0 (at exists.busy 7) (and_left (begins_now 0 (at exists.busy 7)) (completes_now 1 0 (at exists.busy 31)) both);
      is_heard = ap (λ (s : Seen). s.said) busy_seen;
      completed = completes_is 1 0 (at exists.busy 31) (and_right (begins_now 0 (at exists.busy 7)) (completes_now 1 0 (at exists.busy 31)) both);
    }
