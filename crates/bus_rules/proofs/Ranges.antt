-- Every list of calls leaves every field of the bus in its range, so that refusal 1 never comes; and in range the calls of `network` and
-- `terminal`, which check it, do what the definitions of the bus say.
use mathlib.Core.Path.{◌≡◌, refl, ◌∙◌}
use mathlib.Core.Bool.{Bool, true, false, cond, not, ◌&&◌}
use mathlib.Core.List.{List, [], ◌∷◌, ◌++◌}
use Prim.Native.Nat.{ℕ, zero, suc, ◌+◌, ◌-◌, ◌*◌, ◌≤◌, ◌<◌}
use native.Mathlib.Omega.{arith}
use lib.Dec.{eqb, leb}
use lib.ListN.{length, replicate}
use borrow.Author.Tests.{eqb-true, leb-false}
use Rattle.test_lemmas.proofs.ByCases.{by_test, clash}
use Rattle.symbols.specs.Symbols.{line_length, within, fits}
use Rattle.combining.specs.Hit.{none_letter}
use Rattle.notes_and_cells.specs.Notes.{DONE1, DONE2}
use Rattle.hdlc.specs.Image.{image}
use Rattle.hdlc.proofs.ImageLaws.{is_body_lem}
use Rattle.dchannel.specs.Access.{normal1, normal2}
use Rattle.dchannel.specs.Calls.{class_number}
use Rattle.dchannel.specs.declared.access.Class.{Class}
use Rattle.dchannel.specs.declared.access.Class.TheVariants.{One, Two}
use Rattle.dchannel.proofs.AccessLaws.{takes_body}
use Rattle.dchannel.proofs.RangesKept.{access_fits, access_step_in_range}
use Rattle.table_6_3.specs.Table63.{G3}
use Rattle.table_6_3.specs.Table63 as Table63
use Rattle.timing.specs.Counts.{most_periods}
use Rattle.timing.specs.declared.counts.Periods.{Periods}
use Rattle.timing.specs.Calls.{at_period}
use Rattle.contention.proofs.Change.{length_change}
use Rattle.cycle.specs.Cycle.{cycle_in_range}
use Rattle.cycle.specs.Periods as cycles
use Rattle.cycle.proofs.Laws.{period_kept}
use Rattle.heard_line.specs.Sensing.{shown_up, shown_down}
use Rattle.network.specs.Network as network
use Rattle.network.specs.Calls as networkCalls
use Rattle.network.specs.declared.Network.{Network}
use Rattle.network.proofs.Laws as network-laws
use Rattle.network.proofs.RangesKept as network_kept
use Rattle.terminal.specs.Terminal as terminal
use Rattle.terminal.specs.Calls as terminalCalls
use Rattle.terminal.specs.declared.Terminal.{Terminal}
use Rattle.terminal.specs.Steps.{TerminalStep}
use Rattle.terminal.proofs.Laws as terminal-laws
use Rattle.terminal.proofs.RangesKept as terminal-kept
use Rattle.bus_rules.specs.Bus.{Station, Bus, terminals, fresh_station, fresh_bus, station_at}
use Rattle.bus_rules.specs.Exchange.{in_f7, access_step_of, station_after_e, exchanged, whole_down, whole_up}
use Rattle.bus_rules.specs.Period.{network_hears, terminal_hears, stepped, done_codes, cycle_after, heard_by, timed, period_run}
use Rattle.bus_rules.specs.Event.{among, station_of, class_of, refusal, network_does, network_done, hit_given, terminal_does, with_frame, station_after, station_done, event_done}
use Rattle.notes_and_cells.specs.Events.{ON, OFF, AR, D1, D2, HIT}
use Rattle.bus_rules.specs.Calls.{Call, reply, does, after, after_all}
use Rattle.bus_rules.specs.Calls.Call.{event, period}
use Rattle.bus_rules.specs.Stretch.{station_then}
use Rattle.bus_rules.specs.Ranges.{InRange, runs, runs_in_g3, periods_run, periods_in_g3}
use Rattle.bus_rules.proofs.Stations.{Each, station_heard, station_timed, length_heard, length_timed, each_change, each_exchanged}
use Rattle.bus_rules.proofs.Simulation.{Takes, accepted, accepted_frame}
use Rattle.bus_rules.proofs.OneDone.{exchanged_at, done_bits_lem}
use Rattle.bus_rules.proofs.Off.{cycle_then}

-- ---- the calls of `network` and `terminal`
-- what the calls of a terminal give for power and requests
abbrev pub does_called : ℕ → Periods → Terminal → TerminalStep
does_called number now t =
    cond (eqb number ON) (terminalCalls.switch_on_call now t)
    (cond (eqb number OFF) (terminalCalls.switch_off_call now t) (cond (eqb number AR) (terminalCalls.request_call now t) (terminal.unchanged 0 t)))

module _ (now : ℕ) (l : now ≤ most_periods) where
  pub network_hears_called : (up : List ℕ) (n : Network) → networkCalls.network_in_range n ≡ true → networkCalls.hear_call (shown_up up) (at_period now) n ≡ network_hears up now n
  unfolding network_hears
  network_hears_called up n h = network-laws.heard_called now n l h (shown_up up)

  pub network_timers_called : (n : Network) → networkCalls.network_in_range n ≡ true → networkCalls.timer_call (at_period now) n ≡ network.timers now n
  network_timers_called n h = network-laws.timer_due_called now n l h

  pub network_does_called : (number : ℕ) (n : Network) → networkCalls.network_in_range n ≡ true →
      networkCalls.request_call (cond (eqb number AR) Table63.ar_row Table63.dr_row) (at_period now) n ≡ network_does number now n
  unfolding network_does
  network_does_called number n h = network-laws.requested_called now n l h (cond (eqb number AR) Table63.ar_row Table63.dr_row)

  pub terminal_hears_called : (down : List ℕ) (t : Terminal) → terminalCalls.terminal_in_range t ≡ true → terminalCalls.hear_call (shown_down down) (at_period now) t ≡ terminal_hears down now t
  unfolding terminal_hears
  terminal_hears_called down t h = terminal-laws.heard_called now t l h (shown_down down)

  pub terminal_timer_called : (t : Terminal) → terminalCalls.terminal_in_range t ≡ true → terminalCalls.timer_call (at_period now) t ≡ terminal.timer now t
  terminal_timer_called t h = terminal-laws.timer_due_called now t l h

  -- power and requests
  pub terminal_does_called : (number : ℕ) (t : Terminal) → terminalCalls.terminal_in_range t ≡ true →
      does_called number (at_period now) t ≡ terminal_does number now t
  unfolding terminal_does
  terminal_does_called number t h =
      rw (terminal-laws.switched_on_called now t l h, terminal-laws.switched_off_called now t l h, terminal-laws.requested_called now t l h)

-- a frame that a terminal takes
pub hand_over_called : (class : Class) (body : List ℕ) (s : Station) → terminalCalls.terminal_in_range s.terminal ≡ true → Takes s body →
    (terminalCalls.hand_over_call class (length (image body)) s.terminal).terminal ≡ (with_frame (class_number class) body s).terminal
unfolding terminalCalls.hands_over terminalCalls.holding with_frame
hand_over_called class body s r k =
    rw (
      terminal-laws.handed_over_called class (length (image body)) s.terminal r,
      k.in_f7_lem,
      takes_body class body s.terminal.access (is_body_lem body k.good) (eqb-true s.terminal.access.held 0 k.free),
    )

-- ---- the steps keep a terminal in range
abbrev Fit : Station → Type 0
Fit s = terminalCalls.terminal_in_range s.terminal ≡ true

turned_in : (e : Bool) (s : Station) → Fit s → Fit (station_after_e e s)
unfolding station_after_e access_step_of
turned_in e s h =
    let f = terminal-kept.terminal_fits s.terminal h in
    by_test (in_f7 s)
    (λ t. rw t (terminal-kept.fits_terminal _ (terminal-kept.access_put _ s.terminal (access_step_in_range normal2 s.terminal.access f.access_fits normal1 e _) f)))
    (λ t. rw t h)

module _ (now : ℕ) (l : now ≤ most_periods) (s : Station) (h : Fit s) where
  hears_in : (down : List ℕ) → Fit (stepped (terminal_hears down now) s)
  unfolding stepped
  hears_in down = rw (← terminal_hears_called now l down s.terminal h) (terminal-kept.heard_in_range (at_period now) s.terminal h (shown_down down))

  timer_in : Fit (stepped (terminal.timer now) s)
  unfolding stepped
  timer_in = rw (← terminal_timer_called now l s.terminal h) (terminal-kept.timer_due_in_range (at_period now) s.terminal h)

  does_in : (number : ℕ) → Fit (stepped (terminal_does number now) s)
  unfolding stepped
  does_in number =
      let p = at_period now in
      let t = s.terminal in
      rw (← terminal_does_called now l number t h)
      (by_test (eqb number ON) (λ u. rw u (terminal-kept.switched_on_in_range p t h))
      (λ u. rw u (by_test (eqb number OFF) (λ v. rw v (terminal-kept.switched_off_in_range p t h))
      (λ v. rw v (by_test (eqb number AR) (λ w. rw w (terminal-kept.requested_in_range p t h)) (λ w. rw w h))))))

-- the class of the frame that an event gives
abbrev pub class_given : ℕ → Class
class_given number = cond (eqb number D1) One Two

pub class_given_lem : (number : ℕ) → eqb (class_of number) 0 ≡ false → class_number (class_given number) ≡ class_of number
unfolding class_of
class_given_lem number c =
    by_test (eqb number D1)
    (λ t. rw t)
    (λ t. by_test (eqb number D2) (λ u. rw (t, u)) (λ u. clash true refl (rw (t, u) at c)))

with_frame_in : (number : ℕ) (body : List ℕ) (s : Station) → Fit s → eqb (class_of number) 0 ≡ false → Takes s body → Fit (with_frame (class_of number) body s)
with_frame_in number body s r c k =
    rw (← class_given_lem number c, ← hand_over_called (class_given number) body s r k)
    (terminal-kept.handed_over_in_range (class_given number) (length (image body)) s.terminal r)

station_in_lem : (unit number : ℕ) (value : List ℕ) (b : Bus) → refusal b unit number value ≡ 0 → b.periods ≤ most_periods → Fit (station_of b unit) →
    Fit (station_after number value b.periods (station_of b unit))
unfolding station_after
station_in_lem unit number value b h l r =
    by_test (eqb (class_of number) 0)
    (λ u. rw u (does_in b.periods l (station_of b unit) r number))
    (λ u. rw u (with_frame_in number value (station_of b unit) r u (accepted_frame b unit number value h u)))

-- ---- a period keeps the bus in range, step by step
four_at_most : (t : Bool) (o p : ℕ) → o ≤ 4 * p → o + cond t 4 0 ≤ 4 * (p + 1)
four_at_most true o p h = omega arith
four_at_most false o p h = omega arith

module _ (b : Bus) (r : InRange b) where
  -- after the exchange
  pub exchanged_in : (i : ℕ) → terminalCalls.terminal_in_range (station_then i (exchanged b)).terminal ≡ true
  unfolding station_then
  exchanged_in = each_exchanged Fit turned_in b r.terminals_fit

  -- So what is completed in the period is told by a bit for each class.
  pub held_in : (i : ℕ) → (station_at i b).terminal.access.held ≤ 2
  held_in i = (access_fits normal2 _ (terminal-kept.terminal_fits _ (r.terminals_fit i)).access_fits).held_fits

  pub done_bits_in : (i : ℕ) →
      done_codes (exchanged_at b (station_at i b)).done
      ≡ cond (among 1 (exchanged_at b (station_at i b)).done) (DONE1 ∷ []) [] ++ cond (among 2 (exchanged_at b (station_at i b)).done) (DONE2 ∷ []) []
  done_bits_in i = done_bits_lem b (station_at i b) (held_in i)

terminals_heard_lem : (b : Bus) → b.periods ≤ most_periods → InRange b → Each Fit (heard_by (exchanged b) b).stations
terminals_heard_lem b l r i = rw (station_heard i (exchanged b) b) (hears_in b.periods l (station_then i (exchanged b)) (exchanged_in b r i) (whole_down (exchanged b)))

terminals_timed_lem : (b : Bus) → InRange b → Each Fit (timed b).stations
terminals_timed_lem b r i = rw (station_timed i b) (timer_in b.periods r.periods_fit (station_at i b) (r.terminals_fit i))

cycle_in : (b : Bus) → cycle_in_range b.cycle ≡ true → cycle_in_range (cycle_after (exchanged b)) ≡ true
unfolding cycle_after cycles.period
cycle_in b h =
    rw (cycle_then b)
    (period_kept (record { fa = _; s = _; g3 = _; f7 = _ }) b.cycle h)

pub heard_in_lem : (b : Bus) → b.periods < most_periods → InRange b → InRange (heard_by (exchanged b) b)
unfolding heard_by
heard_in_lem b l r =
    let now : b.periods ≤ most_periods = omega arith in
    record {
      periods_fit = omega arith;
      opportunities_fit = four_at_most (eqb b.network.state G3) b.opportunities b.periods r.opportunities_fit;
      network_fits =
          rw (network_hears_called b.periods now (whole_up (exchanged b)) b.network r.network_fits) at
          (network_kept.heard_in_range (at_period b.periods) b.network r.network_fits (shown_up (whole_up (exchanged b))));
      hit_fits_lem = refl;
      cycle_fits = cycle_in b r.cycle_fits;
      eight = length_heard b ∙ r.eight;
      terminals_fit = terminals_heard_lem b now r;
    }

pub timed_in : (b : Bus) → InRange b → InRange (timed b)
unfolding timed
timed_in b r =
    record {
      periods_fit = r.periods_fit;
      opportunities_fit = r.opportunities_fit;
      network_fits =
          rw (network_timers_called b.periods r.periods_fit b.network r.network_fits) at
          (network_kept.timer_due_in_range (at_period b.periods) b.network r.network_fits);
      hit_fits_lem = r.hit_fits_lem;
      cycle_fits = r.cycle_fits;
      eight = length_timed b ∙ r.eight;
      terminals_fit = terminals_timed_lem b r;
    }

pub period_in : (b : Bus) → b.periods < most_periods → InRange b → InRange (period_run b)
unfolding period_run
period_in b l r = timed_in (heard_by (exchanged b) b) (heard_in_lem b l r)

-- ---- an event does
given_in : (letters : List ℕ) (b : Bus) → fits line_length none_letter letters ≡ true → InRange b → InRange (hit_given letters b)
unfolding hit_given
given_in letters b f r =
    record {
      periods_fit = r.periods_fit;
      opportunities_fit = r.opportunities_fit;
      network_fits = r.network_fits;
      hit_fits_lem = f;
      cycle_fits = r.cycle_fits;
      eight = r.eight;
      terminals_fit = r.terminals_fit;
    }

network_in_lem : (number : ℕ) (b : Bus) → InRange b → InRange (network_done number b)
unfolding network_done
network_in_lem number b r =
    record {
      periods_fit = r.periods_fit;
      opportunities_fit = r.opportunities_fit;
      network_fits =
          rw (network_does_called b.periods r.periods_fit number b.network r.network_fits) at
          (network_kept.requested_in_range (at_period b.periods) b.network r.network_fits (cond (eqb number AR) Table63.ar_row Table63.dr_row));
      hit_fits_lem = r.hit_fits_lem;
      cycle_fits = r.cycle_fits;
      eight = r.eight;
      terminals_fit = r.terminals_fit;
    }

changed_in : (unit number : ℕ) (value : List ℕ) (b : Bus) → Fit (station_after number value b.periods (station_of b unit)) → InRange b → InRange (station_done unit number value b)
unfolding station_done
changed_in unit number value b f r =
    record {
      periods_fit = r.periods_fit;
      opportunities_fit = r.opportunities_fit;
      network_fits = r.network_fits;
      hit_fits_lem = r.hit_fits_lem;
      cycle_fits = r.cycle_fits;
      eight = length_change (station_after number value b.periods) (unit - 1) b.stations ∙ r.eight;
      terminals_fit = each_change Fit (station_after number value b.periods) (unit - 1) b.stations f r.terminals_fit;
    }

letters_fit : (a f : Bool) → (a && not f) ≡ false → a ≡ true → f ≡ true
letters_fit true true h e = refl
letters_fit true false h e = clash true refl h
letters_fit false f h e = clash false e refl

pub event_in : (unit number : ℕ) (value : List ℕ) (b : Bus) → refusal b unit number value ≡ 0 → InRange b → InRange (event_done unit number value b)
unfolding event_done
event_in unit number value b h r =
    by_test (eqb unit 0)
    (λ t.
    rw t
    (by_test (eqb number HIT)
    (λ u. rw u (given_in value b (letters_fit (eqb number HIT) _ (accepted b unit number value h).letters u) r))
    (λ u. rw u (network_in_lem number b r))))
    (λ t. rw t (changed_in unit number value b (station_in_lem unit number value b h r.periods_fit (r.terminals_fit (unit - 1))) r))

-- ---- every call, every list of calls
pub call_in : (b : Bus) (c : Call) → InRange b → InRange (after b c)
unfolding after does reply
call_in b (event unit number value) r =
    by_test (eqb (refusal b unit number value) 0)
    (λ t. rw t (event_in unit number value b (eqb-true (refusal b unit number value) 0 t) r))
    (λ t. rw t r)
call_in b period r =
    by_test (leb most_periods b.periods) (λ t. rw t r) (λ t. rw t (period_in b (leb-false most_periods b.periods t) r))

all_fresh : (n : ℕ) → Each Fit (replicate n fresh_station)
all_fresh zero i = terminal-kept.fresh_in_range
all_fresh (suc n) zero = terminal-kept.fresh_in_range
all_fresh (suc n) (suc i) = all_fresh n i

pub fresh_in : InRange fresh_bus
unfolding fits within
fresh_in =
    record {
      periods_fit = omega arith;
      opportunities_fit = omega arith;
      network_fits = network_kept.fresh_in_range;
      hit_fits_lem = refl;
      cycle_fits = refl;
      eight = refl;
      terminals_fit = all_fresh terminals;
    }

-- so refusal 1 never comes
pub ran_in : (b : Bus) (calls : List Call) → InRange b → InRange (after_all b calls)
unfolding after_all
ran_in b [] r = r
ran_in b (c ∷ more) r = ran_in (after b c) more (call_in b c r)

-- ---- in range, what the bus does is what the calls do
-- A period: hearing after the exchange, then the timers.
abbrev heard : Bus → Bus
heard b = heard_by (exchanged b) b

pub record PeriodCalled (b : Bus) : Type 0 where
  pub network_hears_lem : networkCalls.hear_call (shown_up (whole_up (exchanged b))) (at_period b.periods) b.network
      ≡ network_hears (whole_up (exchanged b)) b.periods b.network
  pub terminal_hears_lem : (i : ℕ) → terminalCalls.hear_call (shown_down (whole_down (exchanged b))) (at_period b.periods) (station_then i (exchanged b)).terminal
      ≡ terminal_hears (whole_down (exchanged b)) b.periods (station_then i (exchanged b)).terminal
  pub network_timers : networkCalls.timer_call (at_period (heard b).periods) (heard b).network ≡ network.timers (heard b).periods (heard b).network
  pub terminal_timer : (i : ℕ) → terminalCalls.timer_call (at_period (heard b).periods) (station_at i (heard b)).terminal
      ≡ terminal.timer (heard b).periods (station_at i (heard b)).terminal

pub period_called : (b : Bus) → b.periods < most_periods → InRange b → PeriodCalled b
period_called b l r =
    let now : b.periods ≤ most_periods = omega arith in
    let h = heard_in_lem b l r in
    record {
      network_hears_lem = network_hears_called b.periods now (whole_up (exchanged b)) b.network r.network_fits;
      terminal_hears_lem = λ i. terminal_hears_called b.periods now (whole_down (exchanged b)) (station_then i (exchanged b)).terminal (exchanged_in b r i);
      network_timers = network_timers_called (heard b).periods h.periods_fit (heard b).network h.network_fits;
      terminal_timer = λ i. terminal_timer_called (heard b).periods h.periods_fit (station_at i (heard b)).terminal (h.terminals_fit i);
    }

-- An event that is not refused: a request of the network end, power or a request of a terminal, a frame.
pub record EventCalled (b : Bus) (unit number : ℕ) (value : List ℕ) : Type 0 where
  pub network_does_lem : networkCalls.request_call (cond (eqb number AR) Table63.ar_row Table63.dr_row) (at_period b.periods) b.network ≡ network_does number b.periods b.network
  pub terminal_does_lem : does_called number (at_period b.periods) (station_of b unit).terminal ≡ terminal_does number b.periods (station_of b unit).terminal
  pub takes_frame : eqb (class_of number) 0 ≡ false →
      (terminalCalls.hand_over_call (class_given number) (length (image value)) (station_of b unit).terminal).terminal ≡ (with_frame (class_of number) value (station_of b unit)).terminal

pub event_called : (b : Bus) (unit number : ℕ) (value : List ℕ) → refusal b unit number value ≡ 0 → InRange b → EventCalled b unit number value
event_called b unit number value h r =
    record {
      network_does_lem = network_does_called b.periods r.periods_fit number b.network r.network_fits;
      terminal_does_lem = terminal_does_called b.periods r.periods_fit number (station_of b unit).terminal (r.terminals_fit (unit - 1));
      takes_frame = λ c.
          rw (← class_given_lem number c)
          (hand_over_called (class_given number) value (station_of b unit) (r.terminals_fit (unit - 1)) (accepted_frame b unit number value h c));
    }

-- ---- what the record counts
event_counts : (unit number : ℕ) (value : List ℕ) (b : Bus) →
    ((event_done unit number value b).periods ≡ b.periods) × ((event_done unit number value b).opportunities ≡ b.opportunities)
unfolding event_done hit_given network_done station_done
event_counts unit number value b =
    by_test (eqb unit 0) (λ t. rw t (by_test (eqb number HIT) (λ u. rw u (refl, refl)) (λ u. rw u (refl, refl)))) (λ t. rw t (refl, refl))

pub either_zero : (t : Bool) → cond {A = ℕ} t 0 0 ≡ 0
either_zero true = refl
either_zero false = refl

call_counts : (b : Bus) (c : Call) → ((after b c).periods ≡ b.periods + runs b c) × ((after b c).opportunities ≡ b.opportunities + 4 * runs_in_g3 b c)
unfolding after does runs runs_in_g3 period_run timed heard_by
call_counts b (event unit number value) =
    let none = either_zero (eqb b.network.state G3) in
    by_test (eqb (reply b (event unit number value)) 0)
    (λ t. rw t (omega (arith, (event_counts unit number value b).0), omega (arith, (event_counts unit number value b).1, none)))
    (λ t. rw t (omega arith, omega (arith, none)))
call_counts b period =
    by_test (eqb (reply b period) 0)
    (λ t. rw t (by_test (eqb b.network.state G3) (λ u. rw u (omega arith, omega arith)) (λ u. rw u (omega arith, omega arith))))
    (λ t. rw t (omega arith, omega (arith, either_zero (eqb b.network.state G3))))

pub periods_counted : (calls : List Call) (b : Bus) → (after_all b calls).periods ≡ b.periods + periods_run b calls
unfolding after_all periods_run
periods_counted [] b = omega arith
periods_counted (c ∷ more) b = omega (arith, periods_counted more (after b c), (call_counts b c).0)

pub opportunities_counted : (calls : List Call) (b : Bus) → (after_all b calls).opportunities ≡ b.opportunities + 4 * periods_in_g3 b calls
unfolding after_all periods_in_g3
opportunities_counted [] b = omega arith
opportunities_counted (c ∷ more) b = omega (arith, opportunities_counted more (after b c), (call_counts b c).1)
