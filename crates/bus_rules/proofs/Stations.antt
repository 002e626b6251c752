-- Each terminal of a bus through a period and an event.
use mathlib.Core.Path.{◌≡◌, refl, ◌∙◌}
use mathlib.Core.Bool.{Bool}
use mathlib.Core.List.{List, [], ◌∷◌, map}
use Prim.Native.Nat.{ℕ, zero, suc, ◌+◌, ◌-◌}
use lib.Dec.{eqb}
use lib.ListN.{length, get_or, length-map, get_or-map}
use Rattle.test_lemmas.proofs.ByCases.{by_test}
use Rattle.timing.specs.Timers.{due}
use Rattle.contention.specs.Change.{change}
use Rattle.contention.proofs.Change.{length_change}
use Rattle.terminal.specs.Terminal as terminal
use Rattle.bus_rules.specs.Bus.{Station, Bus, fresh_station, station_at}
use Rattle.bus_rules.specs.Exchange.{Sender, Opportunity, stations_of, station_after_e, hears_e, e_comes, senders_after, onward, as_sender, begins, exchanged, whole_down}
use Rattle.bus_rules.specs.Period.{terminal_hears, stepped, heard_by, timed, period_run}
use Rattle.bus_rules.specs.Event.{station_of, network_done, hit_given, station_after, station_done, event_done}
use Rattle.notes_and_cells.specs.Events.{HIT}
use Rattle.bus_rules.specs.Calls.{Call, reply, does, after, after_all}
use Rattle.bus_rules.specs.Calls.Call.{event, period}
use Rattle.bus_rules.specs.Stretch.{station_then}

-- ---- the exchange: the terminals as it begins, and after an E
pub stations_stationed : (ss : List Station) → stations_of (map as_sender ss) ≡ ss
unfolding as_sender
stations_stationed [] = refl
stations_stationed (s ∷ ss) = rw (stations_stationed ss)

pub stations_hear : (e : Bool) (ss : List Sender) → stations_of (map (hears_e e) ss) ≡ map (station_after_e e) (stations_of ss)
unfolding hears_e
stations_hear e [] = refl
stations_hear e (s ∷ ss) = rw (stations_hear e ss)

pub station_begins : (i : ℕ) (b : Bus) → station_then i (begins b) ≡ station_at i b
unfolding station_then begins
station_begins i b = rw (stations_stationed b.stations)

-- past the list all are fresh, and a fresh one stays as it is
pub station_onward : (i : ℕ) (m : Opportunity) → station_then i (onward m) ≡ station_after_e (e_comes m) (station_then i m)
unfolding station_then onward senders_after station_after_e
station_onward i m = rw (stations_hear (e_comes m) m.senders) (get_or-map (station_after_e (e_comes m)) (stations_of m.senders) i fresh_station)

-- ---- a period: hearing, then timers
pub station_heard : (i : ℕ) (m : Opportunity) (b : Bus) → station_at i (heard_by m b) ≡ stepped (terminal_hears (whole_down m) b.periods) (station_then i m)
unfolding station_then heard_by stepped terminal_hears terminal.hears
station_heard i m b = get_or-map (stepped (terminal_hears (whole_down m) b.periods)) (stations_of m.senders) i fresh_station

pub station_timed : (i : ℕ) (b : Bus) → station_at i (timed b) ≡ stepped (terminal.timer b.periods) (station_at i b)
unfolding timed stepped terminal.timer due
station_timed i b = get_or-map (stepped (terminal.timer b.periods)) b.stations i fresh_station

-- ---- no call changes how many there are
length_onward : (m : Opportunity) → length (onward m).senders ≡ length m.senders
unfolding onward senders_after
length_onward m = simp length-map

pub length_heard : (b : Bus) → length (heard_by (exchanged b) b).stations ≡ length b.stations
unfolding heard_by exchanged begins
length_heard b = simp (length-map, length_onward)

pub length_timed : (b : Bus) → length (timed b).stations ≡ length b.stations
unfolding timed
length_timed b = length-map b.stations _

length_period : (b : Bus) → length (period_run b).stations ≡ length b.stations
unfolding period_run
length_period b = length_timed (heard_by (exchanged b) b) ∙ length_heard b

length_event : (unit number : ℕ) (value : List ℕ) (b : Bus) → length (event_done unit number value b).stations ≡ length b.stations
unfolding event_done hit_given network_done station_done
length_event unit number value b =
    by_test (eqb unit 0) (λ t. rw t (by_test (eqb number HIT) (λ u. rw u) (λ u. rw u))) (λ t. rw t (length_change _ (unit - 1) b.stations))

length_after : (b : Bus) (c : Call) → length (after b c).stations ≡ length b.stations
unfolding after does
length_after b (event unit number value) =
    by_test (eqb (reply b (event unit number value)) 0) (λ t. rw t (length_event unit number value b)) (λ t. rw t)
length_after b period = by_test (eqb (reply b period) 0) (λ t. rw t (length_period b)) (λ t. rw t)

pub length_ran : (b : Bus) (calls : List Call) → length (after_all b calls).stations ≡ length b.stations
unfolding after_all
length_ran b [] = refl
length_ran b (c ∷ more) = length_ran (after b c) more ∙ length_after b c

-- ---- what holds of every terminal
abbrev pub Each : (Station → Type 0) → List Station → Type 0
Each P ss = (i : ℕ) → P (get_or ss i fresh_station)

module _ (P : Station → Type 0) where
  -- the one at an index changes
  pub each_change : (f : Station → Station) (i : ℕ) (ss : List Station) → P (f (get_or ss i fresh_station)) → Each P ss → Each P (change f i ss)
  unfolding change
  each_change f i [] p h j = h j
  each_change f zero (s ∷ ss) p h zero = p
  each_change f zero (s ∷ ss) p h (suc j) = h (suc j)
  each_change f (suc i) (s ∷ ss) p h zero = h 0
  each_change f (suc i) (s ∷ ss) p h (suc j) = each_change f i ss p (λ k. h (suc k)) j

  -- an event changes one terminal at most
  pub each_event : (unit number : ℕ) (value : List ℕ) (b : Bus) → P (station_after number value b.periods (station_of b unit)) → Each P b.stations →
      Each P (event_done unit number value b).stations
  unfolding event_done hit_given network_done station_done
  each_event unit number value b p h =
      by_test (eqb unit 0) (λ t. rw t (by_test (eqb number HIT) (λ u. rw u h) (λ u. rw u h)))
      (λ t. rw t (each_change (station_after number value b.periods) (unit - 1) b.stations p h))

  -- what a turn keeps, the exchange keeps
  module _ (keeps : (e : Bool) (s : Station) → P s → P (station_after_e e s)) where
    pub each_begins : (b : Bus) → Each P b.stations → Each P (stations_of (begins b).senders)
    unfolding station_then
    each_begins b h i = rw (station_begins i b) (h i)

    pub each_onward : (m : Opportunity) → Each P (stations_of m.senders) → Each P (stations_of (onward m).senders)
    unfolding station_then
    each_onward m h i = rw (station_onward i m) (keeps (e_comes m) (station_then i m) (h i))

    pub each_exchanged : (b : Bus) → Each P b.stations → Each P (stations_of (exchanged b).senders)
    unfolding exchanged
    each_exchanged b h = each_onward _ (each_onward _ (each_onward _ (each_onward _ (each_begins b h))))

    -- .. and a period keeps what hearing and timers keep too
    pub each_period : (b : Bus) → ((down : List ℕ) (s : Station) → P s → P (stepped (terminal_hears down b.periods) s)) →
        ((s : Station) → P s → P (stepped (terminal.timer (b.periods + 1)) s)) → Each P b.stations → Each P (period_run b).stations
    unfolding period_run station_then heard_by
    each_period b hears timer h i =
        rw (station_timed i (heard_by (exchanged b) b), station_heard i (exchanged b) b) (timer _ (hears (whole_down (exchanged b)) _ (each_exchanged b h i)))
