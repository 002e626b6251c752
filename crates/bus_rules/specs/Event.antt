-- Rules: an event of the book on the bus (document 01, "Bench book and report" and "Reasons a call
-- is turned down"): any unit number, any event number, any value.
-- Interface: `among`, `network_events`, `terminal_events`, `event_for`, `call_reasons`, `state_reasons`,
-- `book_refusals`, `first_holding`, `refusal`, `event_done`, `event_notes`. Assumes nothing.
use Rattle.std.specs.Prelude.{Bool, true, false, cond, not, ◌&&◌, ◌||◌, List, [], ◌∷◌, ◌++◌, map, ◌≡◌, refl, ℕ, ◌-◌, eqb, ltb, length}
use Rattle.symbols.specs.Symbols.{line_length, fits}
use Rattle.combining.specs.Hit.{none_letter}
use Rattle.notes_and_cells.specs.Events.{ON, OFF, AR, DR, D1, D2, HIT, END}
use Rattle.notes_and_cells.specs.Notes.{noted}
use Rattle.table_6_2.specs.Table62.{F7}
use Rattle.table_6_2.specs.Table62 as Table62
use Rattle.table_6_3.specs.Table63 as Table63
use Rattle.hdlc.specs.Image.{image, is_body}
use Rattle.dchannel.specs.Handing.{taken_up}
use Rattle.contention.specs.Change.{change}
use Rattle.network.specs.Network as network
use Rattle.terminal.specs.Terminal as terminal
use Rattle.network.specs.declared.Network.{Network}
use Rattle.network.specs.Steps.{NetworkStep}
use Rattle.terminal.specs.declared.Terminal.{Terminal}
use Rattle.terminal.specs.Steps.{TerminalStep}
use Rattle.bus_rules.specs.Bus.{Station, Hit, Bus, Note, terminals, station_at, with_hit, with_stations, notes_of}
use Rattle.bus_rules.specs.Period.{network_now, stepped}

-- whether a number is one of some
abbrev pub among : ℕ → List ℕ → Bool
among n [] = false
among n (x ∷ xs) = eqb n x || among n xs

-- the terminal of a unit
abbrev pub station_of : Bus → ℕ → Station
station_of b unit = station_at (unit - 1) b

-- the class of the frame that an event gives, 0 where it gives none
unfoldable pub class_of : ℕ → ℕ
class_of event = cond (eqb event D1) 1 (cond (eqb event D2) 2 0)

-- 4: "`on`, `off` (terminals), `ar` (all), `dr` (unit 0), `d1`, `d2` (terminals ..), `hit` (unit 0
-- ..)"
abbrev pub network_events : List ℕ
network_events = AR ∷ DR ∷ HIT ∷ []

abbrev pub terminal_events : List ℕ
terminal_events = ON ∷ OFF ∷ AR ∷ D1 ∷ D2 ∷ []

unfoldable pub event_for : ℕ → ℕ → Bool
event_for unit event = cond (eqb unit 0) (among event network_events) (among event terminal_events)

-- Computed: whether none, `on`, `off`, `ar`, `dr`, `d1`, `d2`, `hit` and `end` are events for unit 0,
-- and for terminal 1.
pub events_for_units :
    (map (event_for 0) (0 ∷ ON ∷ OFF ∷ AR ∷ DR ∷ D1 ∷ D2 ∷ HIT ∷ END ∷ [])
    ≡ false ∷ false ∷ false ∷ true ∷ true ∷ false ∷ false ∷ true ∷ false ∷ [])
    × (map (event_for 1) (0 ∷ ON ∷ OFF ∷ AR ∷ DR ∷ D1 ∷ D2 ∷ HIT ∷ END ∷ [])
    ≡ false ∷ true ∷ true ∷ true ∷ false ∷ true ∷ true ∷ false ∷ false ∷ [])
unfolding event_for
events_for_units = (refl, refl)

-- 5: what the rules of the network end and of a terminal bar, by their tables' numbers of the
-- events
unfoldable pub bars_network : ℕ → ℕ → Bool
bars_network event state =
    cond (eqb event AR) (network.bars Table63.ar_row state) (cond (eqb event DR) (network.bars Table63.dr_row state) false)

unfoldable pub bars_terminal : ℕ → ℕ → Bool
bars_terminal event state =
    cond (eqb event ON) (terminal.bars Table62.on_row state)
    (cond (eqb event OFF) (terminal.bars Table62.off_row state) (cond (eqb event AR) (terminal.bars Table62.ar_row state) false))

unfoldable pub bars : Bus → ℕ → ℕ → Bool
bars b unit event = cond (eqb unit 0) (bars_network event b.network.state) (bars_terminal event (station_of b unit).terminal.state)

-- 6 to 8 are for an event that gives a frame to a terminal
abbrev pub gives_frame : ℕ → Bool
gives_frame event = not (eqb (class_of event) 0)

-- The reasons in the order of the checks, each a number and whether it holds: first those that the
-- call itself decides, then those that the state of the bus decides. 2 is for the letters of a hit.
unfoldable pub call_reasons : ℕ → ℕ → List ℕ → List (ℕ × Bool)
call_reasons unit event value =
    (2, eqb event HIT && not (fits line_length none_letter value))
    ∷ (3, ltb terminals unit)
    ∷ (4, not (event_for unit event))
    ∷ []

-- 7 is for a body, whose values are octets: a value here is any list of numbers, and `is_body` asks
-- that each is an octet.
unfoldable pub state_reasons : Bus → ℕ → ℕ → List ℕ → List (ℕ × Bool)
state_reasons b unit event value =
    (5, bars b unit event)
    ∷ (6, gives_frame event && not (eqb (station_of b unit).terminal.state F7))
    ∷ (7, gives_frame event && not (is_body value))
    ∷ (8, gives_frame event && not (eqb (station_of b unit).terminal.access.held 0))
    ∷ []

unfoldable pub reasons : Bus → ℕ → ℕ → List ℕ → List (ℕ × Bool)
reasons b unit event value = call_reasons unit event value ++ state_reasons b unit event value

-- "In a book, 3 to 8 become the note `refused`": the numbers of these reasons but 2, since a hit of
-- right form has 48 letters
abbrev pub book_refusals : List ℕ
book_refusals = 3 ∷ 4 ∷ 5 ∷ 6 ∷ 7 ∷ 8 ∷ []

-- "The checks run in the order below, and the first that holds gives the number; where none holds,
-- the call is not refused": 0
unfoldable pub first_holding : List (ℕ × Bool) → ℕ
first_holding [] = 0
first_holding (reason ∷ more) = cond reason.1 reason.0 (first_holding more)

unfoldable pub refusal : Bus → ℕ → ℕ → List ℕ → ℕ
refusal b unit event value = first_holding (reasons b unit event value)

-- ---- What an accepted event does.

-- a request to the network end
unfoldable pub network_does : ℕ → ℕ → Network → NetworkStep
network_does event now n = network.requests (cond (eqb event AR) Table63.ar_row Table63.dr_row) now n

unfoldable pub network_done : ℕ → Bus → Bus
network_done event b = network_now (network_does event b.periods b.network).network b.reading b

-- "a second replaces the first"
unfoldable pub hit_given : List ℕ → Bus → Bus
hit_given letters b = with_hit (Hit.given letters) b

-- power and requests of a terminal; no other event moves it
unfoldable pub terminal_does : ℕ → ℕ → Terminal → TerminalStep
terminal_does event now t =
    cond (eqb event ON) (terminal.switches_on now t)
    (cond (eqb event OFF) (terminal.switches_off now t) (cond (eqb event AR) (terminal.requests now t) (terminal.unchanged 0 t)))

-- a frame is taken up
unfoldable pub with_frame : ℕ → List ℕ → Station → Station
with_frame class body s =
    record {
      terminal = terminal.with_access (taken_up class (length (image body)) s.terminal.access) s.terminal;
      image = image body;
      body = body;
    }

unfoldable pub station_after : ℕ → List ℕ → ℕ → Station → Station
station_after event value now s = cond (eqb (class_of event) 0) (stepped (terminal_does event now) s) (with_frame (class_of event) value s)

unfoldable pub station_done : ℕ → ℕ → List ℕ → Bus → Bus
station_done unit event value b = with_stations (change (station_after event value b.periods) (unit - 1) b.stations) b

unfoldable pub event_done : ℕ → ℕ → List ℕ → Bus → Bus
event_done unit event value b =
    cond (eqb unit 0) (cond (eqb event HIT) (hit_given value b) (network_done event b)) (station_done unit event value b)

unfoldable pub event_notes : ℕ → ℕ → List ℕ → Bus → List Note
event_notes unit event value b =
    cond (eqb unit 0)
    (cond (eqb event HIT) [] (notes_of b.periods 0 (noted (network_does event b.periods b.network).notes)))
    (cond (eqb (class_of event) 0)
    (notes_of b.periods unit (noted (terminal_does event b.periods (station_of b unit).terminal).notes))
    [])
