-- The notes of every call say what its D opportunities were.
use mathlib.Core.Path.{◌≡◌, refl}
use mathlib.Core.Bool.{Bool, true, false, cond}
use mathlib.Core.List.{List, [], ◌∷◌, ◌++◌, map, append_assoc, append-nil}
use Prim.Native.Nat.{ℕ, zero, suc, ◌+◌, ◌-◌, ◌<◌}
use native.Mathlib.Omega.{arith}
use lib.Dec.{eqb}
use lib.ListN.{get_or}
use borrow.Author.Tests.{eq-eqb, ne_eqb}
use Rattle.test_lemmas.proofs.ByCases.{by_test, both, clash}
use Rattle.notes_and_cells.specs.Notes.{HEARD, TORN, DONE1, DONE2, noted}
use Rattle.notes_and_cells.proofs.NotesKept.{every_note, every_of, is_indication}
use Rattle.table_6_3.specs.Table63 as Table63
use Rattle.hdlc.specs.Reading.{Said}
use Rattle.hdlc.specs.Reading.Said.{nothing, torn, heard}
use Rattle.heard_line.specs.Sensing.{shown_up, shown_down}
use Rattle.network.specs.Network as network
use Rattle.network.specs.declared.Network.{Network}
use Rattle.network.proofs.Laws as network-laws
use Rattle.terminal.specs.Terminal as terminal
use Rattle.terminal.specs.declared.Terminal.{Terminal}
use Rattle.terminal.proofs.Laws as terminal-laws
use Rattle.terminal.proofs.Laws.{is_terminal_note}
use Rattle.bus_rules.specs.Bus.{Station, Bus, Note, fresh_station, notes_of}
use Rattle.bus_rules.specs.Exchange.{Sender, Opportunity, stations_of, done_of, hears_e, e_comes, senders_after, onward, as_sender, begins, opportunities_of, exchanged, whole_down, whole_up}
use Rattle.cycle.specs.Cycle.{no_q, q_told, s_told}
use Rattle.cycle.specs.declared.record.Cycle.{Cycle}
use Rattle.bus_rules.specs.Order.{no_cycle, unit_by_unit}
use Rattle.bus_rules.specs.CycleNotes.{q_notes, s_notes, cycle_notes}
use Rattle.bus_rules.specs.Period.{network_hears, terminal_hears, said_notes, done_codes, hearing_codes, timer_codes, cycle_after, heard_by, period_notes}
use Rattle.bus_rules.specs.TwoParts.{notes_heard, notes_timed, TwoParts}
use Rattle.bus_rules.specs.Event.{station_of, class_of, network_does, terminal_does, event_notes}
use Rattle.notes_and_cells.specs.Events.{AR, HIT}
use Rattle.bus_rules.specs.Calls.{Call, reply, tells, after, notes}
use Rattle.bus_rules.specs.Calls.Call.{event, period}
use Rattle.bus_rules.specs.Stretch.{station_then, opportunities_of_call}
use Rattle.bus_rules.specs.Telling.{heard_in, done_notes_of, spoken, said_in, completed_in, Tells, AllTell}
use Rattle.bus_rules.proofs.TerminalDoes.{does_each}

-- ---- notes of the tables and of dropped frames are none of HEARD, TORN, DONE1 and DONE2
abbrev plain : List ℕ → Type 0
plain codes = every_note is_terminal_note codes ≡ true

-- a code that no terminal's note has
other : (code k : ℕ) → is_terminal_note code ≡ true → is_terminal_note k ≡ false → eqb code k ≡ false
other code k h n = ne_eqb code k (λ e. clash (is_terminal_note code) h (rw e n))

from_indications : (codes : List ℕ) → every_note is_indication codes ≡ true → plain codes
from_indications codes h = every_of is_indication is_terminal_note (λ code i. rw i) codes h

pub network_hears_plain : (up : List ℕ) (now : ℕ) (n : Network) → plain (noted (network_hears up now n).notes)
unfolding network_hears
network_hears_plain up now n = from_indications _ (network-laws.hears_told (shown_up up) now n)

pub network_timers_plain : (now : ℕ) (n : Network) → plain (noted (network.timers now n).notes)
network_timers_plain now n = from_indications _ (network-laws.timers_told_lem now n)

network_does_plain : (number now : ℕ) (n : Network) → plain (noted (network_does number now n).notes)
unfolding network_does
network_does_plain number now n = from_indications _ (network-laws.requests_told (cond (eqb number AR) Table63.ar_row Table63.dr_row) now n)

pub terminal_hears_plain : (down : List ℕ) (now : ℕ) (t : Terminal) → plain (noted (terminal_hears down now t).notes)
unfolding terminal_hears
terminal_hears_plain down now t = terminal-laws.hears_told now t (shown_down down)

terminal_does_plain : (number now : ℕ) (t : Terminal) → plain (noted (terminal_does number now t).notes)
unfolding noted every_note
terminal_does_plain number now t =
    does_each (λ s. plain (noted s.notes)) number now t
    (terminal-laws.on_told now t) (terminal-laws.off_told now t) (terminal-laws.requests_told now t) refl

-- ---- picking among notes
heard_append : (xs ys : List Note) → heard_in (xs ++ ys) ≡ heard_in xs ++ heard_in ys
unfolding heard_in
heard_append [] ys = refl
heard_append (n ∷ ns) ys =
    by_test (eqb n.code HEARD)
    (λ t. rw (t, heard_append ns ys))
    (λ t. rw t (by_test (eqb n.code TORN) (λ u. rw (u, heard_append ns ys)) (λ u. rw (u, heard_append ns ys))))

done_append : (v : ℕ) (xs ys : List Note) → done_notes_of v (xs ++ ys) ≡ done_notes_of v xs ++ done_notes_of v ys
unfolding done_notes_of
done_append v [] ys = refl
done_append v (n ∷ ns) ys =
    by_test (eqb n.unit v)
    (λ s.
    rw s
    (by_test (eqb n.code DONE1)
    (λ t. rw (t, done_append v ns ys))
    (λ t. rw t (by_test (eqb n.code DONE2) (λ u. rw (u, done_append v ns ys)) (λ u. rw (u, done_append v ns ys))))))
    (λ s. rw (s, done_append v ns ys))

heard_plain : (now u : ℕ) (codes : List ℕ) → plain codes → heard_in (notes_of now u codes) ≡ []
unfolding heard_in notes_of every_note
heard_plain now u [] p = refl
heard_plain now u (n ∷ ns) p =
    let b = both (is_terminal_note n) (every_note is_terminal_note ns) p in
    rw (other n HEARD b.0 refl, other n TORN b.0 refl) (heard_plain now u ns b.1)

done_plain : (v now u : ℕ) (codes : List ℕ) → plain codes → done_notes_of v (notes_of now u codes) ≡ []
unfolding done_notes_of notes_of every_note
done_plain v now u [] p = refl
done_plain v now u (n ∷ ns) p =
    let b = both (is_terminal_note n) (every_note is_terminal_note ns) p in
    by_test (eqb u v)
    (λ t. rw (t, other n DONE1 b.0 refl, other n DONE2 b.0 refl) (done_plain v now u ns b.1))
    (λ t. rw t (done_plain v now u ns b.1))

notes_of_append : (now u : ℕ) (xs ys : List ℕ) → notes_of now u (xs ++ ys) ≡ notes_of now u xs ++ notes_of now u ys
unfolding notes_of
notes_of_append now u [] ys = refl
notes_of_append now u (x ∷ xs) ys = rw (notes_of_append now u xs ys)

heard_done : (now u : ℕ) (ds : List ℕ) → heard_in (notes_of now u (done_codes ds)) ≡ []
unfolding heard_in notes_of done_codes
heard_done now u [] = refl
heard_done now u (d ∷ ds) = by_test (eqb d 1) (λ t. rw t (heard_done now u ds)) (λ t. rw t (heard_done now u ds))

done_done : (now u : ℕ) (ds : List ℕ) → done_notes_of u (notes_of now u (done_codes ds)) ≡ done_codes ds
unfolding done_notes_of notes_of done_codes
done_done now u [] = refl
done_done now u (d ∷ ds) =
    rw (eq-eqb u u refl) (by_test (eqb d 1) (λ t. rw (t, done_done now u ds)) (λ t. rw (t, done_done now u ds)))

done_other : (v now u : ℕ) (codes : List ℕ) → (u ≡ v → ⊥) → done_notes_of v (notes_of now u codes) ≡ []
unfolding done_notes_of notes_of
done_other v now u [] h = refl
done_other v now u (c ∷ cs) h = rw (ne_eqb u v h) (done_other v now u cs h)

heard_said : (now : ℕ) (ss : List Said) → heard_in (said_notes now ss) ≡ spoken ss
unfolding heard_in said_notes spoken
heard_said now [] = refl
heard_said now (nothing ∷ ss) = heard_said now ss
heard_said now (torn ∷ ss) = rw (heard_said now ss)
heard_said now (heard body ∷ ss) = rw (heard_said now ss)

-- it has no completion
done_said : (v now : ℕ) (ss : List Said) → done_notes_of v (said_notes now ss) ≡ []
unfolding done_notes_of said_notes
done_said v now [] = refl
done_said v now (nothing ∷ ss) = done_said v now ss
done_said v now (torn ∷ ss) = by_test (eqb 0 v) (λ t. rw t (done_said v now ss)) (λ t. rw t (done_said v now ss))
done_said v now (heard body ∷ ss) = by_test (eqb 0 v) (λ t. rw t (done_said v now ss)) (λ t. rw t (done_said v now ss))

-- ---- the notes of a cycle are neither
record Neither (cycle : ℕ → List Note) : Type 0 where
  heard_none : (u : ℕ) → heard_in (cycle u) ≡ []
  done_none : (v u : ℕ) → done_notes_of v (cycle u) ≡ []

module _ (now : ℕ) (c : Cycle) where
  heard_cycle : (u : ℕ) → heard_in (cycle_notes now c u) ≡ []
  unfolding cycle_notes q_notes s_notes heard_in
  heard_cycle u =
      by_test (eqb u 0) (λ t. rw t (by_test (eqb (q_told c) no_q) (λ h. rw h) (λ h. rw h)))
      (λ t. rw t (by_test (eqb (s_told (u - 1) c) 0) (λ h. rw h) (λ h. rw h)))

  done_cycle : (v u : ℕ) → done_notes_of v (cycle_notes now c u) ≡ []
  unfolding cycle_notes q_notes s_notes done_notes_of
  done_cycle v u =
      by_test (eqb u 0)
      (λ t. rw t (by_test (eqb (q_told c) no_q) (λ h. rw h) (λ h. rw h (by_test (eqb 0 v) (λ w. rw w) (λ w. rw w)))))
      (λ t. rw t (by_test (eqb (s_told (u - 1) c) 0) (λ h. rw h) (λ h. rw h (by_test (eqb u v) (λ w. rw w) (λ w. rw w)))))

  cycle_neither : Neither (cycle_notes now c)
  cycle_neither = record { heard_none = heard_cycle; done_none = done_cycle }

-- ---- the terminals, from a unit on
abbrev hearing_notes : (ℕ → List Note) → List ℕ → ℕ → ℕ → List Sender → List Note
hearing_notes cycle down now u ss = unit_by_unit now u cycle (map (hearing_codes down now) ss)

abbrev timer_notes : ℕ → ℕ → List Station → List Note
timer_notes now u ss = unit_by_unit now u no_cycle (map (timer_codes now) ss)

hearing_heard : (cycle : ℕ → List Note) → Neither cycle → (down : List ℕ) (now u : ℕ) (ss : List Sender) → heard_in (hearing_notes cycle down now u ss) ≡ []
unfolding heard_in unit_by_unit
hearing_heard cycle n down now u [] = refl
hearing_heard cycle n down now u (s ∷ ss) =
    let table = noted (terminal_hears down now s.station.terminal).notes in
    let rest = hearing_notes cycle down now (suc u) ss in
    rw (
      heard_append (notes_of now u (done_codes s.done ++ table)) (cycle u ++ rest),
      heard_append (cycle u) rest,
      n.heard_none u,
      notes_of_append now u (done_codes s.done) table,
      heard_append (notes_of now u (done_codes s.done)) (notes_of now u table),
      heard_done now u s.done,
      heard_plain now u table (terminal_hears_plain down now s.station.terminal),
    )
    (hearing_heard cycle n down now (suc u) ss)

timer_heard : (now u : ℕ) (ss : List Station) → heard_in (timer_notes now u ss) ≡ []
unfolding heard_in unit_by_unit
timer_heard now u [] = refl
timer_heard now u (s ∷ ss) =
    let table = noted (terminal.timer now s.terminal).notes in
    rw (heard_append (notes_of now u table) (timer_notes now (suc u) ss), heard_plain now u table (terminal-laws.timer_told now s.terminal))
    (timer_heard now (suc u) ss)

timer_done : (v now u : ℕ) (ss : List Station) → done_notes_of v (timer_notes now u ss) ≡ []
unfolding done_notes_of unit_by_unit
timer_done v now u [] = refl
timer_done v now u (s ∷ ss) =
    let table = noted (terminal.timer now s.terminal).notes in
    rw (done_append v (notes_of now u table) (timer_notes now (suc u) ss), done_plain v now u table (terminal-laws.timer_told now s.terminal))
    (timer_done v now (suc u) ss)

-- units above have no note of this one
module _ (cycle : ℕ → List Note) (n : Neither cycle) where
  hearing_below : (v : ℕ) (down : List ℕ) (now u : ℕ) (ss : List Sender) → v < u → done_notes_of v (hearing_notes cycle down now u ss) ≡ []
  unfolding done_notes_of unit_by_unit
  hearing_below v down now u [] h = refl
  hearing_below v down now u (s ∷ ss) h =
      let codes = done_codes s.done ++ noted (terminal_hears down now s.station.terminal).notes in
      let rest = hearing_notes cycle down now (suc u) ss in
      rw (
        done_append v (notes_of now u codes) (cycle u ++ rest),
        done_append v (cycle u) rest,
        n.done_none v u,
        done_other v now u codes (λ e. omega arith),
      )
      (hearing_below v down now (suc u) ss (omega arith))

abbrev dones_of : List Sender → List (List ℕ)
dones_of ss = map (λ (s : Sender). s.done) ss

hearing_done : (cycle : ℕ → List Note) → Neither cycle → (v : ℕ) (down : List ℕ) (now u : ℕ) (ss : List Sender) (i : ℕ) → v ≡ u + i
    → done_notes_of v (hearing_notes cycle down now u ss) ≡ done_codes (get_or (dones_of ss) i [])
unfolding done_notes_of unit_by_unit done_codes
hearing_done cycle n v down now u [] i e = refl
hearing_done cycle n v down now u (s ∷ ss) zero e =
    let table = noted (terminal_hears down now s.station.terminal).notes in
    let rest = hearing_notes cycle down now (suc u) ss in
    let same : v ≡ u = omega arith in
    rw (
      same,
      done_append u (notes_of now u (done_codes s.done ++ table)) (cycle u ++ rest),
      done_append u (cycle u) rest,
      n.done_none u u,
      notes_of_append now u (done_codes s.done) table,
      done_append u (notes_of now u (done_codes s.done)) (notes_of now u table),
      done_done now u s.done,
      done_plain u now u table (terminal_hears_plain down now s.station.terminal),
      hearing_below cycle n u down now (suc u) ss (omega arith),
      append-nil (done_codes s.done ++ []),
      append-nil (done_codes s.done),
    )
hearing_done cycle n v down now u (s ∷ ss) (suc i) e =
    let codes = done_codes s.done ++ noted (terminal_hears down now s.station.terminal).notes in
    let rest = hearing_notes cycle down now (suc u) ss in
    rw (
      done_append v (notes_of now u codes) (cycle u ++ rest),
      done_append v (cycle u) rest,
      n.done_none v u,
      done_other v now u codes (λ o. omega arith),
    )
    (hearing_done cycle n v down now (suc u) ss i (omega arith))

-- ---- the exchange
dones_hear : (e : Bool) (ss : List Sender) (i : ℕ) → get_or (dones_of (map (hears_e e) ss)) i [] ≡ get_or (dones_of ss) i [] ++ done_of e (get_or (stations_of ss) i fresh_station)
unfolding hears_e done_of
dones_hear e [] i = refl
dones_hear e (s ∷ ss) zero = refl
dones_hear e (s ∷ ss) (suc i) = dones_hear e ss i

dones_onward : (i : ℕ) (m : Opportunity) → get_or (dones_of (onward m).senders) i [] ≡ get_or (dones_of m.senders) i [] ++ done_of (e_comes m) (station_then i m)
unfolding onward senders_after station_then
dones_onward i m = dones_hear (e_comes m) m.senders i

dones_stationed : (ss : List Station) (i : ℕ) → get_or (dones_of (map as_sender ss)) i [] ≡ []
unfolding as_sender
dones_stationed [] i = refl
dones_stationed (s ∷ ss) zero = refl
dones_stationed (s ∷ ss) (suc i) = dones_stationed ss i

dones_begin : (i : ℕ) (b : Bus) → get_or (dones_of (begins b).senders) i [] ≡ []
unfolding begins
dones_begin i b = dones_stationed b.stations i

dones_exchanged : (i : ℕ) (b : Bus) → get_or (dones_of (exchanged b).senders) i [] ≡ completed_in i (opportunities_of b)
unfolding exchanged completed_in opportunities_of
dones_exchanged i b =
    rw (
      dones_onward i (onward (onward (onward (begins b)))),
      dones_onward i (onward (onward (begins b))),
      dones_onward i (onward (begins b)),
      dones_onward i (begins b),
      dones_begin i b,
    )
    (simp (append_assoc, append-nil))

saids_exchanged : (b : Bus) → (exchanged b).saids ≡ said_in (opportunities_of b)
unfolding exchanged said_in opportunities_of onward begins
saids_exchanged b = refl

-- ---- a period
heard_timed : (b : Bus) → heard_in (notes_timed b) ≡ []
unfolding notes_timed
heard_timed b =
    let table = noted (network.timers b.periods b.network).notes in
    rw (
      heard_append (notes_of b.periods 0 table) (timer_notes b.periods 1 b.stations),
      heard_plain b.periods 0 table (network_timers_plain b.periods b.network),
    )
    (timer_heard b.periods 1 b.stations)

done_timed : (v : ℕ) (b : Bus) → done_notes_of v (notes_timed b) ≡ []
unfolding notes_timed
done_timed v b =
    let table = noted (network.timers b.periods b.network).notes in
    rw (
      done_append v (notes_of b.periods 0 table) (timer_notes b.periods 1 b.stations),
      done_plain v b.periods 0 table (network_timers_plain b.periods b.network),
    )
    (timer_done v b.periods 1 b.stations)

module _ (m : Opportunity) (b : Bus) where
  abbrev said : List Note
  said = said_notes b.periods m.saids

  abbrev table : List ℕ
  table = noted (network_hears (whole_up m) b.periods b.network).notes

  abbrev cycle : ℕ → List Note
  cycle = cycle_notes b.periods (cycle_after m)

  abbrev units : List Note
  units = hearing_notes cycle (whole_down m) b.periods 1 m.senders

  neither : Neither cycle
  neither = cycle_neither b.periods (cycle_after m)

  heard_heard : heard_in (notes_heard m b) ≡ spoken m.saids
  unfolding notes_heard
  heard_heard =
      rw (
        heard_append said (notes_of b.periods 0 table ++ (cycle 0 ++ units)),
        heard_append (notes_of b.periods 0 table) (cycle 0 ++ units),
        heard_append (cycle 0) units,
        neither.heard_none 0,
        heard_said b.periods m.saids,
        heard_plain b.periods 0 table (network_hears_plain (whole_up m) b.periods b.network),
        hearing_heard cycle neither (whole_down m) b.periods 1 m.senders,
      )
      (append-nil (spoken m.saids))

  done_heard : (i : ℕ) → done_notes_of (suc i) (notes_heard m b) ≡ done_codes (get_or (dones_of m.senders) i [])
  unfolding notes_heard
  done_heard i =
      rw (
        done_append (suc i) said (notes_of b.periods 0 table ++ (cycle 0 ++ units)),
        done_append (suc i) (notes_of b.periods 0 table) (cycle 0 ++ units),
        done_append (suc i) (cycle 0) units,
        neither.done_none (suc i) 0,
        done_said (suc i) b.periods m.saids,
        done_plain (suc i) b.periods 0 table (network_hears_plain (whole_up m) b.periods b.network),
      )
      (hearing_done cycle neither (suc i) (whole_down m) b.periods 1 m.senders i (omega arith))

pub two_parts : TwoParts
unfolding period_notes notes_heard notes_timed heard_by
two_parts b = refl

heard_period : (b : Bus) → heard_in (period_notes b) ≡ spoken (said_in (opportunities_of b))
heard_period b =
    rw (
      two_parts b,
      heard_append (notes_heard (exchanged b) b) (notes_timed (heard_by (exchanged b) b)),
      heard_timed (heard_by (exchanged b) b),
      append-nil,
      heard_heard (exchanged b) b,
      saids_exchanged b,
    )

done_period : (i : ℕ) (b : Bus) → done_notes_of (suc i) (period_notes b) ≡ done_codes (completed_in i (opportunities_of b))
done_period i b =
    rw (
      two_parts b,
      done_append (suc i) (notes_heard (exchanged b) b) (notes_timed (heard_by (exchanged b) b)),
      done_timed (suc i) (heard_by (exchanged b) b),
      append-nil,
      done_heard (exchanged b) b i,
      dones_exchanged i b,
    )

-- ---- an event
module _ (unit number : ℕ) (value : List ℕ) (b : Bus) where
  -- what follows of an event's notes from what follows of plain ones
  event_plain : (P : List Note → Type 0) → P [] → ((u : ℕ) (codes : List ℕ) → plain codes → P (notes_of b.periods u codes)) → P (event_notes unit number value b)
  unfolding event_notes
  event_plain P none some =
      by_test (eqb unit 0)
      (λ t.
      rw t
      (by_test (eqb number HIT) (λ u. rw u none) (λ u. rw u (some 0 _ (network_does_plain number b.periods b.network)))))
      (λ t.
      rw t
      (by_test (eqb (class_of number) 0)
      (λ u. rw u (some unit _ (terminal_does_plain number b.periods (station_of b unit).terminal)))
      (λ u. rw u none)))

  heard_event : heard_in (event_notes unit number value b) ≡ []
  unfolding heard_in
  heard_event = event_plain (λ ns. heard_in ns ≡ []) refl (heard_plain b.periods)

  done_event : (v : ℕ) → done_notes_of v (event_notes unit number value b) ≡ []
  unfolding done_notes_of
  done_event v = event_plain (λ ns. done_notes_of v ns ≡ []) refl (done_plain v b.periods)

-- ---- every call
pub call_tells : (b : Bus) (c : Call) → Tells b c
unfolding notes tells opportunities_of_call heard_in done_notes_of spoken said_in completed_in done_codes
call_tells b (event unit number value) =
    by_test (eqb (reply b (event unit number value)) 0)
    (λ t. record { heard_or_torn = rw t (heard_event unit number value b); done = λ i. rw t (done_event unit number value b (suc i)) })
    (λ t. record { heard_or_torn = rw t; done = λ i. rw t })
call_tells b period =
    by_test (eqb (reply b period) 0)
    (λ t. record { heard_or_torn = rw t (heard_period b); done = λ i. rw t (done_period i b) })
    (λ t. record { heard_or_torn = rw t; done = λ i. rw t })

pub all_tell : (b : Bus) (calls : List Call) → AllTell b calls
unfolding AllTell
all_tell b [] = tt
all_tell b (c ∷ more) = (call_tells b c, all_tell (after b c) more)
