-- Laws: a cycle of Q and S bits (document 02, 2.1) on a bus that no list of calls leads to yet,
-- computed by the rules' own lines of 48 symbols: what crosses the line, under a hit too, is noted
-- at the cycle's end.
-- Interface: none but for laws and proofs. Assumes nothing.
use Rattle.std.specs.Prelude.{◌≡◌, refl, true, List, [], ◌∷◌, ◌++◌, ℕ, replicate}
use Rattle.combining.specs.Hit.{keep_letter, minus_letter, none_letter}
use Rattle.cycle.specs.Cycle as cycle
use Rattle.cycle.specs.declared.record.Cycle.{Cycle}
use Rattle.hdlc.specs.Reading.{cleared}
use Rattle.dchannel.specs.Access as access
use Rattle.notes_and_cells.specs.Events.{HIT}
use Rattle.notes_and_cells.specs.Notes.{ph_deact, mph_deact, mph_ei, Q, S}
use Rattle.table_6_2.specs.Table62.{F6, F7}
use Rattle.table_6_3.specs.Table63.{G3}
use Rattle.alignment.specs.Alignment.{in_alignment}
use Rattle.network.specs.declared.Network.{Network}
use Rattle.terminal.specs.Terminal as terminal
use Rattle.bus_rules.specs.Bus.{Station, Bus, fresh_bus, with_network, with_cycle, with_stations}
use Rattle.bus_rules.specs.Calls.Call.{event, period}
use Rattle.bus_rules.specs.Scenes.{handed_back, periods, note}

-- a bus in G3 with these terminals, all aligned, and a cycle
abbrev in_g3 : Network
in_g3 = record { t1 = 0; t2 = 0; state = G3; alignment = in_alignment 0 }

abbrev station_in : ℕ → Station
station_in state =
    record { terminal = terminal.with_fields 0 access.fresh state (in_alignment 0) terminal.fresh; image = []; body = [] }

abbrev activated : List Station → Cycle → Bus
activated ss c = with_network in_g3 cleared (with_cycle c (with_stations ss fresh_bus))

-- a hit that makes the downward FA a pulse, and leaves all else
abbrev at_fa : List ℕ
at_fa = replicate 13 keep_letter ++ (minus_letter ∷ replicate 34 keep_letter)

-- Terminal 1 has the Q message 15, terminal 2 has 7, the network end has the S message 524,289. In
-- period 6 the hit leaves the terminals a FA of 0, so that they send 0 for Q bit 2: the network end
-- receives 3, which is 0011, of 0111. Both terminals receive S as it was given. The notes have the
-- cycle's period 20, unit by unit.
pub one_cycle :
    handed_back (activated (station_in F7 ∷ station_in F7 ∷ []) (cycle.s_given 524289 (cycle.q_given 1 7 (cycle.q_given 0 15 cycle.fresh))))
    (periods 5 (event 0 HIT at_fa ∷ periods 15 []))
    ≡ note 19 0 Q (3 ∷ []) ∷ note 19 1 S (1 ∷ 0 ∷ 8 ∷ []) ∷ note 19 2 S (1 ∷ 0 ∷ 8 ∷ []) ∷ []
unfolding handed_back cycle.q_given cycle.s_given cycle.begun cycle.is_q cycle.q_bit cycle.s_shifted cycle.q_shifted cycle.next_place
    cycle.q_after cycle.s_after cycle.moved_on
one_cycle = refl

-- a cycle before its last period: terminal 2 alone was in F7 at all exchanges so far, the network end
-- in G3; S was heard at 0 but for the last bit, Q as 0111
abbrev before_last : Cycle
before_last = record {
  swaiting = 0;
  ssent = 0;
  sheard = 1;
  qwaiting = cycle.no_messages;
  qsent = cycle.no_messages;
  qheard = 7;
  f7 = 2;
  place = 19;
  running = true;
  g3 = true;
}

-- In the last period a hit leaves no pulse: S is heard at 1 after the hit, 3 in all, and the terminals
-- leave F6 and F7 as they hear. "They come after that unit's other notes", and what hearing does to
-- a state does not matter: terminal 2 is told, terminal 1 in F6 is not.
pub last_period :
    handed_back (activated (station_in F6 ∷ station_in F7 ∷ []) before_last) (event 0 HIT (replicate 48 none_letter) ∷ period ∷ [])
    ≡ note 0 0 Q (7 ∷ [])
    ∷ note 0 1 mph_deact []
    ∷ note 0 1 ph_deact []
    ∷ note 0 2 mph_deact []
    ∷ note 0 2 ph_deact []
    ∷ note 0 2 S (3 ∷ 0 ∷ 0 ∷ [])
    ∷ []
unfolding handed_back cycle.begun cycle.is_q cycle.q_bit cycle.s_shifted cycle.q_shifted cycle.next_place cycle.q_after cycle.s_after
    cycle.moved_on
last_period = refl

-- With nobody there the network end hears INFO 0, and leaves G3 as it hears: it is told all the same,
-- behind its other notes.
pub last_alone :
    handed_back (activated [] before_last) (period ∷ [])
    ≡ note 0 0 mph_deact [] ∷ note 0 0 mph_ei [] ∷ note 0 0 Q (7 ∷ []) ∷ []
unfolding handed_back cycle.begun cycle.is_q cycle.q_bit cycle.s_shifted cycle.q_shifted cycle.next_place cycle.q_after cycle.s_after
    cycle.moved_on
last_alone = refl
