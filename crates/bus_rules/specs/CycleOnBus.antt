-- Laws: the bus runs the cycle of crate `cycle`, with what crosses its lines (document 02, 2.1): so
-- that crate's laws about what is sent, received and told are laws about the bus. The statements are
-- types; `proofs/CycleOnBus.antt` proves each under the same name in small letters.
-- Interface: none but for laws and proofs. Assumes nothing.
use Rattle.std.specs.Prelude.{◌≡◌, Bool, false, List, map, ℕ, eqb, length, get_or}
use Rattle.symbols.specs.Symbols.{levels}
use Rattle.frame.specs.Bits.{fa_bit}
use Rattle.frame.specs.Down.{s_bit}
use Rattle.cycle.specs.Cycle.{has_bit, joint_fa}
use Rattle.cycle.specs.Periods as cycles
use Rattle.cycle.specs.Periods.{Heard}
use Rattle.notes_and_cells.specs.Cells.{info_in}
use Rattle.table_6_2.specs.Table62 as Table62
use Rattle.table_6_3.specs.Table63.{G3}
use Rattle.bus_rules.specs.Bus.{Station, Bus, terminals}
use Rattle.bus_rules.specs.Exchange.{Opportunity, stations_of, in_f7, exchanged, whole_down, fa_down, whole_up}
use Rattle.bus_rules.specs.Period.{mask_of, period_run}
use Rattle.bus_rules.specs.Event.{event_done}

-- What a period hears for the cycle: the upward FA and the downward S of the whole lines, after the
-- hit; who is in G3 and in F7 as the exchange begins, whatever hearing makes of it.
abbrev pub heard_on : Bus → Heard
heard_on b =
    record {
      fa = fa_bit (levels (whole_up (exchanged b)));
      s = s_bit (levels (whole_down (exchanged b)));
      g3 = eqb b.network.state G3;
      f7 = mask_of in_f7 b.stations;
    }

abbrev pub CycleGoesOn : Type 0
CycleGoesOn = (b : Bus) → (period_run b).cycle ≡ cycles.period (heard_on b) b.cycle

-- A mask has the terminal at an index where the test holds of it.
abbrev pub MaskHas : Type 0
MaskHas = (test : Station → Bool) (ss : List Station) (i : ℕ) → has_bit (mask_of test ss) i ≡ get_or (map test ss) i false

-- The upward FA is the AND of the FA of those that send INFO 3, as crate `cycle` has it for a mask.
abbrev pub sends_info3 : Station → Bool
sends_info3 s = eqb (info_in Table62.info_sent s.terminal.state) 3

abbrev pub JointOnBus : Type 0
JointOnBus =
    (m : Opportunity) → length (stations_of m.senders) ≡ terminals
    → fa_bit (levels (whole_up m)) ≡ joint_fa (fa_down m) (mask_of sends_info3 (stations_of m.senders)) m.cycle

-- No event of document 01 gives or takes a message, or moves the cycle: `off`, `dr` and whatever else
-- leaves F7 or G3 do not.
abbrev pub EventKeepsCycle : Type 0
EventKeepsCycle = (unit number : ℕ) (value : List ℕ) (b : Bus) → (event_done unit number value b).cycle ≡ b.cycle
