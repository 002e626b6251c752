-- Laws: "Books without these events run without the cycle and print the same reports" (document 02,
-- 2.1): no call starts the cycle yet, and where it does not run the lines and the notes are
-- document 01's. The statements are types; `proofs/Off.antt` proves each under the same name in
-- small letters.
-- Interface: none but for laws and proofs. Assumes nothing.
use Rattle.std.specs.Prelude.{◌≡◌, false, cond, List, [], map, ℕ, eqb}
use Rattle.frame.specs.Four.{filled_with_ones}
use Rattle.frame.specs.declared.fields.Four.{Four}
use Rattle.info.specs.Info.{info0, info1, info2, info3, info4}
use Rattle.combining.specs.Combine.{combined}
use Rattle.notes_and_cells.specs.Cells.{info_in}
use Rattle.table_6_2.specs.Table62 as Table62
use Rattle.table_6_3.specs.Table63 as Table63
use Rattle.bus_rules.specs.Bus.{Bus}
use Rattle.bus_rules.specs.Exchange.{Sender, Opportunity, struck_by, exchanged, whole_down, whole_up}
use Rattle.bus_rules.specs.Period.{heard_by_unit}
use Rattle.bus_rules.specs.Calls.{Call, after_all}

-- No call starts the cycle: after every list of calls it is as it was.
abbrev pub CycleStaysOff : Type 0
CycleStaysOff = (b : Bus) (calls : List Call) → b.cycle.running ≡ false → (after_all b calls).cycle ≡ b.cycle

-- Document 01's lines: INFO 0, INFO 2 and INFO 4 downward, INFO 0, INFO 1 and INFO 3 upward, FA, M and
-- S at 0.
abbrev pub down_off : ℕ → Four → List ℕ
down_off state es =
    let info = info_in Table63.info_sent state in
    cond (eqb info 4) (info4 es) (cond (eqb info 2) info2 info0)

abbrev pub up_off : Sender → List ℕ
up_off s =
    let info = info_in Table62.info_sent s.station.terminal.state in
    cond (eqb info 3) (info3 (filled_with_ones s.ds)) (cond (eqb info 1) info1 info0)

-- the two whole lines of the exchange m, and the notes of the cycle, of which there are none
pub record LinesOff (b : Bus) (m : Opportunity) : Type 0 where
  pub down : whole_down m ≡ struck_by b.hit (down_off b.network.state (filled_with_ones m.es))
  pub up : whole_up m ≡ combined (map up_off m.senders)
  pub untold : (unit : ℕ) → (heard_by_unit m b).cycle unit ≡ []

abbrev pub OffLines : Type 0
OffLines = (b : Bus) → b.cycle.running ≡ false → LinesOff b (exchanged b)
