-- Laws: what holds of the terminals together after every list of calls, because they hear the same
-- line: the statements, each a type. `proofs/Apart.antt` proves each under the same name in small
-- letters.
-- Interface: none but for laws and proofs. Assumes nothing.
use Rattle.std.specs.Prelude.{◌≡◌, false, ◌&&◌, List, ℕ, eqb}
use Rattle.table_6_2.specs.Table62.{F1}
use Rattle.table_6_2.specs.States.{in_f6_or_f7}
use Rattle.bus_rules.specs.Bus.{fresh_bus, station_at}
use Rattle.bus_rules.specs.Calls.{Call, after_all}
use Rattle.bus_rules.specs.Exchange.{any_info1, any_info3}

-- A powered terminal is aligned exactly in F6 and F7.
abbrev pub AlwaysTogether : Type 0
AlwaysTogether =
    (calls : List Call) (i : ℕ) →
    let t = (station_at i (after_all fresh_bus calls)).terminal in
    eqb t.state F1 ≡ false → in_f6_or_f7 t.state ≡ t.alignment.aligned

-- INFO 1 is never sent beside INFO 3.
abbrev pub Info1Apart : Type 0
Info1Apart = (calls : List Call) → (any_info1 (after_all fresh_bus calls).stations && any_info3 (after_all fresh_bus calls).stations)
    ≡ false
