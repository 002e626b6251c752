-- How the code goes: all terminals at a D opportunity, and the four opportunities of a period. The
-- law `exchange_shown` (Shown.antt) holds it to crate `bus_rules`.
-- Interface: every name. Assumes nothing.
use Rattle.std.specs.Prelude.{List, ℕ}
use Rattle.slice_lemmas.specs.Over.{map_from, fold_from}
use Rattle.terminal.specs.declared.Terminal.{Terminal}
use Rattle.exchange.specs.Tally.{begun, ended}
use Rattle.exchange.specs.Part.{terminal_after_e, tally_with}
use Rattle.exchange.specs.declared.tally.Tally.{Tally}

unfoldable pub tally_after : List ℕ → Tally → List Terminal → Tally
tally_after images m ts = ended (fold_from (tally_with images) 0 (begun m) ts)

unfoldable pub terminals_after : List ℕ → Tally → List Terminal → List Terminal
terminals_after images m ts = map_from (terminal_after_e images (begun m).e) 0 ts

-- "Echo and D go E11, D12, E24, D25, E35, D36, E46, D47"
unfoldable pub tally_after_four : List ℕ → Tally → List Terminal → Tally
tally_after_four images m ts =
    let m2 = tally_after images m ts in
    let ts2 = terminals_after images m ts in
    let m3 = tally_after images m2 ts2 in
    let ts3 = terminals_after images m2 ts2 in
    let m4 = tally_after images m3 ts3 in
    tally_after images m4 (terminals_after images m3 ts3)

unfoldable pub terminals_after_four : List ℕ → Tally → List Terminal → List Terminal
terminals_after_four images m ts =
    let m2 = tally_after images m ts in
    let ts2 = terminals_after images m ts in
    let m3 = tally_after images m2 ts2 in
    let ts3 = terminals_after images m2 ts2 in
    let m4 = tally_after images m3 ts3 in
    terminals_after images m4 (terminals_after images m3 ts3)
