-- Laws: every field of the bus in its range: what reason 1 of document 01, "Reasons a call is
-- turned down", asks of a record; and what the record counts.
-- Interface: none but for laws and proofs. Assumes nothing.
use Rattle.std.specs.Prelude.{Bool, true, cond, List, [], ◌∷◌, ◌≡◌, ℕ, ◌+◌, ◌*◌, ◌≤◌, eqb, length, get_or}
use Rattle.symbols.specs.Symbols.{line_length, fits}
use Rattle.combining.specs.Hit.{none_letter}
use Rattle.cycle.specs.Cycle.{cycle_in_range}
use Rattle.table_6_3.specs.Table63.{G3}
use Rattle.timing.specs.Counts.{most_periods}
use Rattle.network.specs.Calls.{network_in_range}
use Rattle.terminal.specs.Calls.{terminal_in_range}
use Rattle.bus_rules.specs.Bus.{Hit, Bus, terminals, fresh_station}
use Rattle.bus_rules.specs.Bus.Hit.{none, given}
use Rattle.bus_rules.specs.Calls.{Call, reply, after}
use Rattle.bus_rules.specs.Calls.Call.{event, period}

-- 48 letters, each keep, plus, minus or none
abbrev pub hit_in_range : Hit → Bool
hit_in_range none = true
hit_in_range (given letters) = fits line_length none_letter letters

pub record InRange (b : Bus) : Type 0 where
  -- a period past the last is refused by 9
  pub periods_fit : b.periods ≤ most_periods
  -- at most four for each period run
  pub opportunities_fit : b.opportunities ≤ 4 * b.periods
  pub network_fits : network_in_range b.network ≡ true
  pub hit_fits_lem : hit_in_range b.hit ≡ true
  pub cycle_fits : cycle_in_range b.cycle ≡ true
  pub eight : length b.stations ≡ terminals
  -- by index: past the last stands a fresh one, which is in range
  pub terminals_fit : (i : ℕ) → terminal_in_range (get_or b.stations i fresh_station).terminal ≡ true

-- "The record counts periods run and D opportunities run, four for each period whose lines leave
-- the network end in G3": how many periods a call runs, and how many of them with the network end
-- in G3
unfoldable pub runs : Bus → Call → ℕ
runs b (event unit number value) = 0
runs b period = cond (eqb (reply b period) 0) 1 0

unfoldable pub runs_in_g3 : Bus → Call → ℕ
runs_in_g3 b c = cond (eqb b.network.state G3) (runs b c) 0

-- over a list of calls
unfoldable pub periods_run : Bus → List Call → ℕ
periods_run b [] = 0
periods_run b (c ∷ more) = runs b c + periods_run (after b c) more

unfoldable pub periods_in_g3 : Bus → List Call → ℕ
periods_in_g3 b [] = 0
periods_in_g3 b (c ∷ more) = runs_in_g3 b c + periods_in_g3 (after b c) more
