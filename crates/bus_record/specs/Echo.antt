-- How the code goes: what of the downward line the exchange and the terminals' hearing need. A line
-- is built under a hit alone (crate `bus_rules`, specs/Quick.antt). Crate `bus_call_specs`' law
-- `step_shown` holds it to document 01's period.
-- Interface: `letter_at`, `hit_in`, `first_tally`, `built_down`, `heard_down`, `step_tally`,
-- `step_exchanged`, `step_line`. Assumes nothing.
use Rattle.std.specs.Prelude.{Bool, cond, List, ℕ, get_or}
use Rattle.symbols.specs.Calls.{leaves, has_line_length}
use Rattle.frame.specs.declared.fields.Four.{Four}
use Rattle.info.specs.Info.{unset}
use Rattle.combining.specs.Hit.{keep_letter, hit}
use Rattle.combining.specs.Calls.{hit_fits}
use Rattle.heard_line.specs.Sensing.{shown_down}
use Rattle.heard_line.specs.declared.heard.Downward.{Downward}
use Rattle.terminal.specs.declared.Terminal.{Terminal}
use Rattle.bus_rules.specs.Bus.{Hit}
use Rattle.bus_rules.specs.Exchange.{sent_down}
use Rattle.bus_rules.specs.Quick.{shown_by}
use Rattle.exchange.specs.Tally as exchange
use Rattle.exchange.specs.Shown.{letters_at_e}
use Rattle.exchange.specs.Opportunities.{tally_after_four, terminals_after_four}
use Rattle.exchange.specs.declared.tally.Tally.{Tally}
use Rattle.bus_record.specs.declared.record.BusRecord.{BusRecord}

abbrev pub letter_at : List ℕ → ℕ → ℕ
letter_at letters i = get_or letters i keep_letter

-- the hit, where one is pending
unfoldable pub hit_in : Bool → List ℕ → Hit
hit_in pending letters = cond pending (Hit.given letters) Hit.none

unfoldable pub first_tally : BusRecord → List ℕ → Tally
first_tally r letters = exchange.first_tally r.network.state (letters_at_e (hit_in r.hit letters)) r.echo

-- the line that a network end in `state` sends where no cycle runs, written into a line that is lent
unfoldable pub built_down : ℕ → Four → List ℕ → List ℕ
built_down state es line = leaves (has_line_length line) (sent_down unset state es) line

-- the four E that were sent: each echoes the D heard before it
abbrev pub sent_es : BusRecord → Four → Four
sent_es r ds = record { first = r.echo; second = ds.first; third = ds.second; fourth = ds.third }

-- what is heard of the line, where `ds` are the four D heard in the exchange
unfoldable pub heard_down : BusRecord → Four → List ℕ → Downward
heard_down r ds letters =
    let line = sent_down unset r.network.state (sent_es r ds) in
    cond r.hit (shown_down (leaves (hit_fits letters line) (hit letters line) line)) (shown_by r.network.state)

-- ---- A period's exchange over all terminals.
-- the exchange, and the terminals after it
unfoldable pub step_tally : BusRecord → List Terminal → List ℕ → List ℕ → Tally
step_tally bus ts images letters = tally_after_four images (first_tally bus letters) ts

unfoldable pub step_exchanged : BusRecord → List Terminal → List ℕ → List ℕ → List Terminal
step_exchanged bus ts images letters = terminals_after_four images (first_tally bus letters) ts

-- what the terminals hear
unfoldable pub step_line : BusRecord → List Terminal → List ℕ → List ℕ → Downward
step_line bus ts images letters = heard_down bus (step_tally bus ts images letters).ds letters
