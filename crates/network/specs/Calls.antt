-- Calls: the network end's, with refusal 1 before the rules (document 01, "Reasons a call is turned
-- down"). The rules are in specs/Network.antt.
-- Interface: every name. Assumes nothing.
use Rattle.std.specs.Prelude.{Bool, false, cond, ℕ, ◌+◌, ltb}
use Rattle.table_6_3.specs.Table63.{G1, G4}
use Rattle.timing.specs.Counts.{most_periods}
use Rattle.timing.specs.Calls.{periods_in_range}
use Rattle.timing.specs.Timers.{T1, T2}
use Rattle.timing.specs.declared.counts.Periods.{Periods}
use Rattle.alignment.specs.Alignment.{alignment_in_range}
use Rattle.heard_line.specs.declared.heard.Upward.{Upward}
use Rattle.network.specs.Network.{unchanged, requests, timers, hears}
use Rattle.network.specs.declared.Network.{Network}
use Rattle.network.specs.Steps.{NetworkStep}

-- Refusal 1: each field in its range. The latest timer is one started when the last period has been
-- run.
unfoldable pub network_in_range : Network → Bool
network_in_range n =
    cond (ltb n.state G1) false
    (cond (ltb G4 n.state) false
    (cond (ltb (most_periods + T1) n.t1) false
    (cond (ltb (most_periods + T2) n.t2) false (alignment_in_range n.alignment))))

unfoldable pub ready : Periods → Network → Bool
ready now n = cond (network_in_range n) (periods_in_range now) false

-- The calls: refusal 1 for a field outside its range, or a period past the last; else what the
-- rules say.
unfoldable pub checked : (ℕ → Network → NetworkStep) → Periods → Network → NetworkStep
checked step now n = cond (ready now n) (step now.0 n) (unchanged 1 n)

abbrev pub request_call : ℕ → Periods → Network → NetworkStep
request_call event now n = checked (requests event) now n

abbrev pub timer_call : Periods → Network → NetworkStep
timer_call now n = checked timers now n

abbrev pub hear_call : Upward → Periods → Network → NetworkStep
hear_call line now n = checked (hears line) now n
