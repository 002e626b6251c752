-- How far all terminals allow, as a fold over them.
use Rattle.std.proofs.Common.{◌≡◌, List, ℕ, fold, refl, ap}
use Rattle.slice_lemmas.proofs.Over.{folded}
use Rattle.terminal.specs.declared.Terminal.{Terminal}
use Rattle.bus_record.specs.declared.record.BusRecord.{BusRecord}
use Rattle.idle_periods.specs.Still.{first_ahead, also_ahead, reached, reach}

pub reach_gathered : (b : BusRecord) (ts : List Terminal) (left : ℕ) → reach b ts left ≡ reached b.network (fold (also_ahead 0) (first_ahead b left) ts)
unfolding reach also_ahead
reach_gathered b ts left = ap (reached b.network) (folded also_ahead (also_ahead 0) (λ i a t. refl) 0 (first_ahead b left) ts)
