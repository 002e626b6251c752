-- The number of the reason that the checks before a run give is the one that their definition gives.
use Rattle.std.proofs.Common.{◌≡◌, ℕ, Bool, true, false, cond, ◌&&◌, ltb, List, refl}
use Rattle.refusals.specs.Numbers.{unless_refused}
use Rattle.bus_record.specs.declared.record.BusRecord.{BusRecord}
use Rattle.timing.specs.Calls.{all_run}
use Rattle.bus_record.specs.Record.{record_in_range}
use Rattle.bus_call_specs.specs.Ready.{lent_fits, run_reason}
use Rattle.bus_calls.specs.Replies.{reply_number}

abbrev first_of : Bool → Bool → Bool → ℕ
first_of a b c = cond a (cond b (cond c 9 0) 2) 1

number_of : (a b c : Bool) → reply_number (unless_refused (first_of a b c) (tt {0})) ≡ first_of a b c
number_of false b c = refl
number_of true false c = refl
number_of true true true = refl
number_of true true false = refl

pub replied : (ready : Bool) (bus : BusRecord) (images octets : ℕ) (letters : List ℕ) (notes most : ℕ)
    → reply_number (unless_refused (run_reason ready bus images octets letters notes most) (tt {0}))
    ≡ run_reason ready bus images octets letters notes most
unfolding run_reason
replied ready bus images octets letters notes most =
    number_of (ready && record_in_range bus) (lent_fits images octets letters notes) (ltb 0 most && all_run bus.periods)
