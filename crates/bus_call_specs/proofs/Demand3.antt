-- Demand 3 on the calls: that of crate `bus_rules`, whose lists of calls these are, and the notes of a part of a list.
use mathlib.Core.List.{List, [], ◌∷◌, ◌++◌}
use Rattle.bus_rules.specs.Bus.{fresh_bus}
use Rattle.bus_rules.proofs.Sound.{sound_fresh}
use Rattle.bus_rules.proofs.Demand3.{demand3_of_lists}
use Rattle.bus_call_specs.specs.Lists.{LentCall, fresh_found, made, AllAdmitted}
use Rattle.bus_call_specs.specs.Demand3.{Demand3OnCallsFrom, Demand3OnCalls}
use Rattle.bus_call_specs.proofs.Lists.{lists_carried_from, same_all, fresh_carries}

-- what the parts of a list may hold
parts_admitted : (xs ys : List LentCall) → AllAdmitted (xs ++ ys) → AllAdmitted xs × AllAdmitted ys
unfolding AllAdmitted
parts_admitted [] ys m = (tt, m)
parts_admitted (x ∷ xs) ys m = let p = parts_admitted xs ys m.1 in ((m.0, p.0), p.1)

pub demand3_on_calls_from : Demand3OnCallsFrom
demand3_on_calls_from k b c start before during later m stretch =
    let p = parts_admitted before (during ++ later) m in
    let q = parts_admitted during later p.1 in
    let all = lists_carried_from k b (before ++ (during ++ later)) c start in
    record {
      claims = demand3_of_lists b start (made before) (made during) (made later) stretch;
      carried = all;
      notes_of_stretch = (same_all _ _ during later q.0 (same_all k b before (during ++ later) p.0 all).1).0;
    }

pub demand3_on_calls : Demand3OnCalls
demand3_on_calls images octets letters i o l =
    demand3_on_calls_from (fresh_found images octets letters) fresh_bus (fresh_carries images octets letters i o l) sound_fresh
