-- Demand 3 on a host's calls: that of crate `bus_rules`, of the calls that they make, and the notes of a part of a list.
use mathlib.Core.List.{List, [], ◌∷◌, ◌++◌, append_assoc}
use mathlib.Core.Path.{◌≡◌, refl, sym, ◌∙◌}
use Prim.Native.Nat.{ℕ}
use Rattle.bus_rules.specs.Bus.{Bus, fresh_bus}
use Rattle.bus_rules.specs.Calls.{after_all, notes_of_all}
use Rattle.bus_rules.specs.Sound.{Sound}
use Rattle.bus_rules.proofs.Sound.{sound_fresh}
use Rattle.bus_rules.proofs.Demand3.{demand3_of_lists, notes_append}
use Rattle.host_bus.specs.Fresh.{fresh_octets}
use Rattle.host_steps.specs.Laws.{HostCall, bus_after, calls_of_host, OctetsCarry, SteppedAll}
use Rattle.host_steps.specs.Demand3.{left_by, made_by, HandBack, AllOctetsGiven, PartHandsBack, Demand3OnHostCalls, Demand3OnHostCallsFrom}
use Rattle.host_steps.proofs.Laws.{ran_append, lists_stepped_from, fresh_carry}

made_append : (s : List ℕ) (xs ys : List HostCall) → made_by s (xs ++ ys) ≡ made_by s xs ++ made_by (left_by s xs) ys
unfolding made_by left_by
made_append s [] ys = refl
made_append s (x ∷ xs) ys =
    rw (made_append (bus_after s x) xs ys)
    (sym (append_assoc (calls_of_host s x) (made_by (bus_after s x) xs) (made_by (left_by (bus_after s x) xs) ys)))

-- octets as values, of the parts of a list
values_parts : (xs ys : List HostCall) → AllOctetsGiven (xs ++ ys) → AllOctetsGiven xs × AllOctetsGiven ys
unfolding AllOctetsGiven
values_parts [] ys v = (tt, v)
values_parts (x ∷ xs) ys v = let p = values_parts xs ys v.1 in ((v.0, p.0), p.1)

-- what the first calls leave, with the calls after them
stepped_after : (b : Bus) (s : List ℕ) (xs ys : List HostCall) → AllOctetsGiven xs → SteppedAll b s (xs ++ ys)
    → SteppedAll (after_all b (made_by s xs)) (left_by s xs) ys
unfolding SteppedAll AllOctetsGiven made_by left_by after_all
stepped_after b s [] ys v a = a
stepped_after b s (x ∷ xs) ys v a =
    rw (ran_append b (calls_of_host s x) (made_by (bus_after s x) xs))
    (stepped_after (after_all b (calls_of_host s x)) (bus_after s x) xs ys v.1 (a.1 v.0).1)

hand_back : (b : Bus) (s : List ℕ) (list : List HostCall) → AllOctetsGiven list → SteppedAll b s list → HandBack s list (notes_of_all b (made_by s list))
unfolding SteppedAll AllOctetsGiven HandBack made_by notes_of_all
hand_back b s [] v a = refl
hand_back b s (x ∷ more) v a =
    let r = a.1 v.0 in (
      notes_of_all b (calls_of_host s x),
      notes_of_all (after_all b (calls_of_host s x)) (made_by (bus_after s x) more),
      notes_append b (calls_of_host s x) (made_by (bus_after s x) more),
      r.0.tells,
      hand_back (after_all b (calls_of_host s x)) (bus_after s x) more v.1 r.1,
    )

part_hands_back : (s : List ℕ) (b : Bus) → OctetsCarry s b → Sound b → (before during after : List HostCall) → AllOctetsGiven (before ++ (during ++ after))
    → PartHandsBack s b before during after
part_hands_back s b o start before during after v =
    let p = values_parts before (during ++ after) v in
    let q = values_parts during after p.1 in
    record {
      in_calls = made_append s before (during ++ after) ∙ rw (made_append (left_by s before) during after);
      notes_of_part =
          hand_back (after_all b (made_by s before)) (left_by s before) during q.0
          (stepped_after b s before during p.0 (lists_stepped_from s b (before ++ during) o start));
    }

pub demand3_on_host_calls_from : Demand3OnHostCallsFrom
demand3_on_host_calls_from s b calls o start v =
    record {
      stepped = lists_stepped_from s b calls o start;
      claims = λ before during after e stretch. demand3_of_lists b start before during after stretch;
      parts = λ before during after e. part_hands_back s b o start before during after (rw e at v);
    }

pub demand3_on_host_calls : Demand3OnHostCalls
demand3_on_host_calls calls v = demand3_on_host_calls_from fresh_octets fresh_bus calls fresh_carry sound_fresh v
