-- Laws: demand 3 on a host's calls (document 01, "Lists and stretches"; crate `bus_rules`,
-- specs/Claims.antt): what `bus_call_specs` claims of the engine's calls (specs/Demand3.antt
-- there), of the calls on a bus that is lent as octets. Proved in proofs/Demand3.antt.
-- Interface: none but for laws and proofs. Assumes nothing.
use Rattle.std.specs.Prelude.{List, [], ◌∷◌, ◌++◌, ◌≡◌, ℕ}
use Rattle.bus_rules.specs.Bus.{Bus, Note, fresh_bus}
use Rattle.bus_rules.specs.Calls.{Call, after_all, notes_of_all}
use Rattle.bus_rules.specs.Stretch.{Stretch}
use Rattle.bus_rules.specs.Claims.{Claimed}
use Rattle.bus_rules.specs.Sound.{Sound}
use Rattle.host_bus.specs.Fresh.{fresh_octets}
use Rattle.host_steps.specs.Laws.{HostCall, bus_after, calls_of_host, HandsBack, OctetsCarry, OctetsGiven, SteppedAll}

-- the octets that a list of a host's calls leaves, and the calls of document 01 that it makes
unfoldable pub left_by : List ℕ → List HostCall → List ℕ
left_by s [] = s
left_by s (x ∷ more) = left_by (bus_after s x) more

unfoldable pub made_by : List ℕ → List HostCall → List Call
made_by s [] = []
made_by s (x ∷ more) = calls_of_host s x ++ made_by (bus_after s x) more

-- the notes that they hand back, one call's behind the other's
unfoldable pub HandBack : List ℕ → List HostCall → List Note → Type 0
HandBack s [] notes = notes ≡ []
HandBack s (x ∷ more) notes =
    (first : List Note) × (rest : List Note) × (notes ≡ first ++ rest) × HandsBack s x first × HandBack (bus_after s x) more rest

unfoldable pub AllOctetsGiven : List HostCall → Type 0
AllOctetsGiven [] = Unit
AllOctetsGiven (x ∷ more) = OctetsGiven x × AllOctetsGiven more

-- What holds of a part `during` of a host's list, the first call of which finds octets s that stand
-- for the bus b: it makes a part of the list of document 01's calls, and hands back exactly the
-- notes that the rules give for it.
pub record PartHandsBack (s : List ℕ) (b : Bus) (before during after : List HostCall) : Type 0 where
  pub in_calls : made_by s (before ++ (during ++ after))
      ≡ made_by s before ++ (made_by (left_by s before) during ++ made_by (left_by (left_by s before) during) after)
  pub notes_of_part :
      HandBack (left_by s before) during (notes_of_all (after_all b (made_by s before)) (made_by (left_by s before) during))

-- What holds of a host's list: each call is as the rules have it; the sentences of demand 3 hold of
-- every stretch of the calls that it makes, also of one that begins or ends inside a run; and its
-- parts hand back their notes.
pub record ClaimedOnHostCalls (s : List ℕ) (b : Bus) (calls : List HostCall) : Type 0 where
  pub stepped : SteppedAll b s calls
  pub claims : (before during after : List Call) → made_by s calls ≡ before ++ (during ++ after)
      → Stretch (after_all b before) during
      → Claimed b before during after
  pub parts : (before during after : List HostCall) → calls ≡ before ++ (during ++ after) → PartHandsBack s b before during after

-- on the octets of a fresh bus
abbrev pub Demand3OnHostCalls : Type 0
Demand3OnHostCalls = (calls : List HostCall) → AllOctetsGiven calls → ClaimedOnHostCalls fresh_octets fresh_bus calls

-- on octets that stand for a sound bus (crate `bus_rules`, specs/Sound.antt)
abbrev pub Demand3OnHostCallsFrom : Type 0
Demand3OnHostCallsFrom =
    (s : List ℕ) (b : Bus) (calls : List HostCall) → OctetsCarry s b → Sound b → AllOctetsGiven calls → ClaimedOnHostCalls s b calls
