-- Rules: demand 3: one claim about every list of calls from the fresh bus and every stretch of it.
-- Opportunity t is the one at place t, from 0, of the stretch's D opportunities; terminal i is unit
-- i + 1. Sentences in quotation marks are document 01's, or demand 3's, which docs/STATEMENTS.md
-- has in full. Each is said of a stretch and the bus where it starts; so the same is claimed of
-- lists from other buses, too (Sound.antt).
-- Interface: `Demand3`, `Claimed`, `ClaimedFrom`, `ClaimedOfLists`. Assumes nothing.
use Rattle.std.specs.Prelude.{List, [], ◌++◌, ◌≡◌, true, ℕ, zero, suc, ◌+◌, ◌*◌, ◌≤◌, ◌<◌, length, get_or}
use Rattle.hdlc.specs.Image.{image}
use Rattle.dchannel.specs.Access.{normal1}
use Rattle.hdlc.specs.Reading.{cleared}
use Rattle.hdlc.specs.Reading.Said.{torn, heard}
use Rattle.cycle.specs.Cycle as cycle
use Rattle.bus_rules.specs.Bus.{Hit, Bus, fresh_bus}
use Rattle.bus_rules.specs.Exchange.{Opportunity, said_to}
use Rattle.bus_rules.specs.Calls.{Call, after_all, notes_of_all}
use Rattle.bus_rules.specs.Stretch.{Stretch, opportunities_in, station_then, Waits, Completes, Begins, body_heard, body_completed}
use Rattle.bus_rules.specs.Stretch.{buses, powered_in, longest_in}
use Rattle.bus_rules.specs.Telling.{AllTell}

-- what stands at a place past the end of a list of D opportunities
abbrev pub nowhere : Opportunity
nowhere =
    record { network = 0; hit = Hit.none; cycle = cycle.fresh; senders = []; es = []; heard_d = true; reading = cleared; saids = [] }

-- opportunity t of a list of them
abbrev pub at : List Opportunity → ℕ → Opportunity
at ms t = get_or ms t nowhere

-- The bus where a stretch starts, the calls in it, and its D opportunities.
module _ (start : Bus) (during : List Call) where
  abbrev pub opps : List Opportunity
  opps = opportunities_in start during

  -- "no rival completes two frames of one class while an activated terminal waits at that class's
  -- normal level": j is the rival, i waits in class k, with the same frame, at both completions and
  -- at every D opportunity between
  abbrev pub NoRivalTwice : Type 0
  NoRivalTwice =
      (i j k p q : ℕ) → (i ≡ j → ⊥) → 1 ≤ k → p < q → q < length opps →
      Completes k j (at opps p) → Completes k j (at opps q) →
      ((t : ℕ) → p ≤ t → t ≤ q → Waits k i (at opps t)) →
      ((t : ℕ) → p ≤ t → t < q → Completes k i (at opps t) → ⊥) →
      ⊥

  -- the frame of class k that terminal i holds at opportunity p is completed at one of the `bound`
  -- opportunities from p on
  pub record CompletedWithin (k i p bound : ℕ) : Type 0 where
    pub when : ℕ
    pub since : p ≤ when
    pub within : when < p + bound
    pub completed : Completes k i (at opps when)
    -- it is the frame held at p
    pub same_frame : (t : ℕ) → p ≤ t → t < when → Completes k i (at opps t) → ⊥
    pub same_body : (station_then i (at opps when)).body ≡ (station_then i (at opps p)).body

  -- "(n + 1) times (L + 8)"
  abbrev pub wait_bound : ℕ
  wait_bound = (powered_in (buses start during) + 1) * (longest_in (buses start during) + normal1)

  -- "In class 1, if the stretch lasts that long, a frame so waiting is completed within (n + 1)
  -- times (L + 8) D opportunities, counted from the first of the stretch at which it so waits": p
  -- is any opportunity at which it so waits, and so also the first. From a later one on no more is
  -- claimed: the rest of a stretch is a stretch, and there p is the first.
  abbrev pub WaitEnds : Type 0
  WaitEnds = (i p : ℕ) → Waits 1 i (at opps p) → p + wait_bound ≤ length opps → CompletedWithin 1 i p wait_bound

  -- No sending stops inside its opening flag: that of a sending begun at opportunity p leaves at p
  -- to p + 7, and at each of its echoes the sending goes on.
  abbrev pub NoStopInFlag : Type 0
  NoStopInFlag =
      (j p s : ℕ) → Begins j (at opps p) → s ≤ 9 → p + s < length opps → (station_then j (at opps (p + s))).terminal.access.sent ≡ s

  -- the frame that terminal j completes at opportunity u was begun at p or later, as many
  -- opportunities before u as its image has bits
  pub record BegunSince (p j u : ℕ) : Type 0 where
    pub when : ℕ
    pub since : p ≤ when
    pub begins : Begins j (at opps when)
    pub same_body : (station_then j (at opps when)).body ≡ (station_then j (at opps u)).body
    pub bits_since : when + length (image (station_then j (at opps u)).body) ≡ u

  -- What is heard at opportunity t's D and completed at the next one's E. At one D one body is
  -- heard at most, so "It is heard once" needs no words of its own.
  pub record HeardWhole (p t : ℕ) : Type 0 where
    -- "A body is heard at its D exactly when a frame with that body is completed at the next one's
    -- E"
    pub heard_completed : (body : List ℕ) → said_to (at opps t) ≡ heard body →
        (j : ℕ) × (k : ℕ) × (1 ≤ k) × Completes k j (at opps (t + 1)) × ((station_then j (at opps (t + 1))).body ≡ body)
    -- .. and "all frames completed there have that body"
    pub completed_heard : (j k : ℕ) → 1 ≤ k → Completes k j (at opps (t + 1)) →
        said_to (at opps t) ≡ heard (station_then j (at opps (t + 1))).body
    -- ".. and were begun in the stretch"
    pub begun : (j k : ℕ) → 1 ≤ k → Completes k j (at opps (t + 1)) → BegunSince p j (t + 1)
    -- "nothing is torn"
    pub not_torn : said_to (at opps t) ≡ torn → ⊥

  -- "Take each D opportunity after the last bit of the first opening flag begun in the stretch, up
  -- to the stretch's last but one": p is any opportunity at which a frame is begun, the first one
  -- included, and that flag's last bit leaves at p + 7 (NoStopInFlag)
  abbrev pub HeardInOrder : Type 0
  HeardInOrder = (j p t : ℕ) → Begins j (at opps p) → p + 7 < t → t + 1 < length opps → HeardWhole p t

  -- The same in demand 3's words. "Every frame begun and completed in it is heard whole": one that
  -- terminal j has begun at opportunity p, or anew since then, and completes at the E of
  -- opportunity t + 1 is heard at the D before, which is its last bit.
  abbrev pub BegunHeard : Type 0
  BegunHeard =
      (j k p t : ℕ) → 1 ≤ k → p ≤ t → t + 1 < length opps →
      Begins j (at opps p) → Completes k j (at opps (t + 1)) →
      said_to (at opps t) ≡ heard (station_then j (at opps (t + 1))).body

  -- the bodies heard at opportunity t and those after it, n in all; the bodies of the frames
  -- completed at them
  unfoldable pub heard_from : ℕ → ℕ → List (List ℕ)
  heard_from t zero = []
  heard_from t (suc n) = body_heard (at opps t) ++ heard_from (t + 1) n

  unfoldable pub completed_from : ℕ → ℕ → List (List ℕ)
  completed_from t zero = []
  completed_from t (suc n) = body_completed (at opps t) ++ completed_from (t + 1) n

  -- ".. in order, equal ones sent together as one; between the first opening flag begun in it and
  -- the last completion nothing else is heard": after the flag of a frame begun at p, the bodies
  -- heard are those completed, in the same order, each one opportunity before
  abbrev pub HeardAsCompleted : Type 0
  HeardAsCompleted = (j p n : ℕ) → Begins j (at opps p) → p + 8 + n < length opps → heard_from (p + 8) n ≡ completed_from (p + 9) n

-- What is claimed of a stretch `during` from the bus `start`.
pub record ClaimedFrom (start : Bus) (during : List Call) : Type 0 where
  -- its calls hand back the notes that its opportunities have
  pub told : AllTell start during
  -- the three sentences
  pub no_rival_twice : NoRivalTwice start during
  pub wait_ends : WaitEnds start during
  pub heard_in_order : HeardInOrder start during
  -- the third once more, in demand 3's own words
  pub begun_heard : BegunHeard start during
  pub heard_as_completed : HeardAsCompleted start during
  -- it rests on where a flag's last bit leaves
  pub no_stop_in_flag : NoStopInFlag start during

-- "A stretch is any unbroken part of the list": its D opportunities and its notes are a part of the
-- whole list's, from the bus b on
pub record PartOfList (b : Bus) (before during after : List Call) : Type 0 where
  pub in_opportunities : opportunities_in b (before ++ (during ++ after))
      ≡ opportunities_in b before
      ++ (opportunities_in (after_all b before) during ++ opportunities_in (after_all (after_all b before) during) after)
  pub in_notes : notes_of_all b (before ++ (during ++ after))
      ≡ notes_of_all b before
      ++ (notes_of_all (after_all b before) during ++ notes_of_all (after_all (after_all b before) during) after)

-- What is claimed of a stretch `during` of the list `before`, `during`, `after` from the bus b.
pub record Claimed (b : Bus) (before during after : List Call) : Type 0 where
  pub part_of_list : PartOfList b before during after
  pub of_stretch : ClaimedFrom (after_all b before) during

-- .. and of every list of calls from b and every stretch of it
abbrev pub ClaimedOfLists : Bus → Type 0
ClaimedOfLists b = (before during after : List Call) → Stretch (after_all b before) during → Claimed b before during after

-- Demand 3: "The list starts with a fresh bus".
abbrev pub Demand3 : Type 0
Demand3 = ClaimedOfLists fresh_bus
