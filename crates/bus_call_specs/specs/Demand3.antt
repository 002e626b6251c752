-- Laws: demand 3 on the calls (document 01, "Lists and stretches"): "Demand 3 is a single claim
-- about the whole list of such calls and not one for each. The list starts with a fresh bus and its
-- eight terminal records; every call, refused or not, gets what the one before left, and nobody
-- else writes record or slice between."
-- Interface: none but for laws and proofs. Assumes nothing.
use Rattle.std.specs.Prelude.{true, List, ◌++◌, ◌≡◌, ℕ, ◌≤◌, length}
use Rattle.hdlc.specs.Image.{longest_body}
use Rattle.bus_rules.specs.Bus.{Bus, fresh_bus}
use Rattle.bus_rules.specs.Calls.{after_all, notes_of_all}
use Rattle.bus_rules.specs.Stretch.{Stretch}
use Rattle.bus_rules.specs.Claims.{Claimed}
use Rattle.bus_rules.specs.Sound.{Sound}
use Rattle.bus_event.specs.Event.{images_room, are_letters}
use Rattle.bus_call_specs.specs.Kept.{Kept}
use Rattle.bus_call_specs.specs.Lists.{Carries, LentCall, Same, fresh_found, made, left_all, notes_of_calls, AllAdmitted}

-- What is claimed of a stretch `during` of the list `before`, `during`, `after` of calls, the first
-- of which finds k, that stands for the bus b. Calls that are not lent what they must be stand in
-- the list, too: the rules refuse them with 1 or 2, and then there are no notes and no change, so
-- that the sentences are about the others (specs/Lists.antt `reply_to`, `made`).
pub record ClaimedOnCalls (k : Kept) (b : Bus) (before during after : List LentCall) : Type 0 where
  -- the sentences of demand 3, of the bus that document 01's rules give for the same calls
  pub claims : Claimed b (made before) (made during) (made after)
  -- each call of the whole list gives the reply and the notes of those rules, and what it leaves
  -- stands for the bus after it
  pub carried : Same k b (before ++ (during ++ after))
  -- "the calls in it hand back exactly the notes that those rules give"
  pub notes_of_stretch : notes_of_calls (left_all k before) during ≡ notes_of_all (after_all b (made before)) (made during)

-- of every list of calls whose values are octets, the first of which finds k, and every stretch of
-- it
abbrev pub ClaimedOfLentCalls : Kept → Bus → Type 0
ClaimedOfLentCalls k b =
    (before during after : List LentCall)
    → AllAdmitted (before ++ (during ++ after)) → Stretch (after_all b (made before)) (made during) → ClaimedOnCalls k b before during after

-- For whatever is lent with the fresh record (proofs/Demand3.antt).
abbrev pub Demand3OnCalls : Type 0
Demand3OnCalls =
    (images octets letters : List ℕ)
    → length images ≡ images_room → longest_body ≤ length octets → are_letters letters ≡ true
    → ClaimedOfLentCalls (fresh_found images octets letters) fresh_bus

-- From whatever stands for a sound bus (crate `bus_rules`, specs/Sound.antt).
abbrev pub Demand3OnCallsFrom : Type 0
Demand3OnCallsFrom = (k : Kept) (b : Bus) → Carries k b → Sound b → ClaimedOfLentCalls k b
