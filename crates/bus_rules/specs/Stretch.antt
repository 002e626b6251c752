-- Rules: stretches, and document 01's words for what happens at the D opportunities in them ("Lists
-- and stretches"). Sentences in quotation marks are document 01's, or demand 3's, which
-- docs/STATEMENTS.md has in full.
-- Interface: `Stretch`, `opportunities_of_call`, `opportunities_in`, `station_then`, `Waits`,
-- `Completes`, `Begins`, `body_heard`, `body_completed`, `buses`, `powered_in`, `longest_in`. Assumes
-- nothing.
use Rattle.std.specs.Prelude.{Bool, true, false, cond, not, ◌&&◌, List, [], ◌∷◌, ◌++◌, ◌≡◌, ℕ, zero, suc, ◌+◌, max, eqb, get_or}
use Rattle.table_6_2.specs.Table62.{F1, F7}
use Rattle.table_6_3.specs.Table63.{G3}
use Rattle.dchannel.specs.Access.{low_of}
use Rattle.hdlc.specs.Reading.{Said}
use Rattle.hdlc.specs.Reading.Said.{nothing, torn, heard}
use Rattle.bus_rules.specs.Bus.{Station, Hit, Bus, terminals, fresh_station, station_at}
use Rattle.bus_rules.specs.Exchange.{Opportunity, in_f7, stations_of, any_info1, access_step_of, e_comes, said_to, opportunities_of}
use Rattle.bus_rules.specs.Calls.{Call, reply, after}
use Rattle.bus_rules.specs.Calls.Call.{event, period}

-- What a stretch allows of a period run in it: "No period run in it has a hit or a terminal sending
-- INFO 1"
pub record Undisturbed (b : Bus) : Type 0 where
  -- which terminals are powered is not asked
  pub no_hit : b.hit ≡ Hit.none
  pub no_info_1 : any_info1 b.stations ≡ false

-- .. and of every call in it: the network end stays in G3 and no terminal leaves F7
pub record Stays (b b' : Bus) : Type 0 where
  pub in_g3_lem : b.network.state ≡ G3
  pub still_g3 : b'.network.state ≡ G3
  pub still_f7 : (i : ℕ) → (station_at i b).terminal.state ≡ F7 → (station_at i b').terminal.state ≡ F7

abbrev pub Calm : Bus → Call → Type 0
Calm b (event unit number value) = Unit
Calm b period = reply b period ≡ 0 → Undisturbed b

-- a stretch: every call of the list is so where it comes
unfoldable pub Stretch : Bus → List Call → Type 0
Stretch b [] = Unit
Stretch b (c ∷ more) = Calm b c × Stays b (after b c) × Stretch (after b c) more

-- "A D opportunity is an E and the D after it": those of a call, each as its E comes, four for each
-- period run
unfoldable pub opportunities_of_call : Bus → Call → List Opportunity
opportunities_of_call b (event unit number value) = []
opportunities_of_call b period = cond (eqb (reply b period) 0) (opportunities_of b) []

unfoldable pub opportunities_in : Bus → List Call → List Opportunity
opportunities_in b [] = []
opportunities_in b (c ∷ more) = opportunities_of_call b c ++ opportunities_in (after b c) more

-- the terminal at an index (unit less 1), as E comes
unfoldable pub station_then : ℕ → Opportunity → Station
station_then i m = get_or (stations_of m.senders) i fresh_station

-- "It waits at a D opportunity when, as E comes, it is in F7, holds a frame and that frame's class
-- is at the normal level"
pub record Waits (k i : ℕ) (m : Opportunity) : Type 0 where
  -- "one that is sending waits too": whether a bit has left is not asked
  pub in_f7_lem : (station_then i m).terminal.state ≡ F7
  pub holds : (station_then i m).terminal.access.held ≡ k
  pub normal : low_of k (station_then i m).terminal.access ≡ false

-- "The frame is completed when the echo of its last bit agrees": its frame of class k, at this E
pub record Completes (k i : ℕ) (m : Opportunity) : Type 0 where
  pub in_f7_lem : (station_then i m).terminal.state ≡ F7
  pub done : (access_step_of (e_comes m) (station_then i m)).done ≡ k

-- "A frame is begun where a sending's first bit leaves"
pub record Begins (i : ℕ) (m : Opportunity) : Type 0 where
  -- "starting over begins it anew": whether it was begun before is not asked
  pub in_f7_lem : (station_then i m).terminal.state ≡ F7
  pub idle : (station_then i m).terminal.access.sent ≡ 0
  pub first : (access_step_of (e_comes m) (station_then i m)).access.sent ≡ 1

-- the body that the network end's reader says, if it says one
abbrev pub body_in : Said → List (List ℕ)
body_in nothing = []
body_in torn = []
body_in (heard body) = body ∷ []

-- the body heard at the D, if one is
unfoldable pub body_heard : Opportunity → List (List ℕ)
body_heard m = body_in (said_to m)

-- the body of the frame completed at the E, if one is: "equal ones sent together as one", so that
-- of the first terminal that completes one
unfoldable pub first_done : Bool → List Station → List (List ℕ)
first_done e [] = []
first_done e (s ∷ ss) = cond (in_f7 s && not (eqb (access_step_of e s).done 0)) (s.body ∷ []) (first_done e ss)

unfoldable pub body_completed : Opportunity → List (List ℕ)
body_completed m = first_done (e_comes m) (stations_of m.senders)

-- the bus where the stretch begins and after each of its calls
unfoldable pub buses : Bus → List Call → List Bus
buses b [] = b ∷ []
buses b (c ∷ more) = b ∷ buses (after b c) more

-- "powered means outside F1": at some time
unfoldable pub powered : ℕ → List Bus → Bool
powered i [] = false
powered i (b ∷ bs) = cond (eqb (station_at i b).terminal.state F1) (powered i bs) true

-- how many of the terminals from index i on, k of them, are powered at some time
unfoldable pub powered_from : ℕ → ℕ → List Bus → ℕ
powered_from i zero bs = 0
powered_from i (suc k) bs = cond (powered i bs) 1 0 + powered_from (suc i) k bs

-- "n being the terminals powered at some time in the stretch"
unfoldable pub powered_in : List Bus → ℕ
powered_in bs = powered_from 0 terminals bs

-- "L the longest frame image held in it", in bits
unfoldable pub longest_of : List Station → ℕ
longest_of [] = 0
longest_of (s ∷ ss) = max s.terminal.access.length (longest_of ss)

unfoldable pub longest_in : List Bus → ℕ
longest_in [] = 0
longest_in (b ∷ bs) = max (longest_of b.stations) (longest_in bs)
