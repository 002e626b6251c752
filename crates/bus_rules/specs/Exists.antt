-- Laws: stretches of any length exist, and busy ones, and what demand 3 speaks of happens in them:
-- what it assumes can be met. The statements are types; `proofs/Exists.antt` proves each under the
-- same name in small letters.
-- Interface: none but for laws and proofs. Assumes nothing.
use Rattle.std.specs.Prelude.{◌≡◌, false, List, [], ◌∷◌, ℕ, ◌+◌, ◌*◌, ◌≤◌, length, replicate}
use Rattle.hdlc.specs.Reading.Said.{heard}
use Rattle.timing.specs.Counts.{most_periods}
use Rattle.table_6_2.specs.Table62.{F7}
use Rattle.table_6_3.specs.Table63.{G3}
use Rattle.dchannel.specs.Access.{low_of}
use Rattle.bus_rules.specs.Bus.{Hit, Bus, fresh_bus, station_at, with_counts}
use Rattle.bus_rules.specs.Exchange.{Opportunity, any_info1, access_step_of, e_comes, said_to}
use Rattle.bus_rules.specs.Calls.{Call, reply, after, after_all}
use Rattle.bus_rules.specs.Calls.Call.{event, period}
use Rattle.bus_rules.specs.Stretch.{Stretch, opportunities_in, station_then, Waits, Completes, Begins, body_heard, body_completed}
use Rattle.bus_rules.specs.Claims.{at, opps, CompletedWithin, wait_bound, heard_from, completed_from}
use Rattle.bus_rules.specs.Sound.{Sound}
use Rattle.bus_rules.specs.Scenes.{activated, wait_start, during_wait, during_busy}

-- After document 01's book has activated its terminal, n periods are a stretch, for every n.
abbrev pub StretchesExist : Type 0
StretchesExist = (n : ℕ) → Stretch activated (replicate n period)

-- n periods have four D opportunities each, up to the 4,000,000th period of any bus.
abbrev pub StretchLength : Type 0
StretchLength = (n : ℕ) (b : Bus) → b.periods + n ≤ most_periods → length (opportunities_in b (replicate n period)) ≡ 4 * n

-- Stretches of any length start also at sound buses to which no list of calls from the fresh bus
-- leads: the same bus with one D opportunity counted.
pub record StartsElsewhere (b : Bus) : Type 0 where
  pub is_sound : Sound b
  pub not_led_to : (calls : List Call) → after_all fresh_bus calls ≡ b → ⊥
  pub stretches : (n : ℕ) → Stretch b (replicate n period)

abbrev pub OtherStart : Type 0
OtherStart = StartsElsewhere (with_counts activated.periods 1 activated)

-- The scene of the worst wait is a stretch.
abbrev pub WorstStretch : Type 0
WorstStretch = Stretch wait_start during_wait

-- .. and demand 3's words hold in it, at its D opportunities ms. Terminal 1 has the index 0. The
-- bound is 128 (specs/Scenes.antt), so that 127 is the last opportunity at which its frame may be
-- completed.
pub record WaitsToTheLast (ms : List Opportunity) : Type 0 where
  -- it waits at the first opportunity of the stretch, which lasts as long as the bound ..
  pub waits : Waits 1 0 (at ms 0)
  pub lasts : 128 ≤ length ms
  -- .. and also as two rivals complete a frame of class 1, each one of them
  pub second_completes : Completes 1 1 (at ms 63)
  pub waits_meanwhile : Waits 1 0 (at ms 63)
  pub third_completes : Completes 1 2 (at ms 95)
  pub still_waits : Waits 1 0 (at ms 95)
  -- then its frame is begun, heard and completed
  pub begun : Begins 0 (at ms 103)
  pub is_heard : said_to (at ms 126) ≡ heard (1 ∷ [])
  pub body_heard_lem : body_heard (at ms 126) ≡ (1 ∷ []) ∷ []
  pub completed : Completes 1 0 (at ms 127)
  pub body_completed_lem : body_completed (at ms 127) ≡ (1 ∷ []) ∷ []

abbrev pub WorstWait : Type 0
WorstWait = WaitsToTheLast (opps wait_start during_wait)

-- .. and what demand 3 says of it: its frame is completed in time and heard, and what is heard from
-- the frame's flag on is what is completed.
pub record SaidOfWorstWait : Type 0 where
  pub in_time : CompletedWithin wait_start during_wait 1 0 0 (wait_bound wait_start during_wait)
  pub frame_heard : said_to (at (opps wait_start during_wait) 126) ≡ heard (station_then 0 (at (opps wait_start during_wait) 127)).body
  pub as_completed : heard_from wait_start during_wait 111 16 ≡ completed_from wait_start during_wait 112 16

-- ---- The words need no more than document 01 says. Each holds wherever its sentence does, of
-- every terminal and class ..
abbrev pub WaitsWhen : Type 0
WaitsWhen =
    (k i : ℕ) (m : Opportunity) → (station_then i m).terminal.state ≡ F7 → (station_then i m).terminal.access.held ≡ k →
    low_of k (station_then i m).terminal.access ≡ false → Waits k i m

abbrev pub CompletesWhen : Type 0
CompletesWhen =
    (k i : ℕ) (m : Opportunity) → (station_then i m).terminal.state ≡ F7 → (access_step_of (e_comes m) (station_then i m)).done ≡ k
    → Completes k i m

abbrev pub BeginsWhen : Type 0
BeginsWhen =
    (i : ℕ) (m : Opportunity) → (station_then i m).terminal.state ≡ F7 → (station_then i m).terminal.access.sent ≡ 0 →
    (access_step_of (e_comes m) (station_then i m)).access.sent ≡ 1 → Begins i m

-- .. and a stretch may have "whatever the others request": every event, accepted or refused, and
-- every period without hit and INFO 1, that leaves the network end in G3 and in F7 all that are
-- there ..
abbrev pub AnyEvent : Type 0
AnyEvent =
    (b : Bus) (unit number : ℕ) (value : List ℕ) (more : List Call) →
    let call = event unit number value in
    b.network.state ≡ G3 → (after b call).network.state ≡ G3 →
    ((i : ℕ) → (station_at i b).terminal.state ≡ F7 → (station_at i (after b call)).terminal.state ≡ F7) →
    Stretch (after b call) more → Stretch b (call ∷ more)

abbrev pub AnyPeriod : Type 0
AnyPeriod =
    (b : Bus) (more : List Call) → b.hit ≡ Hit.none → any_info1 b.stations ≡ false →
    b.network.state ≡ G3 → (after b period).network.state ≡ G3 →
    ((i : ℕ) → (station_at i b).terminal.state ≡ F7 → (station_at i (after b period)).terminal.state ≡ F7) →
    Stretch (after b period) more → Stretch b (period ∷ more)

-- .. so every refused call may, with a hit pending or not: it changes nothing.
abbrev pub AnyRefusedCall : Type 0
AnyRefusedCall =
    (b : Bus) (c : Call) (more : List Call) → b.network.state ≡ G3 → (reply b c ≡ 0 → ⊥) → Stretch b more → Stretch b (c ∷ more)

-- The busy scene is a stretch, and in it the frame of terminal 1 is begun, heard and completed.
abbrev pub busy : List Opportunity
busy = opps activated during_busy

pub record BusyStretch : Type 0 where
  pub is_stretch_lem : Stretch activated during_busy
  pub begun : Begins 0 (at busy 7)
  pub is_heard : said_to (at busy 30) ≡ heard (0 ∷ [])
  pub completed : Completes 1 0 (at busy 31)
