-- Laws: the class 2 wait (document 02, 2.11), as a statement about the channel where a stretch
-- starts and the stretch.
-- Interface: none but for laws and proofs. Assumes nothing.
use Rattle.std.specs.Prelude.{Bool, false, cond, ◌&&◌, List, [], ◌∷◌, ℕ, ◌+◌, ◌≤◌, ◌<◌, eqb, length}
use Rattle.contention.specs.Channel.{Contender, Channel, Action, may_hold, step, run}
use Rattle.contention.specs.Channel.Action.{hand, enter, leave, clear, opportunity}
use Rattle.contention.specs.Stretch.{contender, Waits, how_many, active_count, ImagesAtMost}
use Rattle.contention.specs.Claims.{at, wait_bound, opps, CompletedWithin}

-- a class 1 frame is held
abbrev pub holds_one : Contender → Bool
holds_one s = eqb s.access.held 1

-- how many class 1 frames are held
unfoldable pub ones_held : Channel → ℕ
ones_held c = how_many holds_one c.contenders

-- whether an action hands over a class 1 frame that is taken
abbrev pub takes_one : Channel → Action → Bool
takes_one c (hand i k body) = eqb k 1 && may_hold k body (contender i c)
takes_one c (enter i) = false
takes_one c (leave i) = false
takes_one c clear = false
takes_one c (opportunity e bit on) = false

module _ (x1 x2 : ℕ) where
  -- how many such frames the actions of a list hand over
  unfoldable pub ones_taken : Channel → List Action → ℕ
  ones_taken c [] = 0
  ones_taken c (a ∷ more) = cond (takes_one c a) 1 0 + ones_taken (step x1 x2 c a) more

  -- "with at most k class 1 frames held or handed in during the stretch, a class 2 frame waiting at
  -- normal level is completed, counted as there and if the stretch lasts that long, within (n + 1 +
  -- k) times (L + 10) D opportunities. After 2.9, x2 replaces 10": `ones` is that k
  abbrev pub WaitEndsClassTwo : Channel → List Action → Type 0
  WaitEndsClassTwo c during =
      (n L ones i p : ℕ) →
      active_count (run x1 x2 c during).contenders ≤ n →
      ((t : ℕ) → t < length (opps x1 x2 c during) → ImagesAtMost L (at (opps x1 x2 c during) t)) →
      ones_held c + ones_taken c during ≤ ones →
      Waits 2 i (at (opps x1 x2 c during) p) →
      p + wait_bound (n + ones) L x2 ≤ length (opps x1 x2 c during) →
      CompletedWithin x1 x2 c during 2 i p (wait_bound (n + ones) L x2)
