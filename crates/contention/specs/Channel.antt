-- Laws: the D channel alone: terminals, the last D that the network end heard, and its reader
-- (document 01, "D access (6.1)"). What happens to it is a list of actions. x1 and x2 are the
-- normal levels of class 1 and class 2, 8 and 10 in document 01.
-- Interface: none but for laws and proofs. Assumes nothing.
use Rattle.std.specs.Prelude.{Bool, true, false, cond, ◌&&◌, ◌||◌, List, [], ◌∷◌, map, ℕ, eqb, length, get_or, replicate}
use Rattle.dchannel.specs.declared.access.Access.{Access}
use Rattle.dchannel.specs.declared.access.AccessStep.{AccessStep}
use Rattle.hdlc.specs.Image.{image, is_body}
use Rattle.dchannel.specs.Access.{fresh, entered, access_step}
use Rattle.dchannel.specs.Handing.{taken_up, left}
use Rattle.hdlc.specs.Reading.{Reading, cleared, next}
use Rattle.contention.specs.Change.{change}

-- a terminal as the D channel sees it
pub record Contender : Type 0 where
  -- "Activated means in F7"
  pub active : Bool
  pub access : Access
  -- the body of the held frame, where one is held
  pub body : List ℕ

-- the D channel: its terminals, and what the network end has of it
pub record Channel : Type 0 where
  pub contenders : List Contender
  -- "the last combined D that the network heard"
  pub heard_d : Bool
  pub reading : Reading

-- what happens to the channel
pub data Action : Type 0 where
  -- `d1` or `d2`: a frame of a class with a body is handed to the terminal at an index
  hand : ℕ → ℕ → List ℕ → Action
  -- the terminal at an index enters F7, or leaves it
  enter leave : ℕ → Action
  -- "Leaving G3 clears the reader silently"
  clear : Action
  -- "A D opportunity is an E and the D after it": the E that all terminals in F7 hear, the D that
  -- the network end hears, and whether it reads D (in G3)
  opportunity : Bool → Bool → Bool → Action

-- a frame is taken by a terminal in F7 that holds none, for class 1 or 2, if it is a body (refusals
-- 6 to 8); else nothing changes
unfoldable pub may_hold : ℕ → List ℕ → Contender → Bool
may_hold k body s = (s.active && eqb s.access.held 0) && ((eqb k 1 || eqb k 2) && is_body body)

-- "A terminal holds a frame from its accepted `d1` or `d2`"
unfoldable pub holding : ℕ → List ℕ → Contender → Contender
holding k body s =
    cond (may_hold k body s)
    (record {
      active = s.active;
      access = taken_up k (length (image body)) s.access;
      body = body;
    })
    s

-- "C (0 on entering F7; ..)"
unfoldable pub entering : Contender → Contender
entering s = cond s.active s (record { active = true; access = entered s.access; body = s.body })

-- "Leaving F7 drops a held frame and sets both levels to normal"
unfoldable pub leaving : Contender → Contender
leaving s = record { active = false; access = (left s.access).access; body = s.body }

-- the bit of its image that a terminal sends next
unfoldable pub next_bit : Contender → Bool
next_bit s = get_or (image s.body) s.access.sent true

-- the channel c with other terminals, ss
abbrev pub with_contenders : Channel → List Contender → Channel
with_contenders c ss = record { contenders = ss; heard_d = c.heard_d; reading = c.reading }

module _ (x1 x2 : ℕ) where
  -- what an opportunity gives for one terminal
  unfoldable pub access_step_at : Bool → Contender → AccessStep
  access_step_at e s = access_step x1 x2 e (next_bit s) s.access

  -- a terminal after the E: outside F7 it hears none
  unfoldable pub contender_after_e : Bool → Contender → Contender
  contender_after_e e s = cond s.active (record { active = true; access = (access_step_at e s).access; body = s.body }) s

  -- the D that a terminal sends: 1 outside F7
  unfoldable pub sends_d : Bool → Contender → Bool
  sends_d e s = cond s.active (access_step_at e s).d true

  -- all terminals together: 0 where any sends 0
  unfoldable pub together_d : Bool → List Contender → Bool
  together_d e [] = true
  together_d e (s ∷ ss) = cond (sends_d e s) (together_d e ss) false

  -- the channel after an action ..
  unfoldable pub step : Channel → Action → Channel
  step c (hand i k body) = with_contenders c (change (holding k body) i c.contenders)
  step c (enter i) = with_contenders c (change entering i c.contenders)
  step c (leave i) = with_contenders c (change leaving i c.contenders)
  step c clear = record { contenders = c.contenders; heard_d = c.heard_d; reading = cleared }
  step c (opportunity e bit on) =
      record {
        contenders = map (contender_after_e e) c.contenders;
        heard_d = bit;
        reading = cond on (next c.reading bit) c.reading;
      }

  -- .. and after a list of actions
  unfoldable pub run : Channel → List Action → Channel
  run c [] = c
  run c (a ∷ more) = run (step c a) more

-- a terminal outside F7 with no frame
abbrev pub fresh_contender : Contender
fresh_contender = record { active = false; access = fresh; body = [] }

-- "A fresh bus", with n terminals: the last D heard is 1 (docs/DECISIONS.md, reading 4)
unfoldable pub fresh_channel : ℕ → Channel
fresh_channel n = record { contenders = replicate n fresh_contender; heard_d = true; reading = cleared }
