-- Laws: scenes of the D channel, computed by the definitions, with the levels of document 01: 8 for
-- class 1 and 10 for class 2. Terminals and D opportunities are counted from 0.
-- Interface: none but for laws and proofs. Assumes nothing.
use Rattle.std.specs.Prelude.{Bool, cond, ◌≡◌, refl, List, [], ◌∷◌, ◌++◌, map, ℕ, zero, suc, ◌+◌, ◌-◌, eqb}
use Rattle.hdlc.specs.Bits.{low_bits, body_bits, number_low_first, octets}
use Rattle.hdlc.specs.Image.{stuff, image, all_octets, is_body}
use Rattle.dchannel.specs.Access.{entered, count_after, low_after, after_e, low_of, threshold, may_start, sends_next, stops, completes}
use Rattle.dchannel.specs.Access.{idles, access_step}
use Rattle.hdlc.specs.Reading.{Said, starts_with, unstuff, reversed, rest, contents, between, aborted, says, said, next}
use Rattle.hdlc.specs.Reading.Said.{nothing, torn, heard}
use Rattle.dchannel.specs.Handing.{taken_up, left}
use Rattle.contention.specs.Channel.{Contender, Channel, Action, may_hold, holding, entering, leaving, next_bit, access_step_at}
use Rattle.contention.specs.Channel.{contender_after_e, sends_d, together_d, step, fresh_channel}
use Rattle.contention.specs.Change.{change}
use Rattle.contention.specs.Channel.Action.{hand, enter}
use Rattle.contention.specs.Stretch.{said_at, onward}
use Rattle.contention.specs.Claims.{wait_bound}

-- what happens in a scene: an action, or some D opportunities of a stretch; or it is asked how many
-- bits each has sent
pub data Cue : Type 0 where
  act : Action → Cue
  calm : ℕ → Cue
  ask : Cue

-- what is seen at an opportunity, with its number first: a terminal completes a frame of a class at
-- its E, a body is heard or something is torn at its D; or how many bits each has sent before it
pub data Note : Type 0 where
  done : ℕ → ℕ → ℕ → Note
  body_heard_lem : ℕ → List ℕ → Note
  bits_torn : ℕ → Note
  bits_sent : ℕ → List ℕ → Note

-- the frames completed at the E of opportunity t, of the terminals from index i on
abbrev done_notes : ℕ → ℕ → Bool → List Contender → List Note
done_notes t i e [] = []
done_notes t i e (s ∷ ss) =
    let more = done_notes t (suc i) e ss in
    cond s.active (cond (eqb (access_step_at 8 10 e s).done 0) more (done t i (access_step_at 8 10 e s).done ∷ more)) more

-- what the reader says at its D
abbrev said_notes : ℕ → Said → List Note
said_notes t nothing = []
said_notes t torn = bits_torn t ∷ []
said_notes t (heard body) = body_heard_lem t body ∷ []

-- the notes of k opportunities of a stretch from number t on, and the channel after k opportunities
abbrev through : ℕ → ℕ → Channel → List Note
through zero t c = []
through (suc k) t c = done_notes t 0 c.heard_d c.contenders ++ (said_notes t (said_at 8 10 c) ++ through k (suc t) (onward 8 10 c))

abbrev past : ℕ → Channel → Channel
past zero c = c
past (suc k) c = past k (onward 8 10 c)

-- the notes of a list of cues from opportunity t on
abbrev notes : ℕ → Channel → List Cue → List Note
notes t c [] = []
notes t c (act a ∷ more) = notes t (step 8 10 c a) more
notes t c (ask ∷ more) = bits_sent t (map (λ (s : Contender). s.access.sent) c.contenders) ∷ notes t c more
notes t c (calm k ∷ more) = through k t c ++ notes (t + k) (past k c) more

-- the notes of a scene with n fresh terminals
pub scene : ℕ → List Cue → List Note
unfolding low_bits body_bits number_low_first octets stuff image entered count_after low_after after_e low_of threshold may_start sends_next
    stops completes idles access_step starts_with unstuff reversed rest contents between aborted says said next all_octets is_body
    change may_hold holding entering leaving next_bit access_step_at contender_after_e sends_d together_d step fresh_channel said_at onward
    taken_up left
scene n cues = notes 0 (fresh_channel n) cues

-- One terminal: C is 8 after eight Es of 1, at opportunity 7, where the first bit leaves. The last
-- of 24 bits leaves at opportunity 30, where the body is heard, and its echo comes at opportunity
-- 31.
pub alone : scene 1 (act (enter 0) ∷ act (hand 0 1 (0 ∷ [])) ∷ calm 40 ∷ []) ≡ body_heard_lem 30 (0 ∷ []) ∷ done 31 0 1 ∷ []
unfolding scene
alone = refl

-- the same in class 2: two opportunities later
pub alone_two : scene 1 (act (enter 0) ∷ act (hand 0 2 (0 ∷ [])) ∷ calm 40 ∷ []) ≡ body_heard_lem 32 (0 ∷ []) ∷ done 33 0 2 ∷ []
unfolding scene
alone_two = refl

-- two equal frames sent together: heard once, both completed
pub equal_frames : scene 2 (act (enter 0) ∷ act (enter 1) ∷ act (hand 0 1 (0 ∷ [])) ∷ act (hand 1 1 (0 ∷ [])) ∷ calm 60 ∷ [])
    ≡ body_heard_lem 30 (0 ∷ []) ∷ done 31 0 1 ∷ done 31 1 1 ∷ []
unfolding scene
equal_frames = refl

-- "Bodies 00 and 01 started together: 00 is completed"; 01 starts over eight 1s later
pub zero_before_one : scene 2 (act (enter 0) ∷ act (enter 1) ∷ act (hand 0 1 (1 ∷ [])) ∷ act (hand 1 1 (0 ∷ [])) ∷ calm 80 ∷ [])
    ≡ body_heard_lem 30 (0 ∷ []) ∷ done 31 1 1 ∷ body_heard_lem 62 (1 ∷ []) ∷ done 63 0 1 ∷ []
unfolding scene
zero_before_one = refl

-- there both begin at opportunity 7, and 01 goes on through its flag and stops where the echo of
-- its body's first bit comes, at opportunity 16
pub stops_past_flag : scene 2
    (act (enter 0) ∷ act (enter 1) ∷ act (hand 0 1 (1 ∷ [])) ∷ act (hand 1 1 (0 ∷ [])) ∷ calm 16 ∷ ask ∷ calm 1 ∷ ask ∷ [])
    ≡ bits_sent 16 (9 ∷ 9 ∷ []) ∷ bits_sent 17 (0 ∷ 10 ∷ []) ∷ []
unfolding scene
stops_past_flag = refl

-- class 1 against class 2: class 1 goes first, whatever the bodies
pub one_before_two : scene 2 (act (enter 0) ∷ act (enter 1) ∷ act (hand 0 1 (1 ∷ [])) ∷ act (hand 1 2 (0 ∷ [])) ∷ calm 80 ∷ [])
    ≡ body_heard_lem 30 (1 ∷ []) ∷ done 31 0 1 ∷ body_heard_lem 64 (0 ∷ []) ∷ done 65 1 2 ∷ []
unfolding scene
one_before_two = refl

-- the low level: terminal 1 is handed a second frame as its first is completed, and lets terminal 0
-- go before it, though its body would win
pub low_waits : scene 2
    (act (enter 0) ∷ act (enter 1) ∷ act (hand 0 1 (1 ∷ [])) ∷ act (hand 1 1 (0 ∷ [])) ∷ calm 32 ∷ act (hand 1 1 (0 ∷ [])) ∷ calm 70 ∷ [])
    ≡ body_heard_lem 30 (0 ∷ []) ∷ done 31 1 1 ∷ body_heard_lem 62 (1 ∷ []) ∷ done 63 0 1 ∷ body_heard_lem 95 (0 ∷ []) ∷ done 96 1 1 ∷ []
unfolding scene
low_waits = refl

-- The worst wait with two terminals and images of 24 bits. Terminal 0 enters F7 two opportunities
-- after its rival and waits from opportunity 2 on; its C reaches 8 where the rival's reaches 10.
-- The rival's class 2 frame wins, then its class 1 frame, and terminal 0's is completed at the very
-- last of the (2 + 1) times (24 + 8) opportunities.
pub worst_of_two : scene 2
    (act (enter 1) ∷ act (hand 1 2 (0 ∷ [])) ∷ calm 2 ∷ act (enter 0) ∷ act (hand 0 1 (1 ∷ [])) ∷ calm 32 ∷ act (hand 1 1 (0 ∷ []))
    ∷ calm 70 ∷ [])
    ≡ body_heard_lem 32 (0 ∷ []) ∷ done 33 1 2 ∷ body_heard_lem 64 (0 ∷ []) ∷ done 65 1 1 ∷ body_heard_lem 96 (1 ∷ [])
    ∷ done (2 + wait_bound 2 24 8 - 1) 0 1 ∷ []
unfolding scene
worst_of_two = refl

-- the same with three terminals: the last of the (3 + 1) times (24 + 8) opportunities
pub worst_of_three : scene 3
    (act (enter 1) ∷ act (enter 2) ∷ act (hand 1 2 (0 ∷ [])) ∷ calm 2 ∷ act (enter 0) ∷ act (hand 0 1 (1 ∷ [])) ∷ calm 20
    ∷ act (hand 2 1 (128 ∷ [])) ∷ calm 12 ∷
    act (hand 1 1 (0 ∷ [])) ∷ calm 100 ∷ [])
    ≡ body_heard_lem 32 (0 ∷ []) ∷ done 33 1 2 ∷ body_heard_lem 64 (0 ∷ []) ∷ done 65 1 1 ∷ body_heard_lem 96 (128 ∷ []) ∷ done 97 2 1
    ∷ body_heard_lem 128 (1 ∷ []) ∷
    done (2 + wait_bound 3 24 8 - 1) 0 1 ∷ []
unfolding scene
worst_of_three = refl
