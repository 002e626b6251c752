-- Laws: stretches and what document 01, "Lists and stretches", says of the D opportunities in them.
-- Interface: none but for laws and proofs. Assumes nothing.
use Rattle.std.specs.Prelude.{Bool, true, false, cond, List, [], ◌∷◌, ◌++◌, ◌≡◌, ℕ, ◌+◌, ◌≤◌, get_or}
use Rattle.dchannel.specs.Access.{low_of}
use Rattle.hdlc.specs.Reading.{Said, said}
use Rattle.contention.specs.Channel.{Contender, Channel, Action, fresh_contender, access_step_at, together_d, step}
use Rattle.contention.specs.Channel.Action.{hand, enter, leave, clear, opportunity}

-- the channel "as E comes", for the D opportunity that an action is ..
abbrev pub seen : Channel → Action → List Channel
seen c (hand i k body) = []
seen c (enter i) = []
seen c (leave i) = []
seen c clear = []
seen c (opportunity e bit on) = c ∷ []

module _ (x1 x2 : ℕ) where
  -- .. and for those of a list, in order
  unfoldable pub opportunities : Channel → List Action → List Channel
  opportunities c [] = []
  opportunities c (a ∷ more) = seen c a ++ opportunities (step x1 x2 c a) more

  -- What a stretch allows of one action. "No period run in it has a hit or a terminal sending INFO
  -- 1": the E of an opportunity is the last D, and its D is what the terminals send together. The
  -- network end stays in G3, so it reads D and its reader is not cleared, and nobody leaves F7.
  abbrev pub Calm : Channel → Action → Type 0
  Calm c (hand i k body) = Unit
  Calm c (enter i) = Unit
  Calm c (leave i) = ⊥
  Calm c clear = ⊥
  Calm c (opportunity e bit on) = (e ≡ c.heard_d) × (bit ≡ together_d x1 x2 c.heard_d c.contenders) × (on ≡ true)

  -- an opportunity of a stretch, and the channel after it
  abbrev pub undisturbed : Channel → Action
  undisturbed c = opportunity c.heard_d (together_d x1 x2 c.heard_d c.contenders) true

  unfoldable pub onward : Channel → Channel
  onward c = step x1 x2 c (undisturbed c)

  -- "A stretch is any unbroken part of the list": each action of it is calm where it comes
  unfoldable pub Stretch : Channel → List Action → Type 0
  Stretch c [] = Unit
  Stretch c (a ∷ more) = Calm c a × Stretch (step x1 x2 c a) more

-- the terminal at an index, as E comes
unfoldable pub contender : ℕ → Channel → Contender
contender i c = get_or c.contenders i fresh_contender

-- "It waits at a D opportunity when, as E comes, it is in F7, holds a frame and that frame's class
-- is at the normal level; one that is sending waits too": the terminal at index i, with a frame of
-- class k
pub record Waits (k i : ℕ) (c : Channel) : Type 0 where
  pub in_f7_lem : (contender i c).active ≡ true
  pub holds : (contender i c).access.held ≡ k
  pub normal : low_of k (contender i c).access ≡ false

module _ (x1 x2 : ℕ) where
  -- "The frame is completed when the echo of its last bit agrees": the terminal's frame of class k,
  -- at this E
  pub record Completes (k i : ℕ) (c : Channel) : Type 0 where
    pub in_f7_lem : (contender i c).active ≡ true
    pub done : (access_step_at x1 x2 c.heard_d (contender i c)).done ≡ k

  -- "A frame is begun where a sending's first bit leaves; starting over begins it anew"
  pub record Begins (i : ℕ) (c : Channel) : Type 0 where
    pub in_f7_lem : (contender i c).active ≡ true
    pub idle : (contender i c).access.sent ≡ 0
    pub first : (access_step_at x1 x2 c.heard_d (contender i c)).access.sent ≡ 1

  -- what the reader says at this opportunity's D
  unfoldable pub said_at : Channel → Said
  said_at c = said c.reading (together_d x1 x2 c.heard_d c.contenders)

-- how many terminals pass a test
unfoldable pub how_many : (Contender → Bool) → List Contender → ℕ
how_many f [] = 0
how_many f (s ∷ ss) = cond (f s) 1 0 + how_many f ss

-- how many terminals are in F7
abbrev pub active_count : List Contender → ℕ
active_count ss = how_many (λ s. s.active) ss

-- every frame image held is at most L bits: "L counts bits"
abbrev pub ImagesAtMost : ℕ → Channel → Type 0
ImagesAtMost L c = (i : ℕ) → (contender i c).access.length ≤ L
