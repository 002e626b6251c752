-- Laws: demand 3 for the D channel alone, as statements about the channel where a stretch starts
-- and the stretch (document 01, "Lists and stretches"). Opportunity t is the one at place t, from
-- 0, of the stretch's D opportunities. `stretch_in_list` (WholeList) has a stretch as a part of a
-- whole list.
-- Interface: none but for laws and proofs. Assumes nothing.
use Rattle.std.specs.Prelude.{List, ◌≡◌, ℕ, ◌+◌, ◌*◌, ◌≤◌, ◌<◌, length, get_or}
use Rattle.hdlc.specs.Image.{image}
use Rattle.hdlc.specs.Reading.Said.{torn, heard}
use Rattle.contention.specs.Channel.{Channel, Action, fresh_channel, run}
use Rattle.contention.specs.Stretch.{Stretch, opportunities, contender, Waits, Completes, Begins, said_at, active_count, ImagesAtMost}
use Rattle.contention.specs.Invariant.{Invariant}

-- opportunity t of a list of them; past the list's end a channel without terminals
abbrev pub at : List Channel → ℕ → Channel
at cs t = get_or cs t (fresh_channel 0)

-- "(n + 1) times (L + 8)", with x for 8
abbrev pub wait_bound : ℕ → ℕ → ℕ → ℕ
wait_bound n L x = (n + 1) * (L + x)

-- the stretch `during` from the channel c
module _ (x1 x2 : ℕ) (c : Channel) (during : List Action) where
  abbrev pub opps : List Channel
  opps = opportunities x1 x2 c during

  -- "No rival completes two frames of one class while an activated terminal waits at that class's
  -- normal level": j is the rival, i waits in class k. "Two completions fall while it waits if it
  -- waits, with the same frame, at both and at every D opportunity between"
  abbrev pub NoRivalTwice : Type 0
  NoRivalTwice =
      (i j k p q : ℕ) → (i ≡ j → ⊥) → 1 ≤ k → p < q → q < length opps →
      Completes x1 x2 k j (at opps p) → Completes x1 x2 k j (at opps q) →
      ((t : ℕ) → p ≤ t → t ≤ q → Waits k i (at opps t)) →
      ((t : ℕ) → p ≤ t → t < q → Completes x1 x2 k i (at opps t) → ⊥) →
      ⊥

  -- the frame of class k that terminal i holds at opportunity p is completed at one of the `bound`
  -- opportunities from p on
  pub record CompletedWithin (k i p bound : ℕ) : Type 0 where
    pub when : ℕ
    pub since : p ≤ when
    pub within : when < p + bound
    pub completed : Completes x1 x2 k i (at opps when)
    -- it is the frame held at p
    pub same_frame : (t : ℕ) → p ≤ t → t < when → Completes x1 x2 k i (at opps t) → ⊥
    pub same_body : (contender i (at opps when)).body ≡ (contender i (at opps p)).body

  -- "In class 1, if the stretch lasts that long, a frame so waiting is completed within (n + 1)
  -- times (L + 8) D opportunities, counted from the first of the stretch at which it so waits",
  -- with x1 for 8: p is any opportunity at which it so waits, the first included. The terminals in
  -- F7 at the stretch's end are all that were in F7 in it, as nobody leaves.
  abbrev pub WaitEnds : Type 0
  WaitEnds =
      (n L i p : ℕ) →
      active_count (run x1 x2 c during).contenders ≤ n →
      ((t : ℕ) → t < length opps → ImagesAtMost L (at opps t)) →
      Waits 1 i (at opps p) →
      p + wait_bound n L x1 ≤ length opps →
      CompletedWithin 1 i p (wait_bound n L x1)

  -- No sending stops inside its opening flag. The flag of a sending begun at opportunity p leaves
  -- at p to p + 7, and its echoes come at p + 1 to p + 8: the sending goes on at each of them.
  abbrev pub NoStopInFlag : Type 0
  NoStopInFlag =
      (j p s : ℕ) → Begins x1 x2 j (at opps p) → s ≤ 9 → p + s < length opps → (contender j (at opps (p + s))).access.sent ≡ s

  -- the frame that terminal j completes at opportunity u was begun at p or later, as many
  -- opportunities before u as its image has bits
  pub record BegunSince (p j u : ℕ) : Type 0 where
    pub when : ℕ
    pub since : p ≤ when
    pub begins : Begins x1 x2 j (at opps when)
    pub same_body : (contender j (at opps when)).body ≡ (contender j (at opps u)).body
    pub bits_since : when + length (image (contender j (at opps u)).body) ≡ u

  -- What is heard at opportunity t's D and completed at the next one's E. At one D one body is
  -- heard at most, so "It is heard once" needs no words of its own.
  pub record HeardWhole (p t : ℕ) : Type 0 where
    -- "A body is heard at its D exactly when a frame with that body is completed at the next one's
    -- E"
    pub heard_completed : (body : List ℕ) → said_at x1 x2 (at opps t) ≡ heard body →
        (j : ℕ) × (k : ℕ) × (1 ≤ k) × Completes x1 x2 k j (at opps (t + 1)) × ((contender j (at opps (t + 1))).body ≡ body)
    -- .. and "all frames completed there have that body"
    pub completed_heard : (j k : ℕ) → 1 ≤ k → Completes x1 x2 k j (at opps (t + 1)) →
        said_at x1 x2 (at opps t) ≡ heard (contender j (at opps (t + 1))).body
    -- ".. and were begun in the stretch"
    pub begun : (j k : ℕ) → 1 ≤ k → Completes x1 x2 k j (at opps (t + 1)) → BegunSince p j (t + 1)
    -- "nothing is torn"
    pub not_torn : said_at x1 x2 (at opps t) ≡ torn → ⊥

  -- "Take each D opportunity after the last bit of the first opening flag begun in the stretch, up
  -- to the stretch's last but one": p is any opportunity at which a frame is begun, the first one
  -- included, and that flag's last bit leaves at p + 7 (NoStopInFlag)
  abbrev pub HeardInOrder : Type 0
  HeardInOrder = (j p t : ℕ) → Begins x1 x2 j (at opps p) → p + 7 < t → t + 1 < length opps → HeardWhole p t

  -- demand 3's three parts
  pub record ThreeParts : Type 0 where
    pub no_rival_twice : NoRivalTwice
    pub wait_ends : WaitEnds
    pub heard_in_order : HeardInOrder

-- what holds of every stretch from every channel that satisfies the invariant, for all levels with
-- 8 ≤ x1 and x1 + 2 ≤ x2 ..
abbrev pub InStretches : ((x1 x2 : ℕ) → Channel → List Action → Type 0) → Type 0
InStretches P =
    (x1 x2 : ℕ) (c : Channel) (during : List Action) → 8 ≤ x1 → x1 + 2 ≤ x2 → Invariant x2 c → Stretch x1 x2 c during → P x1 x2 c during

-- the channel where a stretch of a list starts, from a fresh one
abbrev pub start : ℕ → ℕ → ℕ → List Action → Channel
start x1 x2 terminals before = run x1 x2 (fresh_channel terminals) before

-- .. and so of every stretch of every list of actions from a fresh channel with any number of
-- terminals
abbrev pub InLists : ((x1 x2 : ℕ) → Channel → List Action → Type 0) → Type 0
InLists P =
    (x1 x2 terminals : ℕ) (before during : List Action) → 8 ≤ x1 → x1 + 2 ≤ x2 →
    Stretch x1 x2 (start x1 x2 terminals before) during → P x1 x2 (start x1 x2 terminals before) during

-- Demand 3 for the D channel, and the same from any channel that satisfies the invariant, as a
-- restored one does (document 02, 2.10).
abbrev pub Demand3 : Type 0
Demand3 = InLists ThreeParts

abbrev pub Demand3From : Type 0
Demand3From = InStretches ThreeParts
