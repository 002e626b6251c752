-- Laws: what holds of the channel after every list of actions, hits and all, because all terminals
-- in F7 hear the same E.
-- Interface: none but for laws and proofs. Assumes nothing.
use Rattle.std.specs.Prelude.{true, false, ◌≡◌, ℕ, suc, ◌+◌, ◌≤◌, ◌<◌, length, get_or, take}
use Rattle.dchannel.specs.Access.{fresh}
use Rattle.hdlc.specs.Image.{image, IsBody}
use Rattle.hdlc.specs.Ones.{ending_ones}
use Rattle.contention.specs.Channel.{Contender, Channel}
use Rattle.contention.specs.Stretch.{contender}

-- one terminal's record is in order
pub record SoundContender (x2 : ℕ) (s : Contender) : Type 0 where
  -- C is at most the low value of class 2
  pub counted : s.access.count ≤ x2 + 1
  -- outside F7 no frame is held and both levels are normal
  pub outside : s.active ≡ false → s.access ≡ fresh
  pub class_known : s.access.held ≤ 2
  pub none_held : s.access.held ≡ 0 → (s.access.length ≡ 0) × (s.access.sent ≡ 0)
  pub frame_held : 1 ≤ s.access.held → IsBody s.body × (s.access.length ≡ length (image s.body))
  pub sent_part : s.access.sent ≤ s.access.length
  -- the bit that left last is the image's
  pub last_bit : (n : ℕ) → s.access.sent ≡ suc n → s.access.last ≡ get_or (image s.body) n true

pub record Invariant (x2 : ℕ) (c : Channel) : Type 0 where
  pub sound : (i : ℕ) → SoundContender x2 (contender i c)
  -- all that are sending have sent equally many bits, and all but the last of these are equal
  pub in_phase : (i j : ℕ) → 1 ≤ (contender i c).access.sent → 1 ≤ (contender j c).access.sent →
      ((contender i c).access.sent ≡ (contender j c).access.sent) ×
      ((t : ℕ) → t + 1 < (contender i c).access.sent
      → get_or (image (contender i c).body) t true ≡ get_or (image (contender j c).body) t true)
  -- while one goes on, every C is at most the 1s that end what it has heard of itself: so nobody
  -- starts
  pub held_back : (i j n : ℕ) → (contender i c).access.sent ≡ suc (suc n) →
      (contender j c).access.count ≤ ending_ones (take (suc n) (image (contender i c).body))
