-- From one D opportunity of a stretch to the next, with the reader: between them nothing is read.
use mathlib.Core.Bool.{true}
use mathlib.Core.Path.{◌≡◌, refl, ◌∙◌}
use mathlib.Core.List.{List, [], ◌∷◌}
use Prim.Native.Nat.{ℕ, zero, suc, ◌+◌, ◌≤◌, ◌<◌}
use native.Mathlib.Omega.{arith}
use lib.ListN.{length}
use Rattle.hdlc.specs.Image.{image, IsBody}
use Rattle.test_lemmas.proofs.ByCases.{by_test}
use Rattle.contention.specs.Channel.{Contender, Channel, Action, step}
use Rattle.contention.specs.Channel.Action.{hand, enter, leave, clear, opportunity}
use Rattle.contention.specs.Stretch.{Stretch, opportunities, onward}
use Rattle.contention.specs.Claims.{at, opps}
use Rattle.contention.specs.Invariant.{SoundContender, Invariant}
use Rattle.contention.proofs.InvariantKept.{Quiet, sending_holds}
use Rattle.contention.proofs.Trace.{invariant_at, invariant_past, quiet_at}

-- what a terminal that sends has: a frame, with its image's length
pub record Frame (s : Contender) : Type 0 where
  pub in_f7_lem : s.active ≡ true
  pub class_held : 1 ≤ s.access.held
  pub body_held : IsBody s.body
  pub whole : s.access.length ≡ length (image s.body)
  pub part : s.access.sent ≤ length (image s.body)

pub frame : {x2 : ℕ} {s : Contender} → SoundContender x2 s → 1 ≤ s.access.sent → Frame s
frame {x2} {s} o h =
    let on : s.active ≡ true =
    by_test s.active (λ e. e) (λ e. absurd (let z : s.access.sent ≡ 0 = rw (o.outside e) refl in omega arith))
    in
    let held = o.frame_held (sending_holds x2 s o h) in
    record {
      in_f7_lem = on;
      class_held = sending_holds x2 s o h;
      body_held = held.0;
      whole = held.1;
      part = omega (arith, held.1, o.sent_part);
    }

-- c' is the channel as E comes at the opportunity after c's
pub record Follows (x1 x2 : ℕ) (c c' : Channel) : Type 0 where
  pub quiet : Quiet (onward x1 x2 c) c'
  pub unread : c'.reading ≡ (onward x1 x2 c).reading
  pub before : Invariant x2 c
  pub between : Invariant x2 (onward x1 x2 c)
  pub now : Invariant x2 c'

module _ (x1 x2 : ℕ) where
  first_unread : (during : List Action) (c : Channel) → Stretch x1 x2 c during → 0 < length (opportunities x1 x2 c during)
      → (at (opportunities x1 x2 c during) 0).reading ≡ c.reading
  unfolding Stretch opportunities step
  first_unread [] c st h = absurd (omega arith)
  first_unread (hand i k body ∷ more) c st h = first_unread more (step x1 x2 c (hand i k body)) st.1 h
  first_unread (enter i ∷ more) c st h = first_unread more (step x1 x2 c (enter i)) st.1 h
  first_unread (leave i ∷ more) c st h = absurd st.0
  first_unread (clear ∷ more) c st h = absurd st.0
  first_unread (opportunity e bit on ∷ more) c st h = refl

  -- nothing is read between an opportunity and the next
  next_unread : (during : List Action) (c : Channel) (t : ℕ) → Stretch x1 x2 c during → suc t < length (opportunities x1 x2 c during)
      → (at (opportunities x1 x2 c during) (suc t)).reading ≡ (onward x1 x2 (at (opportunities x1 x2 c during) t)).reading
  unfolding Stretch opportunities onward
  next_unread [] c t st h = absurd (omega arith)
  next_unread (hand i k body ∷ more) c t st h = next_unread more (step x1 x2 c (hand i k body)) t st.1 h
  next_unread (enter i ∷ more) c t st h = next_unread more (step x1 x2 c (enter i)) t st.1 h
  next_unread (leave i ∷ more) c t st h = absurd st.0
  next_unread (clear ∷ more) c t st h = absurd st.0
  next_unread (opportunity e bit on ∷ more) c zero st h =
      first_unread more (step x1 x2 c (opportunity e bit on)) st.1 (omega arith)
      ∙ (λ i. (step x1 x2 c (opportunity (st.0.0 i) (st.0.1 i) (st.0.2 i))).reading)
  next_unread (opportunity e bit on ∷ more) c (suc t) st h =
      next_unread more (step x1 x2 c (opportunity e bit on)) t st.1 (omega arith)

-- each opportunity of a stretch follows the one before it
pub follows : (x1 x2 : ℕ) (c : Channel) (during : List Action) → 8 ≤ x1 → x1 + 2 ≤ x2 → Invariant x2 c → Stretch x1 x2 c during → (t : ℕ)
    → suc t < length (opps x1 x2 c during) → Follows x1 x2 (at (opps x1 x2 c during) t) (at (opps x1 x2 c during) (suc t))
follows x1 x2 c during h1 h2 inv st t h =
    record {
      quiet = quiet_at x1 x2 c during h1 h2 inv st t h;
      unread = next_unread x1 x2 during c t st h;
      before = invariant_at x1 x2 c during h1 h2 inv st t (omega arith);
      between = invariant_past x1 x2 c during h1 h2 inv st t (omega arith);
      now = invariant_at x1 x2 c during h1 h2 inv st (suc t) h;
    }
