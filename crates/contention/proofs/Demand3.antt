-- Demand 3 for the D channel, proved.
use mathlib.Core.List.{List, [], ◌∷◌}
use mathlib.Core.Path.{◌≡◌, refl, ap}
use Prim.Native.Nat.{ℕ, zero, suc}
use lib.ListN.{length}
use Rattle.contention.specs.Channel.{Channel, Action, step}
use Rattle.contention.specs.Stretch.{Stretch, undisturbed, opportunities}
use Rattle.contention.specs.Claims.{InStretches, start, InLists, Demand3, Demand3From}
use Rattle.contention.proofs.InvariantKept.{invariant_run}
use Rattle.contention.proofs.Level.{no_rival_twice}
use Rattle.contention.proofs.Wait.{wait_ends}
use Rattle.contention.proofs.HeardInOrder.{heard_in_order}

-- from any channel that satisfies the invariant
pub demand3_from : Demand3From
demand3_from x1 x2 c during h1 h2 start stretch =
    record {
      no_rival_twice = no_rival_twice x1 x2 c during h1 h2 start stretch;
      wait_ends = wait_ends x1 x2 c during h1 h2 start stretch;
      heard_in_order = heard_in_order x1 x2 c during h1 h2 start stretch;
    }

-- what holds of every stretch from such a channel holds of every stretch of every list: a list of actions leaves the invariant
pub in_lists : {P : (x1 x2 : ℕ) → Channel → List Action → Type 0} → InStretches P → InLists P
in_lists h x1 x2 terminals before during h1 h2 = h x1 x2 (start x1 x2 terminals before) during h1 h2 (invariant_run x1 x2 h1 h2 terminals before)

pub demand3 : Demand3
demand3 = in_lists demand3_from

-- Stretches of every length follow every channel, so what the claims assume can be met.
module _ (x1 x2 : ℕ) where
  -- n opportunities of a stretch
  unfoldable pub calm_list : ℕ → Channel → List Action
  calm_list zero c = []
  calm_list (suc n) c = undisturbed x1 x2 c ∷ calm_list n (step x1 x2 c (undisturbed x1 x2 c))

  pub calm_stretch : (n : ℕ) (c : Channel) → Stretch x1 x2 c (calm_list n c)
  unfolding calm_list Stretch
  calm_stretch zero c = tt
  calm_stretch (suc n) c = ((refl, refl, refl), calm_stretch n (step x1 x2 c (undisturbed x1 x2 c)))

  pub calm_length : (n : ℕ) (c : Channel) → length (opportunities x1 x2 c (calm_list n c)) ≡ n
  unfolding calm_list opportunities
  calm_length zero c = refl
  calm_length (suc n) c = ap suc (calm_length n (step x1 x2 c (undisturbed x1 x2 c)))
