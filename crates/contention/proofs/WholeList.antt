-- A stretch as a part of the whole list: the D opportunities of `before ++ (during ++ after)` are those of `before`, then those of the
-- stretch, then those of `after`, each run from where the part before it left the channel. So a claim about every `before` and
-- `during` is one about every unbroken part of every list.
use mathlib.Core.List.{List, [], ◌∷◌, ◌++◌, append_assoc}
use mathlib.Core.Path.{◌≡◌, refl, sym}
use Prim.Native.Nat.{ℕ}
use Rattle.contention.specs.Channel.{Channel, Action, step, run}
use Rattle.contention.specs.Stretch.{Stretch, seen, opportunities}

module _ (x1 x2 : ℕ) where
  pub run_append : (c : Channel) (xs bs : List Action) → run x1 x2 c (xs ++ bs) ≡ run x1 x2 (run x1 x2 c xs) bs
  unfolding run
  run_append c [] bs = refl
  run_append c (a ∷ more) bs = run_append (step x1 x2 c a) more bs

  pub opportunities_append : (c : Channel) (xs bs : List Action) →
      opportunities x1 x2 c (xs ++ bs) ≡ opportunities x1 x2 c xs ++ opportunities x1 x2 (run x1 x2 c xs) bs
  unfolding run opportunities
  opportunities_append c [] bs = refl
  opportunities_append c (a ∷ more) bs =
      rw (opportunities_append (step x1 x2 c a) more bs)
      (sym (append_assoc (seen c a) (opportunities x1 x2 (step x1 x2 c a) more) (opportunities x1 x2 (run x1 x2 (step x1 x2 c a) more) bs)))

  pub stretch_in_list : (c : Channel) (before during after : List Action) →
      opportunities x1 x2 c (before ++ (during ++ after))
      ≡ opportunities x1 x2 c before
      ++ (opportunities x1 x2 (run x1 x2 c before) during ++ opportunities x1 x2 (run x1 x2 (run x1 x2 c before) during) after)
  stretch_in_list c before during after =
      rw (opportunities_append c before (during ++ after), opportunities_append (run x1 x2 c before) during after)

  -- two stretches, the second from where the first leaves the channel
  pub stretch_append : (c : Channel) (xs bs : List Action) → Stretch x1 x2 c xs → Stretch x1 x2 (run x1 x2 c xs) bs → Stretch x1 x2 c (xs ++ bs)
  unfolding Stretch run
  stretch_append c [] bs p q = q
  stretch_append c (a ∷ more) bs p q = (p.0, stretch_append (step x1 x2 c a) more bs p.1 q)
