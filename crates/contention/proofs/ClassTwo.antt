-- The class 2 wait (document 02, 2.11): the class 1 frames held, or taken in the stretch, are the only ones that go before besides those
-- that class 1 waits for.
use mathlib.Core.Bool.{Bool, true, cond, ◌&&◌}
use mathlib.Core.Path.{◌≡◌, refl, sym, ap, ◌∙◌}
use mathlib.Core.List.{List, [], ◌∷◌}
use Prim.Native.Nat.{ℕ, zero, suc, ◌+◌, ◌≤◌, ◌<◌}
use native.Mathlib.Omega.{arith}
use lib.Dec.{eqb}
use lib.ListN.{length, get_or}
use borrow.Author.Tests.{eqb-true, eq-eqb, ne_eqb}
use Rattle.test_lemmas.proofs.ByCases.{by_test}
use Rattle.dchannel.specs.Access.{entered}
use Rattle.dchannel.specs.Handing.{taken_up}
use Rattle.contention.specs.Channel.{Contender, Channel, Action, fresh_contender, may_hold, holding, entering, access_step_at, contender_after_e, step}
use Rattle.contention.specs.Change.{change}
use Rattle.contention.specs.Channel.Action.{hand, enter, leave, clear, opportunity}
use Rattle.contention.specs.Stretch.{Stretch, opportunities, contender, Completes, how_many}
use Rattle.contention.specs.Claims.{at, InStretches}
use Rattle.contention.specs.ClassTwo.{holds_one, ones_held, ones_taken, WaitEndsClassTwo}
use Rattle.contention.proofs.Terminal.{Outcome, outcome, completed, went_on, stopped, started, idled, outside, level}
use Rattle.contention.proofs.InvariantKept.{length_hears, contender_hears, entering_active, entering_outside}
use Rattle.contention.proofs.Trace.{how_many_le, how_many_lt}
use Rattle.contention.proofs.Waiting.{completion}
use Rattle.contention.proofs.Wait.{wait_ends_within}

-- ---- the class 1 frames held after an action

module _ (f : Contender → Contender) (d : ℕ) where
  ones_change : (i : ℕ) (ss : List Contender)
      → cond {A = ℕ} (holds_one (f (get_or ss i fresh_contender))) 1 0 ≤ d + cond (holds_one (get_or ss i fresh_contender)) 1 0
      → how_many holds_one (change f i ss) ≤ d + how_many holds_one ss
  unfolding how_many change
  ones_change i [] h = omega arith
  ones_change zero (s ∷ ss) h = omega arith
  ones_change (suc i) (s ∷ ss) h = omega (arith, ones_change i ss h)

ones_holding : (k : ℕ) (body : List ℕ) (s : Contender)
    → cond {A = ℕ} (holds_one (holding k body s)) 1 0 ≤ cond (eqb k 1 && may_hold k body s) 1 0 + cond (holds_one s) 1 0
unfolding holding taken_up
ones_holding k body s =
    by_test (may_hold k body s)
    (λ m. rw m (by_test (eqb k 1) (λ q. rw q (omega arith)) (λ q. rw q (omega arith))))
    (λ m. rw m (omega arith))

ones_entering : (s : Contender) → cond {A = ℕ} (holds_one (entering s)) 1 0 ≤ 0 + cond (holds_one s) 1 0
unfolding entered
ones_entering s =
    by_test s.active (λ m. rw (entering_active s m) (omega arith)) (λ m. rw (entering_outside s m) (omega arith))

module _ {x1 x2 : ℕ} {e : Bool} {s s' : Contender} {d : Bool} {done : ℕ} where
  held_before : Outcome x1 x2 e s s' d done → s'.access.held ≡ 1 → s.access.held ≡ 1
  held_before (completed r) h = absurd (omega arith)
  held_before (went_on r) h = sym r.held_now ∙ h
  held_before (stopped r) h = sym r.held_now ∙ h
  held_before (started r) h = sym r.held_now ∙ h
  held_before (idled r) h = sym r.held_now ∙ h
  held_before (outside r) h = sym (ap (λ (z : Contender). z.access.held) r.as_before) ∙ h

module _ (x1 x2 : ℕ) (c : Channel) where
  ones_hand : (i k : ℕ) (body : List ℕ)
      → ones_held (step x1 x2 c (hand i k body)) ≤ cond (eqb k 1 && may_hold k body (contender i c)) 1 0 + ones_held c
  unfolding ones_held step contender
  ones_hand i k body =
      ones_change (holding k body) (cond (eqb k 1 && may_hold k body (contender i c)) 1 0) i c.contenders
      (ones_holding k body (contender i c))

  ones_enter : (i : ℕ) → ones_held (step x1 x2 c (enter i)) ≤ ones_held c
  unfolding ones_held step
  ones_enter i = omega (arith, ones_change entering 0 i c.contenders (ones_entering (get_or c.contenders i fresh_contender)))

  module _ (e bit on : Bool) where
    one_before : (i : ℕ) → holds_one (contender i (step x1 x2 c (opportunity e bit on))) ≡ true → holds_one (contender i c) ≡ true
    one_before i h =
        eq-eqb (contender i c).access.held 1
        (held_before (outcome x1 x2 e (contender i c))
        (eqb-true _ 1 (rw (contender_hears x1 x2 e bit on c i) at h)))

    ones_hear : ones_held (step x1 x2 c (opportunity e bit on)) ≤ ones_held c
    unfolding ones_held contender
    ones_hear =
        how_many_le holds_one holds_one (step x1 x2 c (opportunity e bit on)).contenders c.contenders (sym (length_hears x1 x2 e bit on c)) one_before

    -- a completed one is one less
    ones_less : (g : ℕ) → (contender g c).active ≡ true → (access_step_at x1 x2 e (contender g c)).done ≡ 1
        → suc (ones_held (step x1 x2 c (opportunity e bit on))) ≤ ones_held c
    unfolding ones_held contender
    ones_less g act q =
        let r = completion 1 (omega arith) act q (outcome x1 x2 e (contender g c)) in
        how_many_lt holds_one holds_one (step x1 x2 c (opportunity e bit on)).contenders c.contenders (sym (length_hears x1 x2 e bit on c)) one_before refl g
        (rw (contender_hears x1 x2 e bit on c g) (ne_eqb (contender_after_e x1 x2 e (contender g c)).access.held 1 (λ z. omega (arith, r.held_now))))
        (eq-eqb (contender g c).access.held 1 (sym r.done_now ∙ q))

-- ---- the class 1 frames held at an opportunity or taken after it

ones_from : ℕ → ℕ → Channel → List Action → List ℕ
ones_from x1 x2 c [] = []
ones_from x1 x2 c (hand i k body ∷ more) = ones_from x1 x2 (step x1 x2 c (hand i k body)) more
ones_from x1 x2 c (enter i ∷ more) = ones_from x1 x2 (step x1 x2 c (enter i)) more
ones_from x1 x2 c (leave i ∷ more) = ones_from x1 x2 (step x1 x2 c (leave i)) more
ones_from x1 x2 c (clear ∷ more) = ones_from x1 x2 (step x1 x2 c clear) more
ones_from x1 x2 c (opportunity e bit on ∷ more) =
    (ones_held c + ones_taken x1 x2 (step x1 x2 c (opportunity e bit on)) more) ∷ ones_from x1 x2 (step x1 x2 c (opportunity e bit on)) more

module _ (x1 x2 : ℕ) where
  -- at most those held or taken from the start
  ones_most : (during : List Action) (c : Channel) (t : ℕ) → Stretch x1 x2 c during
      → get_or (ones_from x1 x2 c during) t 0 ≤ ones_held c + ones_taken x1 x2 c during
  unfolding Stretch ones_from ones_taken
  ones_most [] c t st = omega arith
  ones_most (hand i k body ∷ more) c t st = omega (arith, ones_hand x1 x2 c i k body, ones_most more (step x1 x2 c (hand i k body)) t st.1)
  ones_most (enter i ∷ more) c t st = omega (arith, ones_enter x1 x2 c i, ones_most more (step x1 x2 c (enter i)) t st.1)
  ones_most (leave i ∷ more) c t st = absurd st.0
  ones_most (clear ∷ more) c t st = absurd st.0
  ones_most (opportunity e bit on ∷ more) c zero st = omega arith
  ones_most (opportunity e bit on ∷ more) c (suc t) st =
      omega (arith, ones_hear x1 x2 c e bit on, ones_most more (step x1 x2 c (opportunity e bit on)) t st.1)

  -- never more at the next opportunity
  ones_fall : (during : List Action) (c : Channel) (t : ℕ) → Stretch x1 x2 c during → t < length (opportunities x1 x2 c during)
      → get_or (ones_from x1 x2 c during) (suc t) 0 ≤ get_or (ones_from x1 x2 c during) t 0
  unfolding Stretch ones_from opportunities
  ones_fall [] c t st h = absurd (omega arith)
  ones_fall (hand i k body ∷ more) c t st h = ones_fall more (step x1 x2 c (hand i k body)) t st.1 h
  ones_fall (enter i ∷ more) c t st h = ones_fall more (step x1 x2 c (enter i)) t st.1 h
  ones_fall (leave i ∷ more) c t st h = absurd st.0
  ones_fall (clear ∷ more) c t st h = absurd st.0
  ones_fall (opportunity e bit on ∷ more) c zero st h =
      omega (arith, ones_hear x1 x2 c e bit on, ones_most more (step x1 x2 c (opportunity e bit on)) 0 st.1)
  ones_fall (opportunity e bit on ∷ more) c (suc t) st h = ones_fall more (step x1 x2 c (opportunity e bit on)) t st.1 (omega arith)

  -- one less where one is completed
  ones_spent : (during : List Action) (c : Channel) (t g : ℕ) → Stretch x1 x2 c during → t < length (opportunities x1 x2 c during)
      → Completes x1 x2 1 g (at (opportunities x1 x2 c during) t)
      → suc (get_or (ones_from x1 x2 c during) (suc t) 0) ≤ get_or (ones_from x1 x2 c during) t 0
  unfolding Stretch ones_from opportunities
  ones_spent [] c t g st h d = absurd (omega arith)
  ones_spent (hand i k body ∷ more) c t g st h d = ones_spent more (step x1 x2 c (hand i k body)) t g st.1 h d
  ones_spent (enter i ∷ more) c t g st h d = ones_spent more (step x1 x2 c (enter i)) t g st.1 h d
  ones_spent (leave i ∷ more) c t g st h d = absurd st.0
  ones_spent (clear ∷ more) c t g st h d = absurd st.0
  ones_spent (opportunity e bit on ∷ more) c zero g st h d =
      omega (
        arith,
        ones_less x1 x2 c e bit on g d.in_f7_lem (ap (λ (z : Bool). (access_step_at x1 x2 z (contender g c)).done) st.0.0 ∙ d.done),
        ones_most more (step x1 x2 c (opportunity e bit on)) 0 st.1,
      )
  ones_spent (opportunity e bit on ∷ more) c (suc t) g st h d = ones_spent more (step x1 x2 c (opportunity e bit on)) t g st.1 (omega arith) d

pub wait_ends_class_two : InStretches WaitEndsClassTwo
unfolding level
wait_ends_class_two x1 x2 c during h1 h2 start st n L ones i p actives images most w len =
    wait_ends_within x1 x2 c during h1 h2 start st 2 i (omega arith) (omega arith) n L actives images
    (λ t. get_or (ones_from x1 x2 c during) t 0)
    (λ t h. ones_fall x1 x2 during c t st h)
    (λ t g h d _. ones_spent x1 x2 during c t g st h d)
    ones p (omega (arith, ones_most x1 x2 during c p st)) w len
