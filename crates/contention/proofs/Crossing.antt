-- What a step of the terminals, or of the network end, is to the D channel: F7 is entered or left, G3 is left, or nothing happens. A bus
-- over this channel turns its calls into actions with these. Then: what they leave of the channel; that they are calm where nobody leaves
-- F7 and the network end stays in G3; and that they have no D opportunity. Also the terminals of a channel that is made from another list.
use mathlib.Core.Bool.{Bool, true, false, cond, true≢false}
use mathlib.Core.Path.{◌≡◌, refl, sym, ap, ◌∙◌}
use mathlib.Core.List.{List, [], ◌∷◌, ◌++◌, map, append_assoc}
use Prim.Native.Nat.{ℕ, suc}
use native.Mathlib.Numerals.{add-one}
use lib.ListN.{length, get_or, length-append, get_or-map}
use Rattle.hdlc.specs.Reading.{cleared}
use Rattle.contention.specs.Channel.{Contender, Channel, Action, fresh_contender, entering, leaving, with_contenders, step, run}
use Rattle.contention.specs.Change.{change}
use Rattle.contention.specs.Channel.Action.{enter, leave, clear}
use Rattle.contention.specs.Stretch.{Stretch, opportunities, contender}
use Rattle.contention.proofs.Change.{change_at, change_same}
use Rattle.contention.proofs.WholeList.{run_append, opportunities_append, stretch_append}

-- the terminal at an index was in F7 or not, and then is or is not
unfoldable pub crossing : ℕ → Bool → Bool → List Action
crossing i true true = []
crossing i true false = leave i ∷ []
crossing i false true = enter i ∷ []
crossing i false false = []

abbrev pub crossed : Bool → Bool → Contender → Contender
crossed true true s = s
crossed true false s = leaving s
crossed false true s = entering s
crossed false false s = s

-- all terminals take a step, the first of the list being at the index: `was` and `is` are each contender before and after it
unfoldable pub crossings : {A : Type 0} → (A → Contender) → (A → Contender) → ℕ → List A → List Action
crossings was is i [] = []
crossings was is i (x ∷ xs) = crossing i (was x).active (is x).active ++ crossings was is (suc i) xs

-- the network end was in G3 or not, and then is or is not
unfoldable pub clearing : Bool → Bool → List Action
clearing true true = []
clearing true false = clear ∷ []
clearing false is = []

-- the terminal at an index, where the terminals are made from a list; d makes a fresh one
pub contender_map : {A : Type 0} (f : A → Contender) (d : A) → f d ≡ fresh_contender → (c : Channel) (xs : List A) → c.contenders ≡ map f xs → (i : ℕ)
    → contender i c ≡ f (get_or xs i d)
unfolding contender
contender_map f d e c xs s i = rw (s, ← e) (get_or-map f xs i d)

module _ (x1 x2 : ℕ) where
  -- ---- one terminal

  pub run_crossing : (was is : Bool) (i : ℕ) (c : Channel) → run x1 x2 c (crossing i was is) ≡ with_contenders c (change (crossed was is) i c.contenders)
  unfolding crossing run step
  run_crossing true true i c = rw (change_same i c.contenders)
  run_crossing true false i c = refl
  run_crossing false true i c = refl
  run_crossing false false i c = rw (change_same i c.contenders)

  pub crossing_calm : (c : Channel) (i : ℕ) (was is : Bool) → (was ≡ true → is ≡ true) → Stretch x1 x2 c (crossing i was is)
  unfolding Stretch crossing
  crossing_calm c i true true h = tt
  crossing_calm c i true false h = absurd (true≢false (sym (h refl)))
  crossing_calm c i false true h = (tt, tt)
  crossing_calm c i false false h = tt

  pub crossing_none : (c : Channel) (i : ℕ) (was is : Bool) → opportunities x1 x2 c (crossing i was is) ≡ []
  unfolding opportunities crossing
  crossing_none c i true true = refl
  crossing_none c i true false = refl
  crossing_none c i false true = refl
  crossing_none c i false false = refl

  -- ---- the network end

  pub run_clearing : (was is : Bool) (c : Channel)
      → run x1 x2 c (clearing was is) ≡ record { contenders = c.contenders; heard_d = c.heard_d; reading = cond was (cond is c.reading cleared) c.reading }
  unfolding clearing run step
  run_clearing true true c = refl
  run_clearing true false c = refl
  run_clearing false is c = refl

  pub clearing_calm : (c : Channel) (was is : Bool) → is ≡ true → Stretch x1 x2 c (clearing was is)
  unfolding Stretch clearing
  clearing_calm c true true h = tt
  clearing_calm c true false h = absurd (true≢false (sym h))
  clearing_calm c false is h = tt

  pub clearing_none : (c : Channel) (was is : Bool) → opportunities x1 x2 c (clearing was is) ≡ []
  unfolding opportunities clearing
  clearing_none c true true = refl
  clearing_none c true false = refl
  clearing_none c false is = refl

  -- ---- all terminals

  module _ {A : Type 0} (was is : A → Contender) where
    -- each one's step is an entry into F7, a leave, or nothing to the channel
    module _ (each : (x : A) → is x ≡ crossed (was x).active (is x).active (was x)) where
      first_crosses : (x : A) (xs : List A) (pre : List Contender) (c : Channel) → c.contenders ≡ pre ++ (was x ∷ map was xs)
          → run x1 x2 c (crossing (length pre) (was x).active (is x).active) ≡ with_contenders c (pre ++ (is x ∷ map was xs))
      first_crosses x xs pre c e =
          run_crossing (was x).active (is x).active (length pre) c
          ∙ ap (with_contenders c)
          (ap (change (crossed (was x).active (is x).active) (length pre)) e
          ∙ change_at (crossed (was x).active (is x).active) pre (was x) (map was xs)
          ∙ ap (λ (s : Contender). pre ++ (s ∷ map was xs)) (sym (each x)))

      -- `pre` are those that have taken it
      run_crossings_from : (xs : List A) (pre : List Contender) (i : ℕ) → length pre ≡ i → (c : Channel) → c.contenders ≡ pre ++ map was xs
          → run x1 x2 c (crossings was is i xs) ≡ with_contenders c (pre ++ map is xs)
      unfolding crossings run
      run_crossings_from [] pre i l c e = ap (with_contenders c) e
      run_crossings_from (x ∷ xs) pre i l c e =
          run_append x1 x2 c (crossing i (was x).active (is x).active) (crossings was is (suc i) xs)
          ∙ ap (λ (c' : Channel). run x1 x2 c' (crossings was is (suc i) xs)) (rw (← l) (first_crosses x xs pre c e))
          ∙ run_crossings_from xs (pre ++ (is x ∷ [])) (suc i) (simp (length-append, add-one) (ap suc l)) (with_contenders c (pre ++ (is x ∷ map was xs)))
          (sym (append_assoc pre (is x ∷ []) (map was xs)))
          ∙ ap (with_contenders c) (append_assoc pre (is x ∷ []) (map is xs))

      pub run_crossings : (xs : List A) (c : Channel) → c.contenders ≡ map was xs → run x1 x2 c (crossings was is 0 xs) ≡ with_contenders c (map is xs)
      run_crossings xs c e = run_crossings_from xs [] 0 refl c e

    -- d stands for what is past the list
    pub crossings_calm : (d : A) (xs : List A) (c : Channel) (i : ℕ) → ((j : ℕ) → (was (get_or xs j d)).active ≡ true → (is (get_or xs j d)).active ≡ true)
        → Stretch x1 x2 c (crossings was is i xs)
    unfolding Stretch crossings
    crossings_calm d [] c i h = tt
    crossings_calm d (x ∷ xs) c i h =
        stretch_append x1 x2 c (crossing i (was x).active (is x).active) (crossings was is (suc i) xs)
        (crossing_calm c i (was x).active (is x).active (h 0)) (crossings_calm d xs _ (suc i) (λ j. h (suc j)))

    pub crossings_none : (xs : List A) (c : Channel) (i : ℕ) → opportunities x1 x2 c (crossings was is i xs) ≡ []
    unfolding opportunities crossings
    crossings_none [] c i = refl
    crossings_none (x ∷ xs) c i =
        rw (opportunities_append x1 x2 c (crossing i (was x).active (is x).active) (crossings was is (suc i) xs), crossing_none c i (was x).active (is x).active)
        (crossings_none xs (run x1 x2 c (crossing i (was x).active (is x).active)) (suc i))
