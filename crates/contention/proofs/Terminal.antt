-- One terminal at one D opportunity: what can come of it, as six outcomes, and what they leave of C and the levels.
use mathlib.Core.Bool.{Bool, true, false, cond, false≢true}
use mathlib.Core.Path.{◌≡◌, refl, sym, ap, ◌∙◌}
use mathlib.Core.List.{List}
use Prim.Native.Nat.{ℕ, zero, suc, ◌+◌, ◌≤◌, ◌<◌}
use native.Mathlib.Omega.{arith}
use native.Mathlib.Numerals.{add-one}
use lib.Dec.{eqb}
use borrow.Author.Tests.{leb-true, leb-false, eqb-false, eq-eqb, ne_eqb}
use Rattle.dchannel.specs.declared.access.Access.{Access}
use Rattle.test_lemmas.proofs.ByCases.{by_test}
use Rattle.dchannel.specs.Access.{count_after, low_after, after_e, threshold, low_of, may_start, sends_next, stops, completes, idles, access_step}
use Rattle.dchannel.proofs.AccessLaws.{by_ways, access_step_count, access_step_low1, access_step_low2}
use Rattle.contention.specs.Channel.{Contender, next_bit, access_step_at, contender_after_e, sends_d}

-- The outcomes, for a terminal s that becomes s' at E and sends d; `done` is the class of a completed frame.
module _ (x1 x2 : ℕ) (e : Bool) (s s' : Contender) (d : Bool) (done : ℕ) where
  pub record Completed : Type 0 where
    pub in_f7_lem : s.active ≡ true
    pub sending : 1 ≤ s.access.sent
    pub agreed : e ≡ s.access.last
    pub whole : s.access.length ≤ s.access.sent
    pub sent_now : s'.access.sent ≡ 0
    pub held_now : s'.access.held ≡ 0
    pub length_now : s'.access.length ≡ 0
    pub done_now : done ≡ s.access.held
    pub d_now : d ≡ true

  pub record WentOn : Type 0 where
    pub in_f7_lem : s.active ≡ true
    pub sending : 1 ≤ s.access.sent
    pub agreed : e ≡ s.access.last
    pub more : s.access.sent < s.access.length
    pub sent_now : s'.access.sent ≡ suc s.access.sent
    pub held_now : s'.access.held ≡ s.access.held
    pub length_now : s'.access.length ≡ s.access.length
    pub last_now : s'.access.last ≡ next_bit s
    pub done_now : done ≡ 0
    pub d_now : d ≡ next_bit s

  pub record Stopped : Type 0 where
    pub in_f7_lem : s.active ≡ true
    pub sending : 1 ≤ s.access.sent
    pub differed : e ≡ s.access.last → ⊥
    pub sent_now : s'.access.sent ≡ 0
    pub held_now : s'.access.held ≡ s.access.held
    pub length_now : s'.access.length ≡ s.access.length
    pub done_now : done ≡ 0
    pub d_now : d ≡ true

  pub record Started : Type 0 where
    pub in_f7_lem : s.active ≡ true
    pub idle : s.access.sent ≡ 0
    pub holds : 1 ≤ s.access.held
    pub reached : threshold x1 x2 s.access.held (low_of s.access.held s'.access) ≤ s'.access.count
    pub sent_now : s'.access.sent ≡ 1
    pub held_now : s'.access.held ≡ s.access.held
    pub length_now : s'.access.length ≡ s.access.length
    pub last_now : s'.access.last ≡ next_bit s
    pub done_now : done ≡ 0
    pub d_now : d ≡ next_bit s

  pub record Idled : Type 0 where
    pub in_f7_lem : s.active ≡ true
    pub idle : s.access.sent ≡ 0
    pub short : 1 ≤ s.access.held → s'.access.count < threshold x1 x2 s.access.held (low_of s.access.held s'.access)
    pub sent_now : s'.access.sent ≡ 0
    pub held_now : s'.access.held ≡ s.access.held
    pub length_now : s'.access.length ≡ s.access.length
    pub done_now : done ≡ 0
    pub d_now : d ≡ true

  pub record Outside : Type 0 where
    pub not_f7 : s.active ≡ false
    pub as_before : s' ≡ s
    pub d_now : d ≡ true

  pub data Outcome : Type 0 where
    completed : Completed → Outcome
    went_on : WentOn → Outcome
    stopped : Stopped → Outcome
    started : Started → Outcome
    idled : Idled → Outcome
    outside : Outside → Outcome

-- the outcome of a terminal at an E
abbrev pub OutcomeAt : ℕ → ℕ → Bool → Contender → Type 0
OutcomeAt x1 x2 e s = Outcome x1 x2 e s (contender_after_e x1 x2 e s) (sends_d x1 x2 e s) (access_step_at x1 x2 e s).done

abbrev pub CompletedAt : ℕ → ℕ → Bool → Contender → Type 0
CompletedAt x1 x2 e s = Completed x1 x2 e s (contender_after_e x1 x2 e s) (sends_d x1 x2 e s) (access_step_at x1 x2 e s).done

abbrev pub StartedAt : ℕ → ℕ → Bool → Contender → Type 0
StartedAt x1 x2 e s = Started x1 x2 e s (contender_after_e x1 x2 e s) (sends_d x1 x2 e s) (access_step_at x1 x2 e s).done

may_start_lem : (x1 x2 : ℕ) (a : Access) → may_start x1 x2 a ≡ true
    → (1 ≤ a.held) × (threshold x1 x2 a.held (low_of a.held a) ≤ a.count)
unfolding may_start
may_start_lem x1 x2 a h =
    by_test (eqb a.held 0) (λ z. absurd (false≢true (rw z at h)))
    (λ z. (omega (arith, eqb-false a.held 0 z), leb-true _ _ (rw z at h)))

may_not_start : (x1 x2 : ℕ) (a : Access) → may_start x1 x2 a ≡ false → 1 ≤ a.held
    → a.count < threshold x1 x2 a.held (low_of a.held a)
unfolding may_start
may_not_start x1 x2 a h k = leb-false _ _ (rw (ne_eqb a.held 0 (λ z. omega arith)) at h)

-- a terminal in F7 with a record of its own
abbrev pub in_f7 : Access → List ℕ → Contender
in_f7 a body = record { active = true; access = a; body = body }

module _ (x1 x2 : ℕ) (e : Bool) (s : Contender) where
  pub hears_active : s.active ≡ true → contender_after_e x1 x2 e s ≡ in_f7 (access_step_at x1 x2 e s).access s.body
  unfolding contender_after_e
  hears_active h = rw h

  pub hears_outside : s.active ≡ false → contender_after_e x1 x2 e s ≡ s
  unfolding contender_after_e
  hears_outside h = rw h

  sends_d_active : s.active ≡ true → sends_d x1 x2 e s ≡ (access_step_at x1 x2 e s).d
  unfolding sends_d
  sends_d_active h = rw h

  sends_d_outside : s.active ≡ false → sends_d x1 x2 e s ≡ true
  unfolding sends_d
  sends_d_outside h = rw h

  turn_outcome : s.active ≡ true → Outcome x1 x2 e s (in_f7 (access_step_at x1 x2 e s).access s.body) (access_step_at x1 x2 e s).d (access_step_at x1 x2 e s).done
  unfolding access_step_at completes sends_next stops idles after_e low_of
  turn_outcome act =
      by_ways x1 x2 e (next_bit s) s.access (λ t. Outcome x1 x2 e s (in_f7 t.access s.body) t.d t.done)
      (λ h a m. went_on (record { in_f7_lem = act; sending = h; agreed = a; more = m; sent_now = add-one s.access.sent; held_now = refl; length_now = refl; last_now = refl; done_now = refl; d_now = refl }))
      (λ h a w. completed (record { in_f7_lem = act; sending = h; agreed = a; whole = w; sent_now = refl; held_now = refl; length_now = refl; done_now = refl; d_now = refl }))
      (λ h f. stopped (record { in_f7_lem = act; sending = h; differed = f; sent_now = refl; held_now = refl; length_now = refl; done_now = refl; d_now = refl }))
      (λ h m. started (record { in_f7_lem = act; idle = h; holds = (may_start_lem _ _ _ m).0; reached = (may_start_lem _ _ _ m).1; sent_now = add-one s.access.sent ∙ ap suc h; held_now = refl; length_now = refl; last_now = refl; done_now = refl; d_now = refl }))
      (λ h m. idled (record { in_f7_lem = act; idle = h; short = may_not_start _ _ _ m; sent_now = h; held_now = refl; length_now = refl; done_now = refl; d_now = refl }))

  -- every terminal has one of the outcomes
  pub outcome : OutcomeAt x1 x2 e s
  outcome =
      by_test s.active (λ act. rw (hears_active act, sends_d_active act) (turn_outcome act))
      (λ out. outside (record { not_f7 = out; as_before = hears_outside out; d_now = sends_d_outside out }))

  -- what every outcome leaves
  pub active_after : (contender_after_e x1 x2 e s).active ≡ s.active
  active_after = by_test s.active (λ act. rw (hears_active act) (sym act)) (λ out. rw (hears_outside out))

  pub body_after : (contender_after_e x1 x2 e s).body ≡ s.body
  body_after = by_test s.active (λ act. rw (hears_active act)) (λ out. rw (hears_outside out))

  pub count_after_lem : s.active ≡ true → (contender_after_e x1 x2 e s).access.count ≡ count_after x2 e s.access.count
  unfolding access_step_at completes sends_next stops idles after_e
  count_after_lem act =
      rw (hears_active act)
      (access_step_count x1 x2 e (next_bit s) s.access)

-- the normal level of class k
unfoldable pub level : ℕ → ℕ → ℕ → ℕ
level x1 x2 k = cond (eqb k 1) x1 x2

pub threshold_normal : (x1 x2 k : ℕ) → threshold x1 x2 k false ≡ level x1 x2 k
unfolding threshold level
threshold_normal x1 x2 k = omega arith

pub threshold_low : (x1 x2 k : ℕ) → threshold x1 x2 k true ≡ suc (level x1 x2 k)
unfolding threshold level
threshold_low x1 x2 k = omega arith

pub threshold_of : (x1 x2 held k : ℕ) (a : Access) (low : Bool) → held ≡ k → low_of k a ≡ low
    → threshold x1 x2 held (low_of held a) ≡ threshold x1 x2 k low
threshold_of x1 x2 held k a low h l = rw h (rw l)

pub level_threshold : (x1 x2 k : ℕ) (low : Bool) → level x1 x2 k ≤ threshold x1 x2 k low
level_threshold x1 x2 k true = omega (arith, threshold_low x1 x2 k)
level_threshold x1 x2 k false = omega (arith, threshold_normal x1 x2 k)

pub level_least : (x1 x2 k : ℕ) → x1 + 2 ≤ x2 → x1 ≤ level x1 x2 k
unfolding level
level_least x1 x2 k h = by_test (eqb k 1) (λ e. rw e (omega arith)) (λ e. rw e (omega arith))

pub level_most : (x1 x2 k : ℕ) → x1 + 2 ≤ x2 → level x1 x2 k ≤ x2
unfolding level
level_most x1 x2 k h = by_test (eqb k 1) (λ e. rw e (omega arith)) (λ e. rw e (omega arith))

-- the levels after a turn: a completed class goes low, else the level follows C
turn_low : (x1 x2 k : ℕ) (e next : Bool) (a : Access) → 1 ≤ k → k ≤ 2
    → low_of k (access_step x1 x2 e next a).access
    ≡ cond (eqb (access_step x1 x2 e next a).done k) true (low_after (level x1 x2 k) (count_after x2 e a.count) (low_of k a))
unfolding low_of level after_e completes sends_next stops idles
turn_low x1 x2 zero e next a h l = absurd (omega arith)
turn_low x1 x2 (suc zero) e next a h l = access_step_low1 x1 x2 e next a
turn_low x1 x2 (suc (suc zero)) e next a h l = access_step_low2 x1 x2 e next a
turn_low x1 x2 (suc (suc (suc k))) e next a h l = absurd (omega arith)

module _ (x1 x2 k : ℕ) (e : Bool) (s : Contender) (at_least_lem : 1 ≤ k) (at_most : k ≤ 2) (act : s.active ≡ true) where
  pub low_after_lem : low_of k (contender_after_e x1 x2 e s).access
      ≡ cond (eqb (access_step_at x1 x2 e s).done k) true (low_after (level x1 x2 k) (count_after x2 e s.access.count) (low_of k s.access))
  unfolding access_step_at
  low_after_lem = rw (hears_active x1 x2 e s act) (turn_low x1 x2 k e (next_bit s) s.access at_least_lem at_most)

  -- a low class stays low while C is not at its low value
  pub low_stays : low_of k s.access ≡ true → ((contender_after_e x1 x2 e s).access.count ≡ level x1 x2 k + 1 → ⊥)
      → low_of k (contender_after_e x1 x2 e s).access ≡ true
  unfolding low_after
  low_stays low away =
      let f : eqb (count_after x2 e s.access.count) (level x1 x2 k + 1) ≡ false =
      ne_eqb _ _ (λ q. away (count_after_lem x1 x2 e s act ∙ q))
      in low_after_lem ∙ rw (f, low) (by_test (eqb (access_step_at x1 x2 e s).done k) (λ q. rw q) (λ q. rw q))

  -- a class at the normal level stays there unless it is completed
  pub normal_stays : low_of k s.access ≡ false → ((access_step_at x1 x2 e s).done ≡ k → ⊥) → low_of k (contender_after_e x1 x2 e s).access ≡ false
  unfolding low_after
  normal_stays normal not_done =
      low_after_lem ∙ rw (ne_eqb _ _ not_done, normal)
      (by_test (eqb (count_after x2 e s.access.count) (level x1 x2 k + 1)) (λ q. rw q) (λ q. rw q))

  -- "that class then goes low"
  pub completed_low : (access_step_at x1 x2 e s).done ≡ k → low_of k (contender_after_e x1 x2 e s).access ≡ true
  completed_low q = low_after_lem ∙ rw (eq-eqb _ _ q)
