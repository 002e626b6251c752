-- "The first that holds gives the number; where none holds, the call is not refused" (document 01, "Reasons a call is turned down"), both
-- ways round; and a refused call changes nothing.
use mathlib.Core.Path.{◌≡◌, refl, sym, subst}
use mathlib.Core.Bool.{Bool, true, false, cond, not, ◌&&◌, ◌||◌}
use mathlib.Core.List.{List, [], ◌∷◌, ◌++◌, map}
use Prim.Native.Nat.{ℕ, zero, suc, ◌≤◌, ◌<◌}
use native.Mathlib.Omega.{arith}
use lib.Dec.{eqb, leb}
use lib.ListN.{length, get_or}
use borrow.Author.Tests.{eq-eqb, eqb-true, eqb-false, ne_eqb, le-leb, leb-true, leb-false, lt-leb, not-true}
use Rattle.test_lemmas.proofs.ByCases.{by_test, clash, and_left, and_right}
use Rattle.timing.specs.Counts.{most_periods}
use Rattle.bus_rules.specs.Bus.{Bus}
use Rattle.bus_rules.specs.Event.{among, call_reasons, state_reasons, reasons, book_refusals, first_holding, refusal}
use Rattle.bus_rules.specs.Calls.{Call, reply, after, notes}
use Rattle.bus_rules.specs.Calls.Call.{event, period}

-- the reason at an index of a list; past its end stands one that does not hold
abbrev pub reason_at : List (ℕ × Bool) → ℕ → ℕ × Bool
reason_at rs i = get_or rs i (0, false)

abbrev pub numbers_of : List (ℕ × Bool) → List ℕ
numbers_of rs = map (λ (r : ℕ × Bool). r.0) rs

-- whether the reason with this number holds
abbrev pub holds : ℕ → List (ℕ × Bool) → Bool
holds n [] = false
holds n (r ∷ rs) = cond (eqb r.0 n) r.1 (holds n rs)

-- the reason at index i holds, and none before it
pub record First (rs : List (ℕ × Bool)) (i : ℕ) : Type 0 where
  pub here : (reason_at rs i).1 ≡ true
  pub none_before : (j : ℕ) → j < i → (reason_at rs j).1 ≡ false

-- no reason holds
abbrev pub None : List (ℕ × Bool) → Type 0
None rs = (i : ℕ) → (reason_at rs i).1 ≡ false

-- what a test says of each of some numbers it says of one among them
abbrev pub each : (ℕ → Bool) → List ℕ → Bool
each f [] = true
each f (x ∷ xs) = f x && each f xs

pub each_among : (f : ℕ → Bool) (n : ℕ) (xs : List ℕ) → each f xs ≡ true → among n xs ≡ true → f n ≡ true
each_among f n [] h a = clash false a refl
each_among f n (x ∷ xs) h a =
    by_test (eqb n x)
    (λ t. rw (eqb-true n x t) (and_left (f x) (each f xs) h))
    (λ t. each_among f n xs (and_right (f x) (each f xs) h) (rw t at a))

-- ---- the first of a list
first_number : (rs : List (ℕ × Bool)) (i : ℕ) → First rs i → first_holding rs ≡ (reason_at rs i).0
unfolding first_holding
first_number [] i f = clash false f.here refl
first_number (r ∷ rs) zero f = let h : r.1 ≡ true = f.here in rw h
first_number (r ∷ rs) (suc i) f =
    rw (f.none_before 0 (omega arith))
    (first_number rs i (record { here = f.here; none_before = λ j l. f.none_before (suc j) (omega arith) }))

none_number : (rs : List (ℕ × Bool)) → None rs → first_holding rs ≡ 0
unfolding first_holding
none_number [] h = refl
none_number (r ∷ rs) h = rw (h 0) (none_number rs (λ i. h (suc i)))

-- the number that comes back is 0 or a reason's
pub first_listed : (rs : List (ℕ × Bool)) → among (first_holding rs) (0 ∷ numbers_of rs) ≡ true
unfolding first_holding
first_listed [] = refl
first_listed (r ∷ rs) =
    by_test r.1 (λ t. rw (t, eq-eqb r.0 r.0 refl) (first (eqb r.0 0)))
    (λ t. moved (first_holding rs) (first_holding (r ∷ rs)) (rw t) (first_listed rs))
  where
    first : (a : Bool) → (a || true) ≡ true
    first true = refl
    first false = refl

    later : (a b c : Bool) → (a || c) ≡ true → (a || (b || c)) ≡ true
    later true b c h = refl
    later false true c h = refl
    later false false c h = h

    moved : (n m : ℕ) → m ≡ n → among n (0 ∷ numbers_of rs) ≡ true → among m (0 ∷ numbers_of (r ∷ rs)) ≡ true
    moved n m e h = subst (λ (x : ℕ). among x (0 ∷ numbers_of (r ∷ rs)) ≡ true) (sym e) (later (eqb n 0) (eqb n r.0) _ h)

-- numbers of which none is 0 and none stands twice
unfoldable pub apart : List ℕ → Bool
apart [] = true
apart (n ∷ ns) = not (among n (0 ∷ ns)) && apart ns

at_listed : (rs : List (ℕ × Bool)) (i : ℕ) → i < length rs → (n : ℕ) → n ≡ (reason_at rs i).0 → among n (numbers_of rs) ≡ true
at_listed [] i h n e = absurd (omega arith)
at_listed (r ∷ rs) zero h n e = rw (eq-eqb n r.0 e)
at_listed (r ∷ rs) (suc i) h n e = by_test (eqb n r.0) (λ t. rw t) (λ t. rw t (at_listed rs i (omega arith) n e))

or_false : (a b : Bool) → (a || b) ≡ false → (a ≡ false) × (b ≡ false)
or_false true b h = clash true refl h
or_false false b h = (refl, h)

-- Where the numbers are so, one of them comes back only where its reason is the first that holds ..
module _ (r : ℕ × Bool) (rs : List (ℕ × Bool)) where
  -- the first one's number is none of the others, nor 0
  own : apart (numbers_of (r ∷ rs)) ≡ true → among r.0 (0 ∷ numbers_of rs) ≡ false
  unfolding apart
  own a = not-true (among r.0 (0 ∷ numbers_of rs)) (and_left _ (apart (numbers_of rs)) a)

  others : apart (numbers_of (r ∷ rs)) ≡ true → apart (numbers_of rs) ≡ true
  unfolding apart
  others a = and_right (not (among r.0 (0 ∷ numbers_of rs))) (apart (numbers_of rs)) a

  first_later : r.1 ≡ false → (i : ℕ) → First rs i → First (r ∷ rs) (suc i)
  first_later t i f = record { here = f.here; none_before = before }
    where
      before : (j : ℕ) → j < suc i → (reason_at (r ∷ rs) j).1 ≡ false
      before zero l = t
      before (suc j) l = f.none_before j (omega arith)

  none_later : r.1 ≡ false → None rs → None (r ∷ rs)
  none_later t n zero = t
  none_later t n (suc i) = n i

pub first_only : (rs : List (ℕ × Bool)) → apart (numbers_of rs) ≡ true → (i : ℕ) → i < length rs → first_holding rs ≡ (reason_at rs i).0 → First rs i
unfolding first_holding
first_only [] a i h e = absurd (omega arith)
first_only (r ∷ rs) a zero h e =
    by_test r.1
    (λ t. record { here = t; none_before = λ j l. absurd (omega arith) })
    (λ t.
    let back : first_holding rs ≡ r.0 = rw t at e in
    clash (among r.0 (0 ∷ numbers_of rs)) (subst (λ (x : ℕ). among x (0 ∷ numbers_of rs) ≡ true) back (first_listed rs)) (own r rs a))
first_only (r ∷ rs) a (suc i) h e =
    by_test r.1
    (λ t.
    let back : r.0 ≡ (reason_at rs i).0 = rw t at e in
    clash (among r.0 (0 ∷ numbers_of rs)) (by_test (eqb r.0 0) (λ u. rw u) (λ u. rw u (at_listed rs i (omega arith) r.0 back))) (own r rs a))
    (λ t. first_later r rs t i (first_only rs (others r rs a) i (omega arith) (rw t at e)))

-- .. and 0 only where none holds.
pub none_only : (rs : List (ℕ × Bool)) → among 0 (numbers_of rs) ≡ false → first_holding rs ≡ 0 → None rs
unfolding first_holding
none_only [] a e = λ i. refl
none_only (r ∷ rs) a e =
    by_test r.1
    (λ t. clash (among 0 (numbers_of (r ∷ rs))) (rw (eq-eqb 0 r.0 (sym (rw t at e)))) a)
    (λ t. none_later r rs t (none_only rs (or_false (eqb 0 r.0) (among 0 (numbers_of rs)) a).1 (rw t at e)))

-- the same by number
pub none_holds : (rs : List (ℕ × Bool)) → among 0 (numbers_of rs) ≡ false → first_holding rs ≡ 0 → (n : ℕ) → holds n rs ≡ false
none_holds rs a e n = go rs (none_only rs a e)
  where
    go : (rs : List (ℕ × Bool)) → None rs → holds n rs ≡ false
    go [] h = refl
    go (r ∷ rs) h = by_test (eqb r.0 n) (λ t. rw t (h 0)) (λ t. rw t (go rs (λ i. h (suc i))))

-- the first of two lists, one behind the other
pub first_append : (rs more : List (ℕ × Bool)) → among 0 (numbers_of rs) ≡ false
    → first_holding (rs ++ more) ≡ cond (eqb (first_holding rs) 0) (first_holding more) (first_holding rs)
unfolding first_holding
first_append [] more a = refl
first_append (r ∷ rs) more a =
    let other = or_false (eqb 0 r.0) (among 0 (numbers_of rs)) a in
    by_test r.1 (λ t. rw (t, ne_eqb r.0 0 (λ e. eqb-false 0 r.0 other.0 (sym e)))) (λ t. rw t (first_append rs more other.1))

-- ---- an event
module _ (b : Bus) (unit number : ℕ) (value : List ℕ) where
  abbrev pub event_reply : ℕ
  event_reply = reply b (event unit number value)

  abbrev pub event_reasons : List (ℕ × Bool)
  event_reasons = reasons b unit number value

  -- their numbers: 2, and those that a book has
  pub numbers_are : numbers_of event_reasons ≡ 2 ∷ book_refusals
  unfolding reasons call_reasons state_reasons
  numbers_are = refl

  numbers_apart : apart (numbers_of event_reasons) ≡ true
  unfolding apart
  numbers_apart = rw numbers_are

  none_is_0 : among 0 (numbers_of event_reasons) ≡ false
  none_is_0 = rw numbers_are

  -- A number comes back where its reason holds and none before it ..
  pub refused_first : (i : ℕ) → First event_reasons i → event_reply ≡ (reason_at event_reasons i).0
  unfolding reply refusal
  refused_first i f = first_number event_reasons i f

  -- .. and where no reason holds the call is not refused.
  pub not_refused : None event_reasons → event_reply ≡ 0
  unfolding reply refusal
  not_refused n = none_number event_reasons n

  -- Each only there, and no other number comes back.
  pub refused_only : (i : ℕ) → i < length event_reasons → event_reply ≡ (reason_at event_reasons i).0 → First event_reasons i
  unfolding reply refusal
  refused_only i h e = first_only event_reasons numbers_apart i h e

  pub not_refused_only : event_reply ≡ 0 → None event_reasons
  unfolding reply refusal
  not_refused_only e = none_only event_reasons none_is_0 e

  pub accepted_holds : event_reply ≡ 0 → (n : ℕ) → holds n event_reasons ≡ false
  unfolding reply refusal
  accepted_holds e n = none_holds event_reasons none_is_0 e n

  pub refused_listed : among event_reply (0 ∷ 2 ∷ book_refusals) ≡ true
  unfolding reply refusal
  refused_listed = rw numbers_are at (first_listed event_reasons)

-- ---- a period: 9 where all periods have been run, and only there
module _ (b : Bus) where
  pub period_refused : most_periods ≤ b.periods → reply b period ≡ 9
  unfolding reply
  period_refused l = rw (le-leb most_periods b.periods l)

  pub period_not_refused : b.periods < most_periods → reply b period ≡ 0
  unfolding reply
  period_not_refused l = rw (lt-leb most_periods b.periods l)

  pub period_refused_only : (reply b period ≡ 0 → ⊥) → most_periods ≤ b.periods
  period_refused_only h = by_test (leb most_periods b.periods) (leb-true _ _) (λ t. absurd (h (period_not_refused (leb-false _ _ t))))

  pub period_not_refused_only : reply b period ≡ 0 → b.periods < most_periods
  period_not_refused_only e =
      by_test (leb most_periods b.periods) (λ t. absurd (omega (arith, period_refused (leb-true _ _ t)))) (leb-false _ _)

-- ---- "The number comes back alone; record and lent buffers keep their contents"
module _ (b : Bus) (c : Call) (h : reply b c ≡ 0 → ⊥) where
  pub refused_keeps : after b c ≡ b
  unfolding after
  refused_keeps = rw (ne_eqb (reply b c) 0 h)

  pub refused_notes_lem : notes b c ≡ []
  unfolding notes
  refused_notes_lem = rw (ne_eqb (reply b c) 0 h)
