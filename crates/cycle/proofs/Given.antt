-- A message that waits: until the next cycle begins it changes nothing but itself.
use mathlib.Core.Path.{◌≡◌, refl, sym, ap, ◌∙◌}
use mathlib.Core.Bool.{Bool, true, false}
use mathlib.Core.List.{List, [], ◌∷◌, ◌++◌}
use Prim.Native.Nat.{ℕ, ◌%◌, ◌-◌, ◌≤◌}
use native.Mathlib.Omega.{arith}
use lib.ListN.{length, set}
use lib.Seq.{set-set}
use Rattle.test_lemmas.proofs.ByCases.{by_test}
use Rattle.cycle.specs.Cycle.{last_place, q_given, s_given, moved_on}
use Rattle.cycle.specs.Periods.{Heard, period, periods, sent_in, Whole, until_next}
use Rattle.cycle.specs.declared.record.Cycle.{Cycle}
use Rattle.cycle.proofs.Stretch.{moved, moves, moves_sent, waits_on, until_next_lem, at_next}

-- ---- A change that no period of a cycle looks at.
moves_with : (change : Cycle → Cycle) → ((h : Heard) (c : Cycle) → moved h (change c) ≡ change (moved h c))
    → (hs : List Heard) (c : Cycle) → moves hs (change c) ≡ change (moves hs c)
unfolding moves
moves_with change e [] c = refl
moves_with change e (h ∷ hs) c = ap (moves hs) (e h c) ∙ moves_with change e hs (moved h c)

sent_with : (change : Cycle → Cycle) (what : Cycle → Bool) → ((h : Heard) (c : Cycle) → moved h (change c) ≡ change (moved h c)) → ((c : Cycle) → what (change c) ≡ what c)
    → (hs : List Heard) (c : Cycle) → moves_sent what hs (change c) ≡ moves_sent what hs c
unfolding moves_sent
sent_with change what e same [] c = refl
sent_with change what e same (h ∷ hs) c = rw (same c, e h c, sent_with change what e same hs (moved h c))

-- ---- The messages as such changes, in a cycle that runs.
unfoldable pub s_set : ℕ → Cycle → Cycle
s_set value c = record {
  swaiting = value;
  ssent = c.ssent;
  sheard = c.sheard;
  qwaiting = c.qwaiting;
  qsent = c.qsent;
  qheard = c.qheard;
  f7 = c.f7;
  place = c.place;
  running = c.running;
  g3 = c.g3;
}

unfoldable pub q_set : ℕ → ℕ → Cycle → Cycle
q_set i value c = record {
  swaiting = c.swaiting;
  ssent = c.ssent;
  sheard = c.sheard;
  qwaiting = set c.qwaiting i value;
  qsent = c.qsent;
  qheard = c.qheard;
  f7 = c.f7;
  place = c.place;
  running = c.running;
  g3 = c.g3;
}

pub s_set_lem : (value : ℕ) (c : Cycle) → c.running ≡ true → s_given value c ≡ s_set value c
unfolding s_given s_set
s_set_lem value c r = rw r

pub q_set_lem : (i value : ℕ) (c : Cycle) → c.running ≡ true → q_given i value c ≡ q_set i value c
unfolding q_given q_set
q_set_lem i value c r = rw r

s_moved : (value : ℕ) (h : Heard) (c : Cycle) → moved h (s_set value c) ≡ s_set value (moved h c)
unfolding s_set moved_on
s_moved value h c = refl

q_moved : (i value : ℕ) (h : Heard) (c : Cycle) → moved h (q_set i value c) ≡ q_set i value (moved h c)
unfolding q_set moved_on
q_moved i value h c = refl

-- ---- Until the next cycle begins.
-- The message that starts the cycle is given at its beginning.
none_before : (before : List Heard) (c : Cycle) → c.running ≡ false → length before ≤ until_next c → before ≡ []
none_before [] c r n = refl
none_before (h ∷ hs) c r n = absurd (let z : until_next c ≡ 0 = rw r in omega arith)

in_turn : (before : List Heard) (c : Cycle) → c.running ≡ true → length before ≤ until_next c → length before ≤ (20 - c.place) % 20
in_turn before c r n = let z : until_next c ≡ (20 - c.place) % 20 = rw r in omega arith

-- Where as many periods pass as are left of a cycle, the next one begins.
pub begins_next : (before hs : List Heard) (g : Cycle) → g.running ≡ true → g.place ≤ last_place → length before ≡ (20 - g.place) % 20 → length hs ≡ 20
    → Whole hs (periods before g) × (periods before g ≡ moves before g)
begins_next before hs g r p n l =
    let go = until_next_lem before g r p (omega arith) in (
      record {
        running = rw go.to ((waits_on before g).3 ∙ r);
        first = rw go.to (at_next before g p n);
        long = l;
      },
      go.to,
    )

-- A change that no period looks at changes nothing that is sent until then, and is still there.
same_before : (change : Cycle → Cycle) (what : Cycle → Bool) → ((h : Heard) (c : Cycle) → moved h (change c) ≡ change (moved h c)) → ((c : Cycle) → what (change c) ≡ what c)
    → (before : List Heard) (c g : Cycle) → c.running ≡ true → c.place ≤ last_place → length before ≤ (20 - c.place) % 20
    → g ≡ change c → g.running ≡ true → g.place ≡ c.place
    → (sent_in what before g ≡ sent_in what before c) × (periods before g ≡ change (periods before c))
same_before change what e same before c g r p n is gr gp =
    let here = until_next_lem before c r p n in
    let there = until_next_lem before g gr (rw gp p) (rw gp n) in (
      there.sends what ∙ (rw is (sent_with change what e same before c) ∙ sym (here.sends what)),
      there.to ∙ (rw (is, here.to) (moves_with change e before c)),
    )

pub s_before : (what : Cycle → Bool) (value : ℕ) → ((c : Cycle) → what (s_set value c) ≡ what c)
    → (before : List Heard) (c : Cycle) → c.place ≤ last_place → length before ≤ until_next c → sent_in what before (s_given value c) ≡ sent_in what before c
unfolding s_given sent_in
s_before what value same before c p n =
    by_test c.running
    (λ r. (same_before (s_set value) what (s_moved value) same before c (s_given value c) r p (in_turn before c r n) (s_set_lem value c r) refl (rw r)).0)
    (λ r. rw (none_before before c r n))

pub q_before : (what : Cycle → Bool) (i value : ℕ) → ((c : Cycle) → what (q_set i value c) ≡ what c)
    → (before : List Heard) (c : Cycle) → c.place ≤ last_place → length before ≤ until_next c → sent_in what before (q_given i value c) ≡ sent_in what before c
unfolding q_given sent_in
q_before what i value same before c p n =
    by_test c.running
    (λ r. (same_before (q_set i value) what (q_moved i value) same before c (q_given i value c) r p (in_turn before c r n) (q_set_lem i value c r) refl (rw r)).0)
    (λ r. rw (none_before before c r n))

-- ---- A second message.
-- where nothing is asked of what is sent
abbrev never : Cycle → Bool
never c = false

s_again : (value second : ℕ) (c : Cycle) → s_given second (s_set value c) ≡ s_given second c
unfolding s_given s_set
s_again value second c = refl

s_first : (value second : ℕ) (c : Cycle) → s_given second (s_given value c) ≡ s_given second c
unfolding s_given
s_first value second c = refl

q_again : (i value second : ℕ) (c : Cycle) → q_given i second (q_set i value c) ≡ q_given i second c
unfolding q_given q_set
q_again i value second c = rw (set-set c.qwaiting i value second)

q_first : (i value second : ℕ) (c : Cycle) → q_given i second (q_given i value c) ≡ q_given i second c
unfolding q_given
q_first i value second c = rw (set-set c.qwaiting i value second)

-- a message waits unchanged until then
s_waits : (value : ℕ) (early : List Heard) (c : Cycle) → c.running ≡ true → c.place ≤ last_place → length early ≤ until_next c
    → periods early (s_given value c) ≡ s_set value (periods early c)
unfolding s_given
s_waits value early c r p n =
    (same_before (s_set value) never (s_moved value) (λ d. refl) early c (s_given value c) r p (in_turn early c r n) (s_set_lem value c r) refl (rw r)).1

q_waits : (i value : ℕ) (early : List Heard) (c : Cycle) → c.running ≡ true → c.place ≤ last_place → length early ≤ until_next c
    → periods early (q_given i value c) ≡ q_set i value (periods early c)
unfolding q_given
q_waits i value early c r p n =
    (same_before (q_set i value) never (q_moved i value) (λ d. refl) early c (q_given i value c) r p (in_turn early c r n) (q_set_lem i value c r) refl (rw r)).1

runs : (early : List Heard) (c : Cycle) → c.running ≡ true → c.place ≤ last_place → length early ≤ until_next c → (periods early c).running ≡ true
runs early c r p n = rw (until_next_lem early c r p (in_turn early c r n)).to ((waits_on early c).3 ∙ r)

pub s_replaces : (value second : ℕ) (early : List Heard) (c : Cycle) → c.place ≤ last_place → length early ≤ until_next c
    → s_given second (periods early (s_given value c)) ≡ periods early (s_given second c)
unfolding periods
s_replaces value second early c p n =
    by_test c.running
    (λ r. ap (s_given second) (s_waits value early c r p n)
    ∙ (s_again value second (periods early c) ∙ (s_set_lem second (periods early c) (runs early c r p n) ∙ sym (s_waits second early c r p n))))
    (λ r. rw (none_before early c r n) (s_first value second c))

pub q_replaces : (i value second : ℕ) (early : List Heard) (c : Cycle) → c.place ≤ last_place → length early ≤ until_next c
    → q_given i second (periods early (q_given i value c)) ≡ periods early (q_given i second c)
unfolding periods
q_replaces i value second early c p n =
    by_test c.running
    (λ r. ap (q_given i second) (q_waits i value early c r p n)
    ∙ (q_again i value second (periods early c) ∙ (q_set_lem i second (periods early c) (runs early c r p n) ∙ sym (q_waits i second early c r p n))))
    (λ r. rw (none_before early c r n) (q_first i value second c))

-- ---- Periods after periods.
pub periods_append : (early before : List Heard) (c : Cycle) → periods before (periods early c) ≡ periods (early ++ before) c
unfolding periods
periods_append [] before c = refl
periods_append (h ∷ early) before c = periods_append early before (period h c)
