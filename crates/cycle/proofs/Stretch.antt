-- Periods of one cycle: after its messages are taken no period looks for others, so that the laws
-- need not look at a place.
use mathlib.Core.Path.{◌≡◌, refl}
use mathlib.Core.Bool.{Bool, true, false, cond, ◌&&◌}
use mathlib.Core.List.{List, [], ◌∷◌, map}
use Prim.Native.Nat.{ℕ, zero, suc, ◌+◌, ◌-◌, ◌%◌, ◌<◌, ◌≤◌}
use native.Mathlib.Omega.{arith}
use borrow.Author.Tests.{ne_eqb, lt-ltb, eqb-true, eqb-false}
use lib.Dec.{eqb}
use lib.ListN.{length}
use Rattle.test_lemmas.proofs.ByCases.{by_test}
use Rattle.cycle.specs.Cycle.{last_place, begun, taken, next_place, moved_on, heard_in}
use Rattle.cycle.specs.Periods.{Heard, period, periods, sent_in, Whole}
use Rattle.cycle.specs.declared.record.Cycle.{Cycle}

-- A period, and periods, after the messages are taken; what is sent in them.
abbrev pub moved : Heard → Cycle → Cycle
moved h c = moved_on h.fa h.s h.g3 h.f7 c

unfoldable pub moves : List Heard → Cycle → Cycle
moves [] c = c
moves (h ∷ hs) c = moves hs (moved h c)

unfoldable pub moves_sent : (Cycle → Bool) → List Heard → Cycle → List Bool
moves_sent what [] c = []
moves_sent what (h ∷ hs) c = what c ∷ moves_sent what hs (moved h c)

-- The first period, and a later one.
pub begins : (c : Cycle) → c.running ≡ true → c.place ≡ 0 → taken c ≡ begun c
unfolding taken
begins c r p = rw (r, p)

pub goes_on : (c : Cycle) → 0 < c.place → taken c ≡ c
unfolding taken
goes_on c p = rw (ne_eqb c.place 0 (omega arith)) (never c.running)
  where
    never : (b : Bool) → cond (b && false) (begun c) c ≡ c
    never true = refl
    never false = refl

one_period : (h : Heard) (c d : Cycle) → taken c ≡ d → d.running ≡ true → period h c ≡ moved h d
unfolding period heard_in
one_period h c d e r = rw (e, r)

-- The place after one that is not the last.
pub next_place_lem : (p : ℕ) → p < last_place → next_place p ≡ p + 1
unfolding next_place
next_place_lem p h = rw (lt-ltb p last_place h)

last_place_lem : next_place last_place ≡ 0
unfolding next_place
last_place_lem = refl

-- Periods of a cycle behind its first.
pub record Goes (hs : List Heard) (c d : Cycle) : Type 0 where
  pub to : periods hs c ≡ moves hs d
  pub sends : (what : Cycle → Bool) → sent_in what hs c ≡ moves_sent what hs d

none_go : (c : Cycle) → Goes [] c c
unfolding periods sent_in moves moves_sent
none_go c = record { to = refl; sends = λ what. refl }

one_goes : (h : Heard) (hs : List Heard) (c d : Cycle) → taken c ≡ d → d.running ≡ true → Goes hs (moved h d) (moved h d) → Goes (h ∷ hs) c d
unfolding periods sent_in moves moves_sent
one_goes h hs c d e r g = record {
  to = rw (one_period h c d e r) g.to;
  sends = λ what. rw (one_period h c d e r, e, g.sends what);
}

pub later : (hs : List Heard) (c : Cycle) → c.running ≡ true → 0 < c.place → c.place + length hs ≤ 20 → Goes hs c c
unfolding moved_on
later [] c r p n = none_go c
later (h ∷ []) c r p n = one_goes h [] c c (goes_on c p) r (none_go (moved h c))
later (h ∷ g ∷ hs) c r p n =
    let q : next_place c.place ≡ c.place + 1 = next_place_lem c.place (omega arith) in
    one_goes h (g ∷ hs) c c (goes_on c p) r (later (g ∷ hs) (moved h c) r (rw q (omega arith)) (rw q (omega arith)))

-- A whole cycle.
pub whole : (hs : List Heard) (c : Cycle) → Whole hs c → Goes hs c (begun c)
unfolding moved_on begun
whole [] c w = absurd (omega (arith, w.long))
whole (h ∷ hs) c w =
    let q : next_place c.place ≡ c.place + 1 = next_place_lem c.place (omega (arith, w.first)) in
    let more = later hs (moved h (begun c)) w.running (rw q (omega arith)) (rw q (omega (arith, w.first, w.long))) in
    one_goes h hs c (begun c) (begins c w.running w.first) w.running more

-- The place after the periods that are left of a cycle.
pub place_after : (hs : List Heard) (c : Cycle) → c.place + length hs ≡ 20 → 0 < length hs → (moves hs c).place ≡ 0
unfolding moves moved_on
place_after [] c n l = absurd (omega arith)
place_after (h ∷ []) c n l = let e : c.place ≡ last_place = omega arith in rw e last_place_lem
place_after (h ∷ g ∷ hs) c n l = place_after (g ∷ hs) (moved h c) (rw (next_place_lem c.place (omega arith)) (omega arith)) (omega arith)

-- The periods until the next cycle begins.
pub until_next_lem : (hs : List Heard) (c : Cycle) → c.running ≡ true → c.place ≤ last_place → length hs ≤ (20 - c.place) % 20 → Goes hs c c
until_next_lem [] c r p n = none_go c
until_next_lem (h ∷ hs) c r p n =
    by_test (eqb c.place 0)
    (λ t. absurd (omega (arith, eqb-true c.place 0 t)))
    (λ t. later (h ∷ hs) c r (omega (arith, eqb-false c.place 0 t)) (omega arith))

pub at_next : (hs : List Heard) (c : Cycle) → c.place ≤ last_place → length hs ≡ (20 - c.place) % 20 → (moves hs c).place ≡ 0
unfolding moves
at_next [] c p n = omega arith
at_next (h ∷ hs) c p n = place_after (h ∷ hs) c (omega arith) (omega arith)

-- What no period of a cycle changes.
pub waits_on : (hs : List Heard) (c : Cycle)
    → ((moves hs c).swaiting ≡ c.swaiting) × ((moves hs c).qwaiting ≡ c.qwaiting) × ((moves hs c).qsent ≡ c.qsent) × ((moves hs c).running ≡ c.running)
unfolding moves moved_on
waits_on [] c = (refl, refl, refl, refl)
waits_on (h ∷ hs) c = waits_on hs (moved h c)

-- What goes by the place and the Q messages alone.
unfoldable pub places_from : ℕ → ℕ → List ℕ
places_from zero p = []
places_from (suc n) p = p ∷ places_from n (next_place p)

pub by_place : (what : Cycle → Bool) (at : ℕ → Bool) (qs : List ℕ)
    → ((c : Cycle) → c.running ≡ true → c.qsent ≡ qs → what c ≡ at c.place)
    → (hs : List Heard) (c : Cycle) → c.running ≡ true → c.qsent ≡ qs
    → moves_sent what hs c ≡ map at (places_from (length hs) c.place)
unfolding moves_sent places_from moved_on
by_place what at qs e [] c r q = refl
by_place what at qs e (h ∷ hs) c r q = rw (e c r q, by_place what at qs e hs (moved h c) r q)
