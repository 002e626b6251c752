-- A period's exchange, terminal by terminal: the four D opportunities of each, and that at most one
-- frame of a terminal is completed in a period, the one that it holds at the start. So one bit for
-- each class says what is completed.
use mathlib.Core.Path.{◌≡◌, refl, ap, ◌∙◌}
use mathlib.Core.Bool.{Bool, true, cond, ◌||◌}
use mathlib.Core.List.{List, [], ◌∷◌, ◌++◌, map, map-map, append-nil}
use mathlib.Core.Logic.{◌⊎◌, inl, inr, ⊎_elim}
use Prim.Native.Nat.{ℕ, zero, suc, ◌≤◌, ◌<◌}
use native.Mathlib.Omega.{arith}
use lib.Dec.{eqb}
use lib.ListN.{get_or, get_or-map}
use borrow.Author.Tests.{eqb-true, eqb-false, ne_eqb}
use Rattle.test_lemmas.proofs.ByCases.{by_test}
use Rattle.notes_and_cells.specs.Notes.{DONE1, DONE2}
use Rattle.dchannel.specs.Access.{normal1, normal2}
use Rattle.dchannel.proofs.AccessLaws.{completion_only, complete, held_kept}
use Rattle.bus_rules.specs.Bus.{Station, Bus, fresh_station, station_at}
use Rattle.bus_rules.specs.Exchange.{Sender, Opportunity, in_f7, access_step_of, station_after_e, done_of, hears_e, e_comes, senders_after, onward, as_sender, begins, exchanged}
use Rattle.bus_rules.specs.Period.{done_codes}
use Rattle.bus_rules.specs.Event.{among}

-- ---- the exchange of one terminal: the four E that come, and what they leave of it
unfoldable pub hears_four : Bool → Bool → Bool → Bool → Station → Sender
hears_four e11 e24 e35 e46 s = hears_e e46 (hears_e e35 (hears_e e24 (hears_e e11 (as_sender s))))

unfoldable pub exchanged_at : Bus → Station → Sender
exchanged_at b s =
    hears_four
    (e_comes (begins b))
    (e_comes (onward (begins b)))
    (e_comes (onward (onward (begins b))))
    (e_comes (onward (onward (onward (begins b)))))
    s

one_more : (m : Opportunity) (f : Station → Sender) (ss : List Station) → m.senders ≡ map f ss → (onward m).senders ≡ map (λ s. hears_e (e_comes m) (f s)) ss
unfolding onward senders_after
one_more m f ss h = ap (map (hears_e (e_comes m))) h ∙ map-map (hears_e (e_comes m)) f ss

none_yet : (b : Bus) → (begins b).senders ≡ map as_sender b.stations
unfolding begins
none_yet b = refl

pub senders_exchanged : (b : Bus) → (exchanged b).senders ≡ map (exchanged_at b) b.stations
unfolding exchanged exchanged_at hears_four
senders_exchanged b =
    one_more (onward (onward (onward (begins b)))) _ b.stations
    (one_more (onward (onward (begins b))) _ b.stations
    (one_more (onward (begins b)) _ b.stations (one_more (begins b) as_sender b.stations (none_yet b))))

-- the one at an index
pub sender_exchanged : (b : Bus) (i : ℕ) → get_or (exchanged b).senders i (exchanged_at b fresh_station) ≡ exchanged_at b (station_at i b)
sender_exchanged b i = rw (senders_exchanged b) (get_or-map (exchanged_at b) b.stations i fresh_station)

-- ---- nothing is completed, or one frame of class k
abbrev pub OneOf : ℕ → List ℕ → Type 0
OneOf k done = (done ≡ []) ⊎ ((0 < k) × (done ≡ k ∷ []))

-- so far: before the completion the frame of class k is held, after it none is
abbrev SoFar : ℕ → List ℕ → ℕ → Type 0
SoFar k done held = ((done ≡ []) × (held ≡ k)) ⊎ ((0 < k) × (done ≡ k ∷ []) × (held ≡ 0))

-- a turn completes nothing and keeps what is held, or completes what is held
abbrev Turns : ℕ → ℕ → ℕ → Type 0
Turns held done left = ((done ≡ 0) × (left ≡ held)) ⊎ ((0 < held) × (done ≡ held) × (left ≡ 0))

one_turn : (k held done left : ℕ) (dones : List ℕ) → Turns held done left → SoFar k dones held → SoFar k (dones ++ cond (eqb done 0) [] (done ∷ [])) left
one_turn k held done left dones t =
    ⊎_elim
    (λ u.
    ⊎_elim
    (λ n. inl (rw (u.0, n.0), omega arith))
    (λ c. inr (omega arith, rw (u.0, ne_eqb done 0 (omega arith)) (cc), c.2))
    t)
    (λ u. ⊎_elim (λ n. inr (u.0, rw (u.1, n.0), omega arith)) (λ c. absurd (omega arith)) t)

some : (n : ℕ) → (n ≡ 0 → ⊥) → 0 < n
some zero h = absurd (h refl)
some (suc n) h = omega arith

turns : (e : Bool) (s : Station) → Turns s.terminal.access.held (access_step_of e s).done (access_step_of e s).access.held
unfolding access_step_of
turns e s =
    let next = get_or s.image s.terminal.access.sent true in
    let a = s.terminal.access in
    by_test (eqb (access_step_of e s).done 0)
    (λ t. let z : (access_step_of e s).done ≡ 0 = eqb-true _ _ t in inl (z, held_kept normal1 normal2 e next a z))
    (λ t.
    let n : (access_step_of e s).done ≡ 0 → ⊥ = eqb-false _ _ t in
    let o = completion_only normal1 normal2 e next a n in
    inr (omega (arith, some (access_step_of e s).done n, o.class), o.class, (complete normal1 normal2 e next a o.was_sending o.echo o.all_sent).held))

abbrev Under : ℕ → Sender → Type 0
Under k s = SoFar k s.done s.station.terminal.access.held

hears_one : (k : ℕ) (e : Bool) (s : Sender) → Under k s → Under k (hears_e e s)
unfolding hears_e station_after_e done_of
hears_one k e s u =
    by_test (in_f7 s.station)
    (λ f. rw f (one_turn k _ (access_step_of e s.station).done _ s.done (turns e s.station) u))
    (λ f. rw (f, append-nil s.done) u)

hears_four_lem : (e11 e24 e35 e46 : Bool) (s : Station) → Under s.terminal.access.held (hears_four e11 e24 e35 e46 s)
unfolding hears_four as_sender
hears_four_lem e11 e24 e35 e46 s =
    let k = s.terminal.access.held in
    hears_one k e46 _ (hears_one k e35 _ (hears_one k e24 _ (hears_one k e11 (as_sender s) (inl (refl, refl)))))

-- Whatever the E, at most one frame is completed, and its class is the one held before.
pub one_done : (e11 e24 e35 e46 : Bool) (s : Station) → OneOf s.terminal.access.held (hears_four e11 e24 e35 e46 s).done
one_done e11 e24 e35 e46 s = ⊎_elim (λ n. inl n.0) (λ c. inr (c.0, c.1)) (hears_four_lem e11 e24 e35 e46 s)

-- Of every terminal of a bus in its period.
pub one_done_at : (b : Bus) (s : Station) → OneOf s.terminal.access.held (exchanged_at b s).done
unfolding exchanged_at
one_done_at b s = one_done _ _ _ _ s

-- ---- a bit for each class
one_bits : (k : ℕ) (done : List ℕ) → k ≤ 2 → OneOf k done →
    done_codes done ≡ cond (among 1 done) (DONE1 ∷ []) [] ++ cond (among 2 done) (DONE2 ∷ []) []
unfolding done_codes
one_bits k done l = ⊎_elim (λ n. rw n) (λ c. rw c.1 (by_test (eqb k 1) (λ t. rw (eqb-true k 1 t)) (λ t. let two : k ≡ 2 = omega (arith, eqb-false k 1 t) in rw two)))

pub done_bits_lem : (b : Bus) (s : Station) → s.terminal.access.held ≤ 2 →
    done_codes (exchanged_at b s).done
    ≡ cond (among 1 (exchanged_at b s).done) (DONE1 ∷ []) [] ++ cond (among 2 (exchanged_at b s).done) (DONE2 ∷ []) []
done_bits_lem b s l = one_bits s.terminal.access.held (exchanged_at b s).done l (one_done_at b s)

-- what is among two lists is among one of them
pub among_append : (n : ℕ) (xs ys : List ℕ) → among n (xs ++ ys) ≡ (among n xs || among n ys)
among_append n [] ys = refl
among_append n (x ∷ xs) ys = by_test (eqb n x) (λ t. rw t) (λ t. rw (t, among_append n xs ys))
