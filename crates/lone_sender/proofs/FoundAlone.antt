-- What a search that finds a terminal has shown: `found_alone` (specs/Search.antt).
use mathlib.Core.Path.{◌≡◌, refl, sym, ◌∙◌}
use mathlib.Core.Bool.{Bool, true, false, cond, not, ◌&&◌, ◌||◌, or-true}
use mathlib.Core.List.{List, [], ◌∷◌}
use Prim.Native.Nat.{ℕ, suc, ◌≤◌, ◌<◌}
use native.Mathlib.Omega.{arith}
use lib.Dec.{eqb, ltb}
use borrow.Author.Tests.{ltb-false, eqb-true, eq-eqb, ne_eqb, not-true}
use Rattle.test_lemmas.proofs.ByCases.{by_test, clash}
use Rattle.test_lemmas.proofs.Operators.{and_both}
use Rattle.notes_and_cells.specs.Cells.{info_in}
use Rattle.table_6_2.specs.Table62.{F1, F7, info_sent}
use Rattle.table_6_3.specs.Table63.{G3}
use Rattle.timing.specs.Clear.{Clear}
use Rattle.timing.proofs.TimerLaws.{clear_most, clear_is}
use Rattle.timing.specs.declared.counts.Periods.{Periods}
use Rattle.terminal.specs.declared.Terminal.{Terminal}
use Rattle.slice_lemmas.specs.Over.{map_from, fold_from}
use Rattle.bus_rules.specs.Quick.{shown_by}
use Rattle.period_hearing.specs.Hears.{stays_in_silence, rests}
use Rattle.lone_sender.specs.Lone.{followed_access, followed, lone_station, lone_stations, sender_in}
use Rattle.lone_sender.specs.Search.{counting, sending_now, sender_after, fits_in, searched_one, no_search, searched, all_hear_alike, AllClear, FoundAlone}
use Rattle.lone_sender.specs.declared.lone.LoneSender.{LoneSender}
use Rattle.lone_sender.specs.declared.search.Search.{Search}
use Rattle.lone_sender.proofs.LoneFour.{followed_in, followed_out}

-- ---- A terminal that rests while INFO 4 is heard is in F7 or in F1: it sends no INFO 1.
rest_quiet : (t : Terminal) → rests (shown_by G3) t ≡ true → eqb (info_in info_sent t.state) 1 ≡ false
unfolding rests shown_by info_in
rest_quiet t h =
    by_test (eqb t.state F7) (λ v. rw (eqb-true t.state F7 v))
    (λ v. by_test (eqb t.state F1) (λ w. rw (eqb-true t.state F1 w))
    (λ w. clash (rests (shown_by G3) t) h
    (by_test (eqb t.alignment.run 0)
    (λ u. rw (u, v) (by_test (stays_in_silence t.state) (λ x. rw x (neither t.alignment.aligned)) (λ x. rw x w)))
    (λ u. rw u w))))
  where
    neither : (b : Bool) → (not b && false) ≡ false
    neither true = refl
    neither false = refl

-- ---- What one terminal adds.
record FitsOne (a : Search) (t : Terminal) : Type 0 where
  rest : rests (shown_by G3) t ≡ true
  same : counting t ≡ true → a.counts ≡ true → t.access.count ≡ a.lone.count
  one : a.sends ≡ true → sending_now t ≡ false

fits_one : (a : Search) (t : Terminal) → fits_in a t ≡ true → FitsOne a t
unfolding fits_in
fits_one a t h =
    let alike : Bool = (not (counting t) || not a.counts) || eqb t.access.count a.lone.count in
    let outer = and_both (rests (shown_by G3) t && alike) (not (a.sends && sending_now t)) h in
    let inner = and_both (rests (shown_by G3) t) alike outer.0 in
    record {
      rest = inner.0;
      same = λ c k. eqb-true t.access.count a.lone.count (rw (c, k) at inner.1);
      one = λ s. rw s at (not-true (a.sends && sending_now t) outer.1);
    }

sender_count : (i : ℕ) (s : LoneSender) (t : Terminal) → (sender_after i s t).count ≡ cond (counting t) t.access.count s.count
unfolding sender_after
sender_count i s t = by_test (sending_now t) (λ h. rw h) (λ h. rw h)

-- the sender is the same, whatever C
record SameSender (r s : LoneSender) : Type 0 where
  at_is : r.at ≡ s.at
  length_is : r.length ≡ s.length
  sent_is : r.sent ≡ s.sent
  last_is : r.last ≡ s.last

sender_stays : (i : ℕ) (s : LoneSender) (t : Terminal) → sending_now t ≡ false → SameSender (sender_after i s t) s
unfolding sender_after
sender_stays i s t h = record { at_is = rw h; length_is = rw h; sent_is = rw h; last_is = rw h }

record IsSender (r : LoneSender) (i : ℕ) (t : Terminal) : Type 0 where
  at_is : r.at ≡ i
  length_is : t.access.length ≡ r.length
  sent_is : t.access.sent ≡ r.sent
  last_is : t.access.last ≡ r.last

sender_here : (i : ℕ) (s : LoneSender) (t : Terminal) → sending_now t ≡ true → IsSender (sender_after i s t) i t
unfolding sender_after
sender_here i s t h = record { at_is = rw h; length_is = rw h; sent_is = rw h; last_is = rw h }

-- ---- Along the terminals.
module _ (period : Periods) where
  abbrev go : ℕ → Search → Terminal → Search
  go i a t = searched_one period i a t

  fits_kept : (i : ℕ) (a : Search) (ts : List Terminal) → (fold_from go i a ts).fits ≡ true → a.fits ≡ true
  unfolding fold_from searched_one
  fits_kept i a [] h = h
  fits_kept i a (t ∷ ts) h = (and_both a.fits (fits_in a t) (fits_kept (suc i) (go i a t) ts h)).0

  head_fits : (i : ℕ) (a : Search) (t : Terminal) (ts : List Terminal) → (fold_from go (suc i) (go i a t) ts).fits ≡ true → FitsOne a t
  unfolding searched_one
  head_fits i a t ts h = fits_one a t (and_both a.fits (fits_in a t) (fits_kept (suc i) (go i a t) ts h)).1

  over_less : (i : ℕ) (a : Search) (ts : List Terminal) → (fold_from go i a ts).over ≤ a.over
  unfolding fold_from searched_one
  over_less i a [] = omega arith
  over_less i a (t ∷ ts) = omega (arith, over_less (suc i) (go i a t) ts, clear_most period.0 a.over t.t3)

  count_kept : (i : ℕ) (a : Search) (ts : List Terminal) → (fold_from go i a ts).fits ≡ true → a.counts ≡ true → (fold_from go i a ts).lone.count ≡ a.lone.count
  unfolding fold_from searched_one
  count_kept i a [] h c = refl
  count_kept i a (t ∷ ts) h c =
      count_kept (suc i) (go i a t) ts h (rw c)
      ∙ (sender_count i a.lone t ∙ by_test (counting t) (λ k. rw k ((head_fits i a t ts h).same k c)) (λ k. rw k))

  count_here : (i : ℕ) (a : Search) (t : Terminal) (ts : List Terminal) → (fold_from go (suc i) (go i a t) ts).fits ≡ true → counting t ≡ true → t.access.count ≡ (fold_from go (suc i) (go i a t) ts).lone.count
  unfolding searched_one
  count_here i a t ts h c = sym (count_kept (suc i) (go i a t) ts h (rw (c, or-true a.counts)) ∙ (sender_count i a.lone t ∙ rw c))

  sender_kept : (i : ℕ) (a : Search) (ts : List Terminal) → (fold_from go i a ts).fits ≡ true → a.sends ≡ true → SameSender (fold_from go i a ts).lone a.lone
  unfolding fold_from searched_one
  sender_kept i a [] h s = record { at_is = refl; length_is = refl; sent_is = refl; last_is = refl }
  sender_kept i a (t ∷ ts) h s =
      let on = sender_kept (suc i) (go i a t) ts h (rw s) in
      let here = sender_stays i a.lone t ((head_fits i a t ts h).one s) in
      record {
        at_is = on.at_is ∙ here.at_is;
        length_is = on.length_is ∙ here.length_is;
        sent_is = on.sent_is ∙ here.sent_is;
        last_is = on.last_is ∙ here.last_is;
      }

-- ---- One terminal in its place.
record Placed (s : LoneSender) (i : ℕ) (t : Terminal) : Type 0 where
  counted : counting t ≡ true → t.access.count ≡ s.count
  sender : counting t ≡ true → eqb i s.at ≡ true → IsSender s i t
  other : counting t ≡ true → eqb i s.at ≡ false → t.access.sent ≡ 0

module _ (s : LoneSender) (i : ℕ) (t : Terminal) (p : Placed s i t) where
  access_same : counting t ≡ true → followed_access s i t.access ≡ t.access
  access_same c =
      let count = p.counted c in
      by_test (eqb i s.at)
      (λ h. let sent = (p.sender c h).sent_is in let last = (p.sender c h).last_is in rw (h, ← count, ← sent, ← last))
      (λ h. rw (h, ← count))

  terminal_same : followed s i t ≡ t
  terminal_same = by_test (counting t) (λ c. followed_in s i t c ∙ rw (access_same c)) (λ c. followed_out s i t c)

  station_is : rests (shown_by G3) t ≡ true → lone_station s.at s.length i t ≡ true
  unfolding lone_station
  station_is r =
      rw (rest_quiet t r)
      (by_test (counting t)
      (λ c. rw c (by_test (eqb i s.at) (λ h. rw h (eq-eqb t.access.length s.length (p.sender c h).length_is)) (λ h. rw h (eq-eqb t.access.sent 0 (p.other c h)))))
      (λ c. rw c))

-- none of it has left
none_sent : (t : Terminal) → sending_now t ≡ false → counting t ≡ true → t.access.sent ≡ 0
none_sent t h c = let none : ltb 0 t.access.sent ≡ false = rw c at h in omega (arith, ltb-false 0 t.access.sent none)

-- ---- All of them, the first being terminal i.
module _ (now : ℕ) where
  record Rest (r : Search) (i : ℕ) (ts : List Terminal) : Type 0 where
    stations : lone_stations r.lone.at r.lone.length i ts ≡ true
    followed_is : map_from (followed r.lone) i ts ≡ ts
    rest : all_hear_alike ts ≡ true
    clear : AllClear now r.over ts

  none_rest : (r : Search) (i : ℕ) → Rest r i []
  unfolding lone_stations map_from all_hear_alike
  none_rest r i = record { stations = refl; followed_is = refl; rest = refl; clear = tt }

  one_rest : (r : Search) (i : ℕ) (t : Terminal) (ts : List Terminal) → Placed r.lone i t → rests (shown_by G3) t ≡ true → Clear now r.over t.t3 → Rest r (suc i) ts → Rest r i (t ∷ ts)
  unfolding lone_stations map_from all_hear_alike
  one_rest r i t ts p quiet clear on =
      record {
        stations = rw (station_is r.lone i t p quiet) on.stations;
        followed_is = rw (terminal_same r.lone i t p, on.followed_is);
        rest = rw quiet on.rest;
        clear = (clear, on.clear);
      }

module _ (period : Periods) where
  abbrev found_from : ℕ → Search → List Terminal → Search
  found_from i a ts = fold_from (searched_one period) i a ts

  -- one more, with the search to its end
  module _ (i : ℕ) (a : Search) (t : Terminal) (ts : List Terminal) (h : (found_from (suc i) (searched_one period i a t) ts).fits ≡ true) where
    abbrev end : Search
    end = found_from (suc i) (searched_one period i a t) ts

    end_clear : Clear period.0 end.over t.t3
    unfolding searched_one
    end_clear = clear_is period.0 a.over t.t3 end.over (over_less period (suc i) (searched_one period i a t) ts)

    more : Placed end.lone i t → Rest period.0 end (suc i) ts → Rest period.0 end i (t ∷ ts)
    more p on = one_rest period.0 end i t ts p (head_fits period i a t ts h).rest end_clear on

    -- it does not send, and the sender is another one
    is_other_lem : sending_now t ≡ false → eqb i end.lone.at ≡ false → Placed end.lone i t
    is_other_lem s n =
        record { counted = count_here period i a t ts h; sender = λ c is. clash (eqb i end.lone.at) is n; other = λ c _. none_sent t s c }

  -- after the sender
  rest_after : (i : ℕ) (a : Search) (ts : List Terminal) → (found_from i a ts).fits ≡ true → a.sends ≡ true → a.lone.at < i → Rest period.0 (found_from i a ts) i ts
  unfolding fold_from searched_one
  rest_after i a [] h s past = none_rest period.0 a i
  rest_after i a (t ∷ ts) h s past =
      let quiet = (head_fits period i a t ts h).one s in
      let stays = (sender_stays i a.lone t quiet).at_is in
      let kept = (sender_kept period (suc i) (searched_one period i a t) ts h (rw s)).at_is ∙ stays in
      more i a t ts h (is_other_lem i a t ts h quiet (ne_eqb i _ (λ z. omega (arith, kept))))
      (rest_after (suc i) (searched_one period i a t) ts h (rw s) (omega (arith, stays)))

  -- the sender and those before it
  record Before (r : Search) (i : ℕ) (ts : List Terminal) : Type 0 where
    rest : Rest period.0 r i ts
    sender : sender_in r.lone.at i ts ≡ true
    later : i ≤ r.lone.at

  rest_before : (i : ℕ) (a : Search) (ts : List Terminal) → (found_from i a ts).fits ≡ true → (found_from i a ts).sends ≡ true → a.sends ≡ false → Before (found_from i a ts) i ts
  unfolding fold_from searched_one sender_in
  rest_before i a [] h found none = clash a.sends found none
  rest_before i a (t ∷ ts) h found none =
      by_test (sending_now t)
      (λ s. let here = sender_here i a.lone t s in
      let yes : (searched_one period i a t).sends ≡ true = rw (s, or-true a.sends) in
      let kept = sender_kept period (suc i) (searched_one period i a t) ts h yes in
      let at : (end i a t ts h).lone.at ≡ i = kept.at_is ∙ here.at_is in
      let is : IsSender (end i a t ts h).lone i t = record { at_is = at; length_is = here.length_is ∙ sym kept.length_is; sent_is = here.sent_is ∙ sym kept.sent_is; last_is = here.last_is ∙ sym kept.last_is } in
      let same : eqb i (end i a t ts h).lone.at ≡ true = eq-eqb i _ (sym at) in
      record {
        rest = more i a t ts h (record { counted = count_here period i a t ts h; sender = λ _ _. is; other = λ _ n. clash (eqb i (end i a t ts h).lone.at) same n })
            (rest_after (suc i) (searched_one period i a t) ts h yes (omega (arith, here.at_is)));
        sender = rw same (and_both (counting t) (ltb 0 t.access.sent) s).0;
        later = omega (arith, at);
      })
      (λ s. let on = rest_before (suc i) (searched_one period i a t) ts h found (rw (s, none)) in
      let differs : eqb i (end i a t ts h).lone.at ≡ false = ne_eqb i _ (λ z. omega (arith, on.later)) in
      record { rest = more i a t ts h (is_other_lem i a t ts h s differs) on.rest; sender = rw differs on.sender; later = omega (arith, on.later) })

pub found_alone : FoundAlone
unfolding searched
found_alone period most ts h found =
    let on = rest_before period 0 (no_search most) ts h found refl in
    record {
      stations = on.rest.stations;
      sender = on.sender;
      followed_is = on.rest.followed_is;
      rest = on.rest.rest;
      clear = on.rest.clear;
      few = over_less period 0 (no_search most) ts;
    }
