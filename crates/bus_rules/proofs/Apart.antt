-- The laws of `specs/Apart.antt`. All powered terminals hear the same line: each has the alignment of one that has always been on, or is in F2
-- and behind it.
use mathlib.Core.Path.{◌≡◌, refl, sym, ◌∙◌}
use mathlib.Core.Bool.{Bool, true, false, cond, true≢false}
use mathlib.Core.List.{List, [], ◌∷◌}
use Prim.Native.Nat.{ℕ, zero, suc, ◌+◌, ◌-◌, ◌≤◌, ◌<◌}
use native.Mathlib.Omega.{arith}
use lib.Dec.{eqb, ltb, leb}
use lib.ListN.{replicate}
use borrow.Author.Tests.{eqb-true, eq-eqb, ltb-false, le-ltb, leb-true, le-leb, leb-false}
use Rattle.test_lemmas.proofs.ByCases.{by_test, clash}
use Rattle.notes_and_cells.specs.Cells.{cell_in, info_in}
use Rattle.table_6_2.specs.Table62.{F1, F2, F4, F8, on_row, off_row, ar_row, t3_row, info_0_row, signal_row, info_2_row, info_4_row, loss_row}
use Rattle.table_6_2.specs.Table62 as Table62
use Rattle.table_6_2.specs.States.{next_state, in_f6_or_f7}
use Rattle.table_6_2.proofs.Laws.{in_f6_or_f7_after_lem, in_f1_after_lem, info_1_sent, info_3_sent}
use Rattle.timing.specs.Counts.{most_periods}
use Rattle.timing.specs.Timers.{due}
use Rattle.alignment.specs.Alignment.{framed_to_gain, unframed_to_lose, unaligned, fresh, framed_period, unframed_period, followed}
use Rattle.alignment.specs.declared.Alignment.{Alignment}
use Rattle.alignment.specs.declared.Followed.{Followed}
use Rattle.heard_line.specs.Heard.{downward_event}
use Rattle.heard_line.specs.Sensing.{shown_down}
use Rattle.heard_line.specs.declared.heard.Downward.{Downward}
use Rattle.terminal.specs.Terminal as terminal
use Rattle.terminal.specs.declared.Terminal.{Terminal}
use Rattle.terminal.proofs.Laws.{happens_state, happens_alignment, hears_state, hears_alignment}
use Rattle.terminal.proofs.RangesKept.{terminal_fits}
use Rattle.bus_rules.specs.Bus.{Station, Bus, terminals, fresh_station, fresh_bus, station_at}
use Rattle.bus_rules.specs.Exchange.{any_sends, any_info1, any_info3, in_f7, station_after_e, exchanged, whole_down}
use Rattle.bus_rules.specs.Period.{terminal_hears, stepped, heard_by, timed, period_run}
use Rattle.bus_rules.specs.Event.{class_of, station_of, terminal_does, with_frame, station_after, refusal, event_done}
use Rattle.bus_rules.specs.Calls.{Call, reply, does, after, after_all}
use Rattle.bus_rules.specs.Calls.Call.{event, period}
use Rattle.bus_rules.specs.Stretch.{station_then}
use Rattle.bus_rules.specs.Ranges.{InRange}
use Rattle.bus_rules.specs.Apart as apart
use Rattle.bus_rules.proofs.Stations.{Each, station_heard, station_timed, each_event, each_exchanged}
use Rattle.bus_rules.proofs.Ranges.{exchanged_in, heard_in_lem, call_in, fresh_in}
use Rattle.bus_rules.proofs.TerminalDoes.{does_each}

-- ---- the line as heard by one that has always been on, and a terminal against it

-- r framed periods running have been heard there too
abbrev reaches : Alignment → ℕ → Bool
reaches line r = cond line.aligned true (leb r line.run)

data With (line : Alignment) (t : Terminal) : Type 0 where
  off : t.state ≡ F1 → With line t
  level : in_f6_or_f7 t.state ≡ t.alignment.aligned → t.alignment ≡ line → With line t
  behind : (r : ℕ) → t.state ≡ F2 → t.alignment ≡ unaligned r → reaches line r ≡ true → With line t

-- what changes neither state nor alignment
with_same : (line : Alignment) (t u : Terminal) → u.state ≡ t.state → u.alignment ≡ t.alignment → With line t → With line u
with_same line t u s a (off o) = off (s ∙ o)
with_same line t u s a (level own e) = level (rw (s, a) own) (a ∙ e)
with_same line t u s a (behind r two e h) = behind r (s ∙ two) (a ∙ e) h

-- ---- an event of table 6-2 that leads neither into F6 or F7 nor out, and leaves F1 and F2 as they are
abbrev Keeps : ℕ → Type 0
Keeps e = (next_state e F1 ≡ F1) × (next_state e F2 ≡ F2) × ((s : ℕ) → F1 ≤ s → s ≤ F8 → in_f6_or_f7 (next_state e s) ≡ in_f6_or_f7 s)

t3_keeps : Keeps t3_row
unfolding cell_in
t3_keeps = (refl, refl, λ s l h. in_f6_or_f7_after_lem t3_row s l h)

request_keeps : Keeps ar_row
unfolding cell_in
request_keeps = (refl, refl, λ s l h. in_f6_or_f7_after_lem ar_row s l h)

signal_keeps : Keeps signal_row
unfolding cell_in
signal_keeps = (refl, refl, λ s l h. in_f6_or_f7_after_lem signal_row s l h)

with_event : (e : ℕ) → Keeps e → (line : Alignment) (t u : Terminal) → F1 ≤ t.state → t.state ≤ F8 →
    u.state ≡ next_state e t.state → u.alignment ≡ t.alignment → With line t → With line u
with_event e k line t u l h s a (off o) = off (s ∙ (rw o k.0))
with_event e k line t u l h s a (level own q) = level (rw (s, a, k.2 t.state l h) own) (a ∙ q)
with_event e k line t u l h s a (behind r two q p) = behind r (s ∙ (rw two k.1)) (a ∙ q) p

-- ---- a line is heard

-- A powered terminal that is aligned exactly in F6 and F7 is so again.
module _ (s : ℕ) (low : F1 ≤ s) (high : s ≤ F8) (on : eqb s F1 ≡ false) where
  identified : (a : Bool) → in_f6_or_f7 (next_state (cond a info_4_row info_2_row) s) ≡ true
  identified true = in_f6_or_f7_after_lem info_4_row s low high ∙ rw on
  identified false = in_f6_or_f7_after_lem info_2_row s low high ∙ rw on

  own_heard : (pulse framed a aligned : Bool) (run : ℕ) → in_f6_or_f7 s ≡ aligned →
      let f = followed framed_to_gain unframed_to_lose pulse framed (record { aligned = aligned; run = run }) in
      in_f6_or_f7 (next_state (downward_event (record { pulse = pulse; framed = framed; a = a }) f) s) ≡ f.alignment.aligned
  unfolding followed framed_period unframed_period downward_event
  own_heard false framed a aligned run own = in_f6_or_f7_after_lem info_0_row s low high
  own_heard true true a true run own = identified a
  own_heard true true a false run own = by_test (ltb (run + 1) framed_to_gain) (λ r. rw r (signal_keeps.2 s low high ∙ own)) (λ r. rw r (identified a))
  own_heard true false a true run own =
      by_test (ltb (run + 1) unframed_to_lose) (λ r. rw r (signal_keeps.2 s low high ∙ own)) (λ r. rw r (in_f6_or_f7_after_lem loss_row s low high))
  own_heard true false a false run own = signal_keeps.2 s low high ∙ own

-- One that is behind, with a run of r, catches up without a pulse or as it gains alignment; else a signal leaves it in F2.
data Catches (line : Downward) (f g : Followed) : Type 0 where
  up : f.alignment ≡ g.alignment → Catches line f g
  not_yet : (n : ℕ) → downward_event line f ≡ signal_row → f.alignment ≡ unaligned n → reaches g.alignment n ≡ true → Catches line f g

any_reaches : (line : Alignment) → reaches line 0 ≡ true
any_reaches line = by_test line.aligned (λ t. rw t) (λ t. rw t (le-leb 0 line.run (omega arith)))

catches : (pulse framed a aligned : Bool) (run r : ℕ) → reaches (record { aligned = aligned; run = run }) r ≡ true →
    Catches (record { pulse = pulse; framed = framed; a = a }) (followed framed_to_gain unframed_to_lose pulse framed (unaligned r)) (followed framed_to_gain unframed_to_lose pulse framed (record { aligned = aligned; run = run }))
unfolding followed framed_period unframed_period downward_event
catches false framed a aligned run r h = up refl
catches true false a aligned run r h = not_yet 0 refl refl (any_reaches (followed framed_to_gain unframed_to_lose true false (record { aligned = aligned; run = run })).alignment)
catches true true a true run r h = by_test (ltb (r + 1) framed_to_gain) (λ c. rw c (not_yet (r + 1) refl refl refl)) (λ c. rw c (up refl))
catches true true a false run r h =
    let ahead : r ≤ run = leb-true r run h in
    by_test (ltb (r + 1) framed_to_gain)
    (λ c. by_test (ltb (run + 1) framed_to_gain)
    (λ d. rw (c, d) (not_yet (r + 1) refl refl (le-leb (r + 1) (run + 1) (omega arith)))) (λ d. rw (c, d) (not_yet (r + 1) refl refl refl)))
    (λ c. rw (c, le-ltb (run + 1) framed_to_gain (omega (arith, ltb-false (r + 1) framed_to_gain c))) (up refl))

abbrev heard_as : Downward → Alignment → Alignment
heard_as line a = (followed framed_to_gain unframed_to_lose line.pulse line.framed a).alignment

with_heard : (line : Downward) (now : ℕ) (a : Alignment) (t : Terminal) → F1 ≤ t.state → t.state ≤ F8 → With a t → With (heard_as line a) (terminal.hears line now t).terminal
with_heard line now a t l h w = by_test (eqb t.state F1) still (λ on. powered on w)
  where
    still : eqb t.state F1 ≡ true → With (heard_as line a) (terminal.hears line now t).terminal
    still o = off (unfold terminal.hears in rw o (eqb-true t.state F1 o))

    powered : eqb t.state F1 ≡ false → With a t → With (heard_as line a) (terminal.hears line now t).terminal
    powered on (off f) = clash (eqb t.state F1) (eq-eqb t.state F1 f) on
    powered on (level own e) =
        level
        (rw (hears_state line now t on, hears_alignment line now t on) (own_heard t.state l h on line.pulse line.framed line.a t.alignment.aligned t.alignment.run own))
        (hears_alignment line now t on ∙ rw e)
    powered on (behind r two e q) = caught (catches line.pulse line.framed line.a a.aligned a.run r q)
      where
        own : in_f6_or_f7 t.state ≡ t.alignment.aligned
        own = rw (two, e)

        caught : Catches line (followed framed_to_gain unframed_to_lose line.pulse line.framed (unaligned r)) (followed framed_to_gain unframed_to_lose line.pulse line.framed a) →
            With (heard_as line a) (terminal.hears line now t).terminal
        caught (up p) =
            level
            (rw (hears_state line now t on, hears_alignment line now t on) (own_heard t.state l h on line.pulse line.framed line.a t.alignment.aligned t.alignment.run own))
            (hears_alignment line now t on ∙ (rw e p))
        caught (not_yet n s p k) =
            behind n (hears_state line now t on ∙ (rw (e, s, two) signal_keeps.1)) (hears_alignment line now t on ∙ (rw e p)) k

-- ---- T3, power, a request
module _ (now : ℕ) (a : Alignment) (t : Terminal) (low : F1 ≤ t.state) (high : t.state ≤ F8) (w : With a t) where
  with_timer : With a (terminal.timer now t).terminal
  unfolding terminal.timer terminal.no_timer
  with_timer =
      by_test (due t.t3 now)
      (λ u. rw u (with_event t3_row t3_keeps a t _ low high (happens_state now _ t3_row) (happens_alignment now _ t3_row) w)) (λ u. rw u w)

  with_request : With a (terminal.requests now t).terminal
  unfolding terminal.requests
  with_request =
      by_test (terminal.bars ar_row t.state)
      (λ o. rw o w) (λ o. rw o (with_event ar_row request_keeps a t _ low high (happens_state now t ar_row) (happens_alignment now t ar_row) w))

  on_leads : eqb t.state F1 ≡ true → next_state on_row t.state ≡ F2
  unfolding cell_in
  on_leads o = rw (eqb-true t.state F1 o)

  with_on : With a (terminal.switches_on now t).terminal
  unfolding terminal.switches_on terminal.aligned terminal.bars
  with_on =
      by_test (eqb t.state F1)
      (λ o. rw o (behind 0 (happens_state now _ on_row ∙ on_leads o) (happens_alignment now _ on_row) (any_reaches a))) (λ o. rw o w)

  with_off : With a (terminal.switches_off now t).terminal
  unfolding terminal.switches_off terminal.no_timer terminal.bars
  with_off =
      by_test (eqb t.state F1) (λ o. rw o w)
      (λ o. rw o (off (happens_state now _ off_row ∙ eqb-true (next_state off_row t.state) F1 (in_f1_after_lem off_row t.state low high))))

  with_does : (number : ℕ) → With a (terminal_does number now t).terminal
  with_does number = does_each (λ s. With a s.terminal) number now t with_on with_off with_request w

-- ---- all terminals of a bus
abbrev Hears : Alignment → Station → Type 0
Hears a s = With a s.terminal

record Agreed (b : Bus) : Type 0 where
  line : Alignment
  all : Each (Hears line) b.stations

turned_hears : (a : Alignment) (e : Bool) (s : Station) → Hears a s → Hears a (station_after_e e s)
unfolding station_after_e
turned_hears a e s w = by_test (in_f7 s) (λ t. rw t (with_same a s.terminal _ refl refl w)) (λ t. rw t w)

heard_all : (b : Bus) (a : Alignment) → InRange b → Each (Hears a) b.stations → Each (Hears (heard_as (shown_down (whole_down (exchanged b))) a)) (heard_by (exchanged b) b).stations
unfolding station_then terminal_hears stepped
heard_all b a r w i =
    let t = (station_then i (exchanged b)).terminal in
    let f = terminal_fits t (exchanged_in b r i) in
    rw (station_heard i (exchanged b) b)
    (with_heard (shown_down (whole_down (exchanged b))) b.periods a t f.from_f1 f.to_f8 (each_exchanged (Hears a) (turned_hears a) b w i))

timed_all : (b : Bus) (a : Alignment) → InRange b → Each (Hears a) b.stations → Each (Hears a) (timed b).stations
unfolding stepped
timed_all b a r w i =
    let f = terminal_fits (station_at i b).terminal (r.terminals_fit i) in
    rw (station_timed i b) (with_timer b.periods a (station_at i b).terminal f.from_f1 f.to_f8 (w i))

agreed_period : (b : Bus) → b.periods < most_periods → InRange b → Agreed b → Agreed (period_run b)
unfolding period_run
agreed_period b l r g =
    record {
      line = heard_as (shown_down (whole_down (exchanged b))) g.line;
      all = timed_all (heard_by (exchanged b) b) _ (heard_in_lem b l r) (heard_all b g.line r g.all);
    }

station_hears : (unit number : ℕ) (value : List ℕ) (b : Bus) (a : Alignment) → InRange b → Each (Hears a) b.stations →
    Hears a (station_after number value b.periods (station_of b unit))
unfolding station_after stepped with_frame
station_hears unit number value b a r w =
    let f = terminal_fits (station_of b unit).terminal (r.terminals_fit (unit - 1)) in
    by_test (eqb (class_of number) 0)
    (λ u. rw u (with_does b.periods a (station_of b unit).terminal f.from_f1 f.to_f8 (w (unit - 1)) number))
    (λ u. rw u (with_same a (station_of b unit).terminal _ refl refl (w (unit - 1))))

agreed_event : (unit number : ℕ) (value : List ℕ) (b : Bus) → InRange b → Agreed b → Agreed (event_done unit number value b)
agreed_event unit number value b r g =
    record { line = g.line; all = each_event (Hears g.line) unit number value b (station_hears unit number value b g.line r g.all) g.all }

-- ---- every call, every list of calls
agreed_after : (b : Bus) (c : Call) → InRange b → Agreed b → Agreed (after b c)
unfolding after does reply
agreed_after b (event unit number value) r g =
    by_test (eqb (refusal b unit number value) 0) (λ t. rw t (agreed_event unit number value b r g)) (λ t. rw t g)
agreed_after b period r g =
    by_test (leb most_periods b.periods) (λ t. rw t g) (λ t. rw t (agreed_period b (leb-false most_periods b.periods t) r g))

agreed_ran : (b : Bus) (calls : List Call) → InRange b → Agreed b → Agreed (after_all b calls)
unfolding after_all
agreed_ran b [] r g = g
agreed_ran b (c ∷ more) r g = agreed_ran (after b c) more (call_in b c r) (agreed_after b c r g)

all_off : (n : ℕ) → Each (Hears fresh) (replicate n fresh_station)
all_off zero i = off refl
all_off (suc n) zero = off refl
all_off (suc n) (suc i) = all_off n i

agreed : (calls : List Call) → Agreed (after_all fresh_bus calls)
agreed calls = agreed_ran fresh_bus calls fresh_in (record { line = fresh; all = all_off terminals })

-- ---- so
with_own : (a : Alignment) (t : Terminal) → eqb t.state F1 ≡ false → With a t → in_f6_or_f7 t.state ≡ t.alignment.aligned
with_own a t on (off o) = clash (eqb t.state F1) (eq-eqb t.state F1 o) on
with_own a t on (level own e) = own
with_own a t on (behind r two e h) = rw (two, e)

pub always_together : apart.AlwaysTogether
always_together calls i on = with_own (agreed calls).line _ on ((agreed calls).all i)

-- who sends INFO 1 hears what all hear, and is not aligned; who sends INFO 3 hears it too, and is aligned
module _ (a : Alignment) (s : Station) (w : Hears a s) where
  calls_unaligned : eqb (info_in Table62.info_sent s.terminal.state) 1 ≡ true → a.aligned ≡ false
  calls_unaligned h = from w (eqb-true s.terminal.state F4 (sym (info_1_sent s.terminal.state) ∙ h))
    where
      from : Hears a s → s.terminal.state ≡ F4 → a.aligned ≡ false
      from (off o) f = absurd (omega arith)
      from (level own e) f = rw (← e, ← own, f)
      from (behind r two e k) f = absurd (omega arith)

  frames_aligned : eqb (info_in Table62.info_sent s.terminal.state) 3 ≡ true → a.aligned ≡ true
  frames_aligned h = from w (sym (info_3_sent s.terminal.state) ∙ h)
    where
      from : Hears a s → in_f6_or_f7 s.terminal.state ≡ true → a.aligned ≡ true
      from (off o) f = absurd (true≢false (sym (rw o at f)))
      from (level own e) f = rw (← e, ← own) f
      from (behind r two e k) f = absurd (true≢false (sym (rw two at f)))

one_calls : (a : Alignment) (ss : List Station) → Each (Hears a) ss → any_info1 ss ≡ true → a.aligned ≡ false
unfolding any_sends
one_calls a [] w h = absurd (true≢false (sym h))
one_calls a (s ∷ ss) w h =
    by_test (eqb (info_in Table62.info_sent s.terminal.state) 1) (λ t. calls_unaligned a s (w 0) t) (λ t. one_calls a ss (λ i. w (suc i)) (rw t at h))

one_sends : (a : Alignment) (ss : List Station) → Each (Hears a) ss → any_info3 ss ≡ true → a.aligned ≡ true
unfolding any_sends
one_sends a [] w h = absurd (true≢false (sym h))
one_sends a (s ∷ ss) w h =
    by_test (eqb (info_in Table62.info_sent s.terminal.state) 3) (λ t. frames_aligned a s (w 0) t) (λ t. one_sends a ss (λ i. w (suc i)) (rw t at h))

pub info_1_apart : apart.Info1Apart
info_1_apart calls =
    let stations = (after_all fresh_bus calls).stations in
    let g = agreed calls in
    by_test (any_info1 stations)
    (λ t. by_test (any_info3 stations) (λ u. clash g.line.aligned (one_sends g.line stations g.all u) (one_calls g.line stations g.all t)) (λ u. rw (t, u)))
    (λ t. rw t)
