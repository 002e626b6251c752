-- The exchange of a period does not depend on an image's bits past those of the frame held, nor on the reader: of two buses that differ only
-- there, E, D, what is completed and what is heard are the same.
use mathlib.Core.Path.{◌≡◌, refl, ◌∙◌, ap}
use mathlib.Core.Bool.{Bool, true, cond}
use mathlib.Core.List.{List, map}
use Prim.Native.Nat.{ℕ, suc, ◌+◌, ◌≤◌, ◌<◌}
use native.Mathlib.Omega.{arith}
use lib.Dec.{eqb}
use lib.ListN.{get_or}
use borrow.Author.Tests.{eqb-true, eqb-false}
use Rattle.test_lemmas.proofs.ByCases.{by_test}
use Rattle.dchannel.specs.Access.{normal1, normal2, entered, after_e, sends_next, completes, stops, idles, may_start, access_step}
use Rattle.dchannel.specs.Handing.{left}
use Rattle.dchannel.specs.declared.access.Access.{Access}
use Rattle.dchannel.specs.declared.access.AccessStep.{AccessStep}
use Rattle.dchannel.proofs.AccessLaws.{by_ways, may_held, access_step_next}
use Rattle.table_6_2.specs.Table62.{F7}
use Rattle.table_6_3.specs.Table63.{G3}
use Rattle.hdlc.specs.Reading.{cleared}
use Rattle.network.specs.Network as network
use Rattle.terminal.specs.Terminal as terminal
use Rattle.terminal.specs.declared.Terminal.{Terminal}
use Rattle.terminal.specs.Steps.{TerminalStep}
use Rattle.terminal.proofs.Laws.{AccessByState, hears_access, timer_access}
use Rattle.bus_rules.specs.Bus.{Station, Hit, Bus, station_at, with_counts, with_network, with_heard_d, with_hit, with_cycle}
use Rattle.bus_rules.specs.Exchange.{Sender, Opportunity, in_f7, access_step_of, station_after_e, d_of, done_of, hears_e, sent_of, line_up, e_comes, senders_after, d_comes, onward, as_sender, begins, opportunities_of, exchanged, stations_of, whole_down, fa_down, fa_sent, sent_from, whole_up}
use Rattle.bus_rules.specs.Period.{network_hears, terminal_hears, stepped, cycle_after, heard_by, timed, period_run}
use Rattle.bus_rules.proofs.Stations.{station_begins, station_onward, station_heard, station_timed}
use Rattle.bus_call_specs.specs.Shown.{bare}
use Rattle.bus_call_specs.proofs.Fields.{periods_of, opportunities_of_lem, network_of, heard_of_lem, hit_of, cycle_of}
use Rattle.bus_call_specs.proofs.Pairs.{Both, none, one, both_map, both_equal}

-- ---- the frame held

-- no frame held, none to send; a frame held has a bit
pub record AccessInOrder (a : Access) : Type 0 where
  pub none_held : a.held ≡ 0 → (a.length ≡ 0) × (a.sent ≡ 0)
  pub room : 1 ≤ a.held → 1 ≤ a.length

-- the frame held after a step was held before it
pub record Still (a after : Access) : Type 0 where
  pub in_order : AccessInOrder after
  pub was_held : 1 ≤ after.held → 1 ≤ a.held
  pub same_length : 1 ≤ after.held → after.length ≡ a.length

none_after : (a : Access) → a.held ≡ 0 → a.length ≡ 0 → a.sent ≡ 0 → AccessInOrder a
none_after a h l s = record { none_held = λ z. (l, s); room = λ z. absurd (omega arith) }

some_after : (a : Access) → 1 ≤ a.held → 1 ≤ a.length → AccessInOrder a
some_after a h l = record { none_held = λ z. absurd (omega arith); room = λ z. l }

some : (n : ℕ) → (n ≡ 0 → ⊥) → 1 ≤ n
some n h = by_test (eqb n 0) (λ t. absurd (h (eqb-true n 0 t))) (λ t. omega (arith, eqb-false n 0 t))

still_turned : (e next : Bool) (a : Access) → AccessInOrder a → Still a (access_step normal1 normal2 e next a).access
unfolding after_e sends_next completes stops idles
still_turned e next a o =
    by_ways normal1 normal2 e next a (λ (t : AccessStep). Still a t.access)
    (λ s q l. let h : 1 ≤ a.held = held s in record { in_order = some_after _ h (o.room h); was_held = λ z. z; same_length = λ z. refl })
    (λ s q l. record { in_order = none_after _ refl refl refl; was_held = λ z. absurd (omega arith); same_length = λ z. absurd (omega arith) })
    (λ s d. let h : 1 ≤ a.held = held s in record { in_order = some_after _ h (o.room h); was_held = λ z. z; same_length = λ z. refl })
    (λ s m. let h : 1 ≤ a.held = may m in record { in_order = some_after _ h (o.room h); was_held = λ z. z; same_length = λ z. refl })
    (λ s m. record { in_order = record { none_held = o.none_held; room = o.room }; was_held = λ z. z; same_length = λ z. refl })
  where
    held : 0 < a.sent → 1 ≤ a.held
    held s = some a.held (λ z. omega (arith, (o.none_held z).1))

    may : may_start normal1 normal2 (after_e normal1 normal2 e a) ≡ true → 1 ≤ a.held
    may m = some a.held (may_held normal1 normal2 (after_e normal1 normal2 e a) m)

still_same : (a : Access) → AccessInOrder a → Still a a
still_same a o = record { in_order = o; was_held = λ z. z; same_length = λ z. refl }

-- hearing, timers, power and requests
still_stepped : (f : Terminal → TerminalStep) (t : Terminal) → AccessByState f t → AccessInOrder t.access → Still t.access (f t).terminal.access
unfolding terminal.access_after left entered
still_stepped f t h o =
    rw h
    (by_test (eqb t.state F7)
    (λ u.
    rw u
    (by_test (eqb (f t).terminal.state F7)
    (λ v. rw v (still_same t.access o))
    (λ v. rw v (record { in_order = none_after _ refl refl refl; was_held = λ z. absurd (omega arith); same_length = λ z. absurd (omega arith) }))))
    (λ u.
    rw u
    (by_test (eqb (f t).terminal.state F7)
    (λ v. rw v (record { in_order = record { none_held = o.none_held; room = o.room }; was_held = λ z. z; same_length = λ z. refl }))
    (λ v. rw v (still_same t.access o)))))

-- ---- a terminal with its image

-- the same bits of the frame held
abbrev pub SameBits : Access → List Bool → List Bool → Type 0
SameBits a xs ys = (j : ℕ) → 1 ≤ a.held → j < a.length → get_or xs j true ≡ get_or ys j true

pub record SameStation (s t : Station) : Type 0 where
  pub terminal_is : s.terminal ≡ t.terminal
  pub in_order : AccessInOrder t.terminal.access
  pub bits : SameBits t.terminal.access s.image t.image

bits_still : (a after : Access) (xs ys : List Bool) → Still a after → SameBits a xs ys → SameBits after xs ys
bits_still a after xs ys s h j l k = h j (s.was_held l) (omega (arith, s.same_length l))

turn_same : (e : Bool) (s t : Station) → SameStation s t → access_step_of e s ≡ access_step_of e t
unfolding access_step_of
turn_same e s t h =
    let a = t.terminal.access in
    rw h.terminal_is
    (access_step_next normal1 normal2 e _ _ a (λ z. h.in_order.room (some a.held z))
    (λ l. h.bits a.sent (some a.held (λ z. omega (arith, (h.in_order.none_held z).0))) l))

f7_same : (s t : Station) → SameStation s t → in_f7 s ≡ in_f7 t
f7_same s t h = rw h.terminal_is

still_turn : (e : Bool) (s : Station) → AccessInOrder s.terminal.access → Still s.terminal.access (access_step_of e s).access
unfolding access_step_of
still_turn e s o = still_turned e (get_or s.image s.terminal.access.sent true) s.terminal.access o

station_turned : (e : Bool) (s t : Station) → SameStation s t → SameStation (station_after_e e s) (station_after_e e t)
unfolding station_after_e
station_turned e s t h =
    by_test (in_f7 t)
    (λ f.
    let w = still_turn e t h.in_order in
    rw (f7_same s t h ∙ f, f)
    (record {
      terminal_is = rw (turn_same e s t h, h.terminal_is);
      in_order = w.in_order;
      bits = bits_still _ _ s.image t.image w h.bits;
    }))
    (λ f. rw (f7_same s t h ∙ f, f) h)

station_stepped : (f : Terminal → TerminalStep) → ((t : Terminal) → AccessByState f t) → (s t : Station) → SameStation s t → SameStation (stepped f s) (stepped f t)
unfolding stepped
station_stepped f k s t h =
    let w = still_stepped f t.terminal (k t.terminal) h.in_order in
    record { terminal_is = rw h.terminal_is; in_order = w.in_order; bits = bits_still _ _ s.image t.image w h.bits }

-- ---- a terminal in the exchange
pub record SameSender (s t : Sender) : Type 0 where
  pub station : SameStation s.station t.station
  pub ds_are : s.ds ≡ t.ds
  pub done_is : s.done ≡ t.done

sender_stationed : (s t : Station) → SameStation s t → SameSender (as_sender s) (as_sender t)
unfolding as_sender
sender_stationed s t h = record { station = h; ds_are = refl; done_is = refl }

sender_hears : (e : Bool) (s t : Sender) → SameSender s t → SameSender (hears_e e s) (hears_e e t)
unfolding hears_e d_of done_of
sender_hears e s t h =
    record {
      station = station_turned e s.station t.station h.station;
      ds_are = rw (f7_same _ _ h.station, turn_same e _ _ h.station, h.ds_are);
      done_is = rw (f7_same _ _ h.station, turn_same e _ _ h.station, h.done_is);
    }

sender_sends : (s t : Sender) → SameSender s t → sent_of s ≡ sent_of t
unfolding sent_of
sender_sends s t h = rw (h.station.terminal_is, h.ds_are)

-- what all send, each with its FA
sent_same : (f g : ℕ → Bool) → ((i : ℕ) → f i ≡ g i) → {ss ts : List Sender} → Both SameSender ss ts → (i : ℕ) → sent_from f i ss ≡ sent_from g i ts
unfolding sent_from
sent_same f g e none i = refl
sent_same f g e (one h more) i = rw (e i, h.station.terminal_is, h.ds_are, sent_same f g e more (suc i))

line_up_same : {ss ts : List Sender} → Both SameSender ss ts → line_up ss ≡ line_up ts
unfolding line_up
line_up_same h = rw (both_equal SameSender sent_of sent_of sender_sends h)

f7_all_same : {ss ts : List Sender} → Both SameSender ss ts → map in_f7 (stations_of ss) ≡ map in_f7 (stations_of ts)
f7_all_same none = refl
f7_all_same (one h more) = rw (h.station.terminal_is, f7_all_same more)

-- ---- the exchange as an E comes
pub record SameOpportunity (m n : Opportunity) : Type 0 where
  pub network_is : m.network ≡ n.network
  pub hit_is : m.hit ≡ n.hit
  pub cycle_is : m.cycle ≡ n.cycle
  pub senders : Both SameSender m.senders n.senders
  pub es_are : m.es ≡ n.es
  pub heard_is : m.heard_d ≡ n.heard_d

module _ (m n : Opportunity) (h : SameOpportunity m n) where
  e_same : e_comes m ≡ e_comes n
  unfolding e_comes
  e_same = rw (h.network_is, h.hit_is, h.cycle_is, h.es_are, h.heard_is)

  after_same : Both SameSender (senders_after m) (senders_after n)
  unfolding senders_after
  after_same = rw e_same (both_map SameSender SameSender (hears_e (e_comes n)) (hears_e (e_comes n)) (sender_hears (e_comes n)) h.senders)

  d_same : d_comes m ≡ d_comes n
  unfolding d_comes
  d_same = rw (line_up_same after_same, h.es_are)

  onward_same : SameOpportunity (onward m) (onward n)
  unfolding onward
  onward_same =
      record {
        network_is = h.network_is;
        hit_is = h.hit_is;
        cycle_is = h.cycle_is;
        senders = after_same;
        es_are = rw (h.es_are, h.heard_is);
        heard_is = d_same;
      }

  pub down_same : whole_down m ≡ whole_down n
  unfolding whole_down
  down_same = rw (h.network_is, h.hit_is, h.cycle_is, h.es_are)

  fa_same : (i : ℕ) → fa_sent m i ≡ fa_sent n i
  unfolding fa_sent fa_down
  fa_same i = rw (down_same, h.cycle_is)

  up_same : whole_up m ≡ whole_up n
  unfolding whole_up
  up_same = rw (sent_same (fa_sent m) (fa_sent n) fa_same h.senders 0)

  cycle_after_same : cycle_after m ≡ cycle_after n
  unfolding cycle_after
  cycle_after_same = rw (up_same, down_same, h.network_is, f7_all_same h.senders, h.cycle_is)

-- ---- two buses that differ only there
pub record SameBus (b c : Bus) : Type 0 where
  pub bare_same : bare b ≡ bare c
  pub stations : Both SameStation b.stations c.stations

hears_by_state : (down : List ℕ) (now : ℕ) (t : Terminal) → AccessByState (terminal_hears down now) t
unfolding terminal_hears
hears_by_state down now t = hears_access now t _

station_of_sender : (s t : Sender) → SameSender s t → SameStation s.station t.station
station_of_sender s t h = h.station

module _ (b c : Bus) (h : SameBus b c) where
  pub periods_same : b.periods ≡ c.periods
  periods_same = periods_of h.bare_same

  pub network_same : b.network ≡ c.network
  network_same = network_of h.bare_same

  begins_same : SameOpportunity (begins b) (begins c)
  unfolding begins
  begins_same =
      record {
        network_is = rw network_same;
        hit_is = hit_of h.bare_same;
        cycle_is = rw (cycle_of h.bare_same);
        senders = both_map SameStation SameSender as_sender as_sender sender_stationed h.stations;
        es_are = refl;
        heard_is = heard_of_lem h.bare_same;
      }

  first : SameOpportunity (onward (begins b)) (onward (begins c))
  first = onward_same _ _ begins_same

  second : SameOpportunity (onward (onward (begins b))) (onward (onward (begins c)))
  second = onward_same _ _ first

  third : SameOpportunity (onward (onward (onward (begins b)))) (onward (onward (onward (begins c))))
  third = onward_same _ _ second

  pub exchanged_same : SameOpportunity (exchanged b) (exchanged c)
  unfolding exchanged
  exchanged_same = onward_same _ _ third

  -- the four D
  pub ds_same : map d_comes (opportunities_of b) ≡ map d_comes (opportunities_of c)
  unfolding opportunities_of
  ds_same = rw (d_same _ _ begins_same, d_same _ _ first, d_same _ _ second, d_same _ _ third)

  -- what is heard of the lines
  pub network_hears_same : network_hears (whole_up (exchanged b)) b.periods b.network ≡ network_hears (whole_up (exchanged c)) c.periods c.network
  network_hears_same = rw (up_same _ _ exchanged_same, periods_same, network_same)

  -- hearing, then the timers
  pub heard_same : SameBus (heard_by (exchanged b) b) (heard_by (exchanged c) c)
  unfolding heard_by exchanged begins
  heard_same =
      let step = terminal_hears (whole_down (exchanged c)) c.periods in
      record {
        bare_same =
            ap (λ (x : Bus). with_counts (b.periods + 1) (b.opportunities + cond (eqb b.network.state G3) 4 0) (with_network (network_hears (whole_up (exchanged b)) b.periods b.network).network cleared (with_heard_d (exchanged b).heard_d (with_hit Hit.none (with_cycle (cycle_after (exchanged b)) x))))) h.bare_same
            ∙ rw (cycle_after_same _ _ exchanged_same, network_hears_same, exchanged_same.heard_is, network_same, periods_same, opportunities_of_lem h.bare_same);
        stations =
            rw (down_same _ _ exchanged_same, periods_same)
            (both_map SameStation SameStation (stepped step) (stepped step) (station_stepped step (hears_by_state _ _))
            (both_map SameSender SameStation (λ (s : Sender). s.station) (λ (s : Sender). s.station) station_of_sender exchanged_same.senders));
      }

  timed_same : SameBus (timed b) (timed c)
  unfolding timed
  timed_same =
      record {
        bare_same =
            ap (with_network (network.timers b.periods b.network).network cleared) h.bare_same ∙ rw (network_same, periods_same);
        stations =
            rw periods_same
            (both_map SameStation SameStation (stepped (terminal.timer c.periods)) (stepped (terminal.timer c.periods))
            (station_stepped (terminal.timer c.periods) (timer_access c.periods)) h.stations);
      }

pub period_same : (b c : Bus) → SameBus b c → SameBus (period_run b) (period_run c)
unfolding period_run
period_same b c h = timed_same _ _ (heard_same b c h)

pub terminals_same : (b c : Bus) → SameBus b c → map (λ (s : Station). s.terminal) b.stations ≡ map (λ (s : Station). s.terminal) c.stations
terminals_same b c h = both_equal SameStation (λ (s : Station). s.terminal) (λ (s : Station). s.terminal) (λ s t e. e.terminal_is) h.stations

-- ---- one terminal through a period: the frame held after it was held before, with the same image
abbrev pub HasBits : List Bool → Station → Type 0
HasBits xs s = AccessInOrder s.terminal.access × SameBits s.terminal.access xs s.image

has_turned : (xs : List Bool) (e : Bool) (s : Station) → HasBits xs s → HasBits xs (station_after_e e s)
unfolding station_after_e
has_turned xs e s h =
    by_test (in_f7 s)
    (λ f. let w = still_turn e s h.0 in rw f (w.in_order, bits_still _ _ xs s.image w h.1))
    (λ f. rw f h)

pub has_stepped : (xs : List Bool) (f : Terminal → TerminalStep) → ((t : Terminal) → AccessByState f t) → (s : Station) → HasBits xs s → HasBits xs (stepped f s)
unfolding stepped
has_stepped xs f k s h = let w = still_stepped f s.terminal (k s.terminal) h.0 in (w.in_order, bits_still _ _ xs s.image w h.1)

pub has_period : (xs : List Bool) (i : ℕ) (b : Bus) → HasBits xs (station_at i b) → HasBits xs (station_at i (period_run b))
unfolding period_run exchanged
has_period xs i b h =
    rw (
      station_timed i (heard_by (exchanged b) b),
      station_heard i (exchanged b) b,
      station_onward i (onward (onward (onward (begins b)))),
      station_onward i (onward (onward (begins b))),
      station_onward i (onward (begins b)),
      station_onward i (begins b),
      station_begins i b,
    )
    (has_stepped xs _ (timer_access _) _
    (has_stepped xs _ (hears_by_state _ _) _
    (has_turned xs _ _ (has_turned xs _ _ (has_turned xs _ _ (has_turned xs _ _ h))))))
