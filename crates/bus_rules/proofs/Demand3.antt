-- Demand 3 of the bus, from any sound one on, from demand 3 of the D channel.
use mathlib.Core.Path.{◌≡◌, refl, sym, ap, ◌∙◌}
use mathlib.Core.Bool.{Bool, true}
use mathlib.Core.List.{List, [], ◌∷◌, ◌++◌, map, append_assoc}
use Prim.Native.Nat.{ℕ, zero, suc, ◌+◌, ◌-◌, ◌≤◌, ◌<◌}
use native.Mathlib.Nat.{add-zero, zero-add}
use native.Mathlib.Omega.{arith}
use lib.Dec.{eqb, ltb}
use lib.ListN.{length, get_or, length-map, get_or-map}
use borrow.Author.Tests.{eqb-true, eqb-false, eq-eqb, ne_eqb, ltb-true, ltb-false}
use Rattle.test_lemmas.proofs.ByCases.{by_test}
use Rattle.table_6_2.specs.Table62.{F1, F7}
use Rattle.hdlc.specs.Reading.{Said}
use Rattle.hdlc.specs.Reading.Said.{nothing, torn, heard}
use Rattle.hdlc.proofs.ImageLaws.{length_image}
use Rattle.dchannel.specs.Access.{normal1, normal2}
use Rattle.dchannel.proofs.AccessLaws.{length_most}
use Rattle.contention.specs.Channel.{Channel, Action, fresh_channel, access_step_at, run}
use Rattle.contention.specs.Stretch as channel
use Rattle.contention.specs.Claims as channelClaims
use Rattle.contention.proofs.Crossing.{contender_map}
use Rattle.contention.proofs.Demand3 as channel-demand3
use Rattle.contention.proofs.Trace.{invariant_at}
use Rattle.contention.proofs.HeardSteps.{completes_whole}
use Rattle.contention.proofs.OpeningFlag as flag
use Rattle.bus_rules.specs.Bus.{Station, Bus, terminals, fresh_station, fresh_bus, station_at}
use Rattle.bus_rules.specs.Exchange.{Opportunity, in_f7, stations_of, access_step_of, station_after_e, e_comes, said_to, onward, begins}
use Rattle.bus_rules.specs.Calls.{Call, reply, after, notes, after_all, notes_of_all}
use Rattle.bus_rules.specs.Calls.Call.{event, period}
use Rattle.bus_rules.specs.Stretch.{Stretch, opportunities_of_call, opportunities_in, station_then, Waits, Completes, Begins, body_in, body_heard, first_done, body_completed, buses, powered, powered_from, powered_in, longest_of, longest_in}
use Rattle.bus_rules.specs.Claims.{nowhere, at, opps, NoRivalTwice, WaitEnds, NoStopInFlag, BegunSince, HeardWhole, HeardInOrder, BegunHeard, heard_from, completed_from, HeardAsCompleted, PartOfList, Demand3}
use Rattle.bus_rules.specs.BusChannel.{contender_of, contenders_of, channel_of}
use Rattle.bus_rules.specs.Sound as sound
use Rattle.bus_rules.specs.Sound.{Sound}
use Rattle.bus_rules.proofs.Stations.{Each, each_begins, each_onward, length_ran}
use Rattle.bus_rules.proofs.Mapping.{channel_at, turn_is}
use Rattle.bus_rules.proofs.Simulation.{chain, four_in_chain, all_actions, calls_channel}
use Rattle.bus_rules.proofs.Sound.{sound_fresh, sound_after}
use Rattle.bus_rules.proofs.Stretches.{Faithful, Every, empty, also, every_append, faithful, calls_stretch, calls_opportunities}
use Rattle.bus_rules.proofs.Telling.{all_tell}

every_at : {P : Opportunity → Type 0} {ms : List Opportunity} → Every P ms → (t : ℕ) → t < length ms → P (at ms t)
every_at empty t h = absurd (omega arith)
every_at (also p ps) zero h = p
every_at (also p ps) (suc t) h = every_at ps t (omega arith)

-- ---- the words of the bus and those of the channel, at an undisturbed opportunity
contender_then : (i : ℕ) (m : Opportunity) → channel.contender i (channel_at m) ≡ contender_of (station_then i m)
unfolding channel_at station_then
contender_then i m = contender_map contender_of fresh_station refl (channel_at m) (stations_of m.senders) refl i

body_then : (i : ℕ) (m : Opportunity) → (channel.contender i (channel_at m)).body ≡ (station_then i m).body
body_then i m = rw (contender_then i m)

turn_then_lem : (i : ℕ) (m : Opportunity) → Faithful m → access_step_at normal1 normal2 (channel_at m).heard_d (channel.contender i (channel_at m)) ≡ access_step_of (e_comes m) (station_then i m)
unfolding channel_at station_then
turn_then_lem i m f = rw (contender_then i m, f.e_is) (sym (turn_is m.heard_d (station_then i m) (f.imaged i)))

active_then : (i : ℕ) (m : Opportunity) → (station_then i m).terminal.state ≡ F7 → (channel.contender i (channel_at m)).active ≡ true
active_then i m h = rw (contender_then i m) (eq-eqb (station_then i m).terminal.state F7 h)

active_back : (i : ℕ) (m : Opportunity) → (channel.contender i (channel_at m)).active ≡ true → (station_then i m).terminal.state ≡ F7
active_back i m h = eqb-true (station_then i m).terminal.state F7 (rw (contender_then i m) at h)

waits_to : (k i : ℕ) (m : Opportunity) → Waits k i m → channel.Waits k i (channel_at m)
waits_to k i m w =
    record {
      in_f7_lem = active_then i m w.in_f7_lem;
      holds = rw (contender_then i m) w.holds;
      normal = rw (contender_then i m) w.normal;
    }

completes_to : (k i : ℕ) (m : Opportunity) → Faithful m → Completes k i m → channel.Completes normal1 normal2 k i (channel_at m)
completes_to k i m f c = record { in_f7_lem = active_then i m c.in_f7_lem; done = rw (turn_then_lem i m f) c.done }

completes_back : (k i : ℕ) (m : Opportunity) → Faithful m → channel.Completes normal1 normal2 k i (channel_at m) → Completes k i m
completes_back k i m f c = record { in_f7_lem = active_back i m c.in_f7_lem; done = rw (turn_then_lem i m f) at c.done }

begins_to : (i : ℕ) (m : Opportunity) → Faithful m → Begins i m → channel.Begins normal1 normal2 i (channel_at m)
begins_to i m f b =
    record { in_f7_lem = active_then i m b.in_f7_lem; idle = rw (contender_then i m) b.idle; first = rw (turn_then_lem i m f) b.first }

begins_back : (i : ℕ) (m : Opportunity) → Faithful m → channel.Begins normal1 normal2 i (channel_at m) → Begins i m
begins_back i m f b =
    let active = active_back i m b.in_f7_lem in
    let idle = rw (contender_then i m) at b.idle in
    let first = rw (turn_then_lem i m f) at b.first in
    search

said_then : (m : Opportunity) → Faithful m → said_to m ≡ channel.said_at normal1 normal2 (channel_at m)
unfolding said_to channel.said_at channel_at
said_then m f = rw (f.reads, f.d_is)

-- ---- n: who is in F7 at the end is powered at some time
powered_last : (i : ℕ) (b : Bus) (calls : List Call) → in_f7 (station_at i (after_all b calls)) ≡ true → powered i (buses b calls) ≡ true
unfolding after_all buses powered
powered_last i b [] h = rw (eqb-true (station_at i b).terminal.state F7 h)
powered_last i b (c ∷ more) h =
    by_test (eqb (station_at i b).terminal.state F1) (λ t. rw t (powered_last i (after b c) more h)) (λ t. rw t)

active_at_most : (ss : List Station) (k : ℕ) (bs : List Bus) → ((i : ℕ) → in_f7 (get_or ss i fresh_station) ≡ true → powered (k + i) bs ≡ true) →
    channel.active_count (contenders_of ss) ≤ powered_from k (length ss) bs
unfolding channel.how_many powered_from
active_at_most [] k bs h = omega arith
active_at_most (s ∷ ss) k bs h =
    let rest = active_at_most ss (suc k) bs (λ i e. rw (suc_shift k i) (h (suc i) e)) in
    by_test (in_f7 s) (λ t. rw (t, rw (add-zero k) at (h 0 t)) (omega arith)) (λ t. rw t (omega arith))
  where
    suc_shift : (a b : ℕ) → suc a + b ≡ a + suc b
    suc_shift a b = omega arith

active_powered : (b : Bus) (calls : List Call) → length b.stations ≡ terminals →
    channel.active_count (contenders_of (after_all b calls).stations) ≤ powered_in (buses b calls)
unfolding powered_in
active_powered b calls h =
    rw (length_ran b calls ∙ h) at (active_at_most (after_all b calls).stations 0 (buses b calls) (λ i e. rw (zero-add i) (powered_last i b calls e)))

-- ---- L: every image held at an opportunity is held where its period begins
abbrev AtMost : ℕ → Station → Type 0
AtMost L s = s.terminal.access.length ≤ L

abbrev AllAtMost : ℕ → Opportunity → Type 0
AllAtMost L m = Each (AtMost L) (stations_of m.senders)

turn_at_most : (e : Bool) (s : Station) → (access_step_of e s).access.length ≤ s.terminal.access.length
unfolding access_step_of
turn_at_most e s = length_most normal1 normal2 e _ s.terminal.access

turned_at_most : (L : ℕ) (e : Bool) (s : Station) → AtMost L s → AtMost L (station_after_e e s)
unfolding station_after_e
turned_at_most L e s h = by_test (in_f7 s) (λ t. rw t (omega (arith, turn_at_most e s, h))) (λ t. rw t h)

longest_at_most : (L : ℕ) (ss : List Station) → longest_of ss ≤ L → Each (AtMost L) ss
unfolding longest_of
longest_at_most L [] h i = omega arith
longest_at_most L (s ∷ ss) h zero = omega arith
longest_at_most L (s ∷ ss) h (suc i) = longest_at_most L ss (omega arith) i

chain_at_most : (L n : ℕ) (m : Opportunity) → AllAtMost L m → Every (AllAtMost L) (chain n m)
unfolding chain
chain_at_most L zero m h = empty
chain_at_most L (suc n) m h = also h (chain_at_most L n (onward m) (each_onward (AtMost L) (turned_at_most L) m h))

call_at_most : (L : ℕ) (b : Bus) (c : Call) → Each (AtMost L) b.stations → Every (AllAtMost L) (opportunities_of_call b c)
unfolding opportunities_of_call
call_at_most L b (event unit number value) h = empty
call_at_most L b period h =
    by_test (eqb (reply b period) 0)
    (λ t. rw (t, four_in_chain b) (chain_at_most L 4 (begins b) (each_begins (AtMost L) (turned_at_most L) b h)))
    (λ t. rw t empty)

calls_at_most : (L : ℕ) (b : Bus) (calls : List Call) → longest_in (buses b calls) ≤ L → Every (AllAtMost L) (opportunities_in b calls)
unfolding opportunities_in buses longest_in
calls_at_most L b [] h = empty
calls_at_most L b (c ∷ more) h =
    every_append (call_at_most L b c (longest_at_most L b.stations (omega arith))) (calls_at_most L (after b c) more (omega arith))

-- ---- a stretch as a part of the list
opportunities_append : (b : Bus) (xs ys : List Call) → opportunities_in b (xs ++ ys) ≡ opportunities_in b xs ++ opportunities_in (after_all b xs) ys
unfolding after_all opportunities_in
opportunities_append b [] ys = refl
opportunities_append b (c ∷ more) ys =
    rw (opportunities_append (after b c) more ys) (sym (append_assoc (opportunities_of_call b c) (opportunities_in (after b c) more) (opportunities_in (after_all (after b c) more) ys)))

pub notes_append : (b : Bus) (xs ys : List Call) → notes_of_all b (xs ++ ys) ≡ notes_of_all b xs ++ notes_of_all (after_all b xs) ys
unfolding after_all notes_of_all
notes_append b [] ys = refl
notes_append b (c ∷ more) ys =
    rw (notes_append (after b c) more ys) (sym (append_assoc (notes b c) (notes_of_all (after b c) more) (notes_of_all (after_all (after b c) more) ys)))

part_of_list : (b : Bus) (before during later : List Call) → PartOfList b before during later
part_of_list b before during later =
    record {
      in_opportunities = rw (opportunities_append b before (during ++ later), opportunities_append (after_all b before) during later);
      in_notes = rw (notes_append b before (during ++ later), notes_append (after_all b before) during later);
    }

-- ---- the body completed at an opportunity: none where nobody completes a frame; where all that complete one have one body, that body
none_done : (e : Bool) (ss : List Station) →
    ((i : ℕ) → (get_or ss i fresh_station).terminal.state ≡ F7 → (access_step_of e (get_or ss i fresh_station)).done ≡ 0) → first_done e ss ≡ []
unfolding first_done
none_done e [] h = refl
none_done e (s ∷ ss) h =
    let rest = none_done e ss (λ i. h (suc i)) in
    by_test (in_f7 s) (λ t. rw (t, h 0 (eqb-true s.terminal.state F7 t)) rest) (λ t. rw t rest)

one_done_first : (e : Bool) (ss : List Station) (body : List ℕ) →
    ((i : ℕ) → (get_or ss i fresh_station).terminal.state ≡ F7 → 1 ≤ (access_step_of e (get_or ss i fresh_station)).done → (get_or ss i fresh_station).body ≡ body) →
    (i : ℕ) → (get_or ss i fresh_station).terminal.state ≡ F7 → 1 ≤ (access_step_of e (get_or ss i fresh_station)).done → first_done e ss ≡ body ∷ []
unfolding first_done
one_done_first e [] body all i f d = absurd (omega arith)
one_done_first e (s ∷ ss) body all zero f d = rw (eq-eqb s.terminal.state F7 f, ne_eqb (access_step_of e s).done 0 (omega arith), all 0 f d)
one_done_first e (s ∷ ss) body all (suc i) f d =
    let rest = one_done_first e ss body (λ n. all (suc n)) i f d in
    by_test (in_f7 s)
    (λ t. by_test (eqb (access_step_of e s).done 0) (λ u. rw (t, u) rest)
    (λ u. rw (t, u, all 0 (eqb-true s.terminal.state F7 t) (omega (arith, eqb-false (access_step_of e s).done 0 u)))))
    (λ t. rw t rest)

-- ---- the theorem
nowhere_channel : channel_at nowhere ≡ fresh_channel 0
unfolding channel_at fresh_channel
nowhere_channel = refl

module _ (b : Bus) (during : List Call) (start : Sound b) (stretch : Stretch b during) where
  -- the stretch's D opportunities
  abbrev here : List Opportunity
  here = opps b during

  abbrev then : ℕ → Opportunity
  then t = at here t

  -- the same of the channel
  abbrev c : Channel
  c = channel_of b

  abbrev actions : List Action
  actions = all_actions b during

  abbrev there : List Channel
  there = channelClaims.opps normal1 normal2 c actions

  abbrev then_there : ℕ → Channel
  then_there t = channelClaims.at there t

  stretch_there : channel.Stretch normal1 normal2 c actions
  stretch_there = calls_stretch b during start.imaged stretch

  parts : channelClaims.ThreeParts normal1 normal2 c actions
  parts = channel-demand3.demand3_from normal1 normal2 c actions (omega arith) (omega arith) start.channel stretch_there

  same_opps : there ≡ map channel_at here
  same_opps = calls_opportunities b during start.imaged

  same_at : (t : ℕ) → then_there t ≡ channel_at (then t)
  same_at t = rw (same_opps, ← nowhere_channel) (get_or-map channel_at here t nowhere)

  same_length : length there ≡ length here
  same_length = rw same_opps (length-map here channel_at)

  true_at : (t : ℕ) → t < length here → Faithful (then t)
  true_at t h = every_at (faithful b during start.imaged stretch) t h

  -- the words at opportunity t
  waits_at : (k i t : ℕ) → Waits k i (then t) → channel.Waits k i (then_there t)
  waits_at k i t w = rw (same_at t) (waits_to k i (then t) w)

  completes_at : (k i t : ℕ) → t < length here → Completes k i (then t) → channel.Completes normal1 normal2 k i (then_there t)
  completes_at k i t h d = rw (same_at t) (completes_to k i (then t) (true_at t h) d)

  completes_from : (k i t : ℕ) → t < length here → channel.Completes normal1 normal2 k i (then_there t) → Completes k i (then t)
  completes_from k i t h d = completes_back k i (then t) (true_at t h) (rw (same_at t) at d)

  begins_at : (i t : ℕ) → t < length here → Begins i (then t) → channel.Begins normal1 normal2 i (then_there t)
  begins_at i t h d = rw (same_at t) (begins_to i (then t) (true_at t h) d)

  begins_from : (i t : ℕ) → t < length here → channel.Begins normal1 normal2 i (then_there t) → Begins i (then t)
  begins_from i t h d = begins_back i (then t) (true_at t h) (rw (same_at t) at d)

  body_at : (i t : ℕ) → (channel.contender i (then_there t)).body ≡ (station_then i (then t)).body
  body_at i t = rw (same_at t) (body_then i (then t))

  said_at : (t : ℕ) → t < length here → said_to (then t) ≡ channel.said_at normal1 normal2 (then_there t)
  said_at t h = rw (same_at t) (said_then (then t) (true_at t h))

  no_rival_twice : NoRivalTwice b during
  no_rival_twice i j k p q other some later last cp cq waits not_done =
      parts.no_rival_twice i j k p q other some later (rw same_length last) (completes_at k j p (omega arith) cp) (completes_at k j q last cq)
      (λ t x y. waits_at k i t (waits t x y)) (λ t x y d. not_done t x y (completes_from k i t (omega arith) d))

  abbrev n : ℕ
  n = powered_in (buses b during)

  abbrev L : ℕ
  L = longest_in (buses b during)

  images_at_most : (t : ℕ) → t < length there → channel.ImagesAtMost L (then_there t)
  unfolding station_then
  images_at_most t h i =
      rw (same_at t, contender_then i (then t))
      (every_at (calls_at_most L b during (omega arith)) t (rw same_length at h) i)

  active_at_end : channel.active_count (run normal1 normal2 c actions).contenders ≤ n
  unfolding channel_of
  active_at_end =
      rw (← calls_channel b during start.imaged) (active_powered b during start.in_range.eight)

  wait_ends : WaitEnds b during
  wait_ends i p waits long =
      let w = parts.wait_ends n L i p active_at_end images_at_most (waits_at 1 i p waits) (rw same_length long) in
      record {
        when = w.when;
        since = w.since;
        within = w.within;
        completed = completes_from 1 i w.when (omega (arith, w.within)) w.completed;
        same_frame = λ t x y d. w.same_frame t x y (completes_at 1 i t (omega (arith, w.within)) d);
        same_body = sym (body_at i w.when) ∙ (w.same_body ∙ body_at i p);
      }

  begun_since : (p j u : ℕ) → u < length here → channelClaims.BegunSince normal1 normal2 c actions p j u → BegunSince b during p j u
  begun_since p j u h r =
      record {
        when = r.when;
        since = r.since;
        begins = begins_from j r.when (omega (arith, r.bits_since)) r.begins;
        same_body = sym (body_at j r.when) ∙ (r.same_body ∙ body_at j u);
        bits_since = rw (body_at j u) at r.bits_since;
      }

  heard_in_order : HeardInOrder b during
  heard_in_order j p t begins late inside =
      let h = parts.heard_in_order j p t (begins_at j p (omega arith) begins) (omega arith) (rw same_length inside) in
      record {
        heard_completed = λ body e.
            let r = h.heard_completed body (sym (said_at t (omega arith)) ∙ e) in
            (r.0, r.1, r.2, completes_from r.1 r.0 (t + 1) inside r.3, sym (body_at r.0 (t + 1)) ∙ r.4);
        completed_heard = λ i k some d.
            said_at t (omega arith) ∙ (h.completed_heard i k some (completes_at k i (t + 1) inside d) ∙ ap heard (body_at i (t + 1)));
        begun = λ i k some d. begun_since p i (t + 1) inside (h.begun i k some (completes_at k i (t + 1) inside d));
        not_torn = λ e. h.not_torn (sym (said_at t (omega arith)) ∙ e);
      }

  sent_then : (j t : ℕ) → (channel.contender j (then_there t)).access.sent ≡ (station_then j (then t)).terminal.access.sent
  sent_then j t = rw (same_at t, contender_then j (then t))

  no_stop_in_flag : NoStopInFlag b during
  no_stop_in_flag j p s begins few inside =
      sym (sent_then j (p + s))
      ∙ flag.no_stop_in_flag normal1 normal2 c actions (omega arith) (omega arith) start.channel stretch_there j p s
      (begins_at j p (omega arith) begins) few (rw same_length inside)

  -- ---- in demand 3's words
  sent_whole : (j k u : ℕ) → 1 ≤ k → u < length here → Completes k j (then u) → 16 ≤ (station_then j (then u)).terminal.access.sent
  sent_whole j k u some inside completed =
      let there-too : u < length there = rw same_length inside in
      let inv = invariant_at normal1 normal2 c actions (omega arith) (omega arith) start.channel stretch_there u there-too in
      let whole = completes_whole inv j k some (completes_at k j u inside completed) in
      rw (← sent_then j u) (omega (arith, whole.all, length_image (channel.contender j (then_there u)).body))

  begun_heard : BegunHeard b during
  begun_heard j k p t some order inside begins completed =
      let whole = sent_whole j k (t + 1) some inside completed in
      let from-p : p + (t + 1 - p) ≡ t + 1 = omega arith in
      by_test (ltb (p + 7) t)
      (λ e. (heard_in_order j p t begins (omega (arith, ltb-true (p + 7) t e)) inside).completed_heard j k some completed)
      (λ e.
      let few : t + 1 - p ≤ 9 = omega (arith, ltb-false (p + 7) t e) in
      absurd (omega (arith, whole, few, rw from-p at (no_stop_in_flag j p (t + 1 - p) begins few (rw from-p inside)))))

  heard_completed_at : (p t : ℕ) → HeardWhole b during p t → body_heard (then t) ≡ body_completed (then (t + 1))
  unfolding body_heard body_completed station_then
  heard_completed_at p t h = go (said_to (then t)) refl
    where
      now : Bool
      now = e_comes (then (t + 1))

      stations : List Station
      stations = stations_of (then (t + 1)).senders

      done : ℕ → ℕ
      done i = (access_step_of now (station_then i (then (t + 1)))).done

      go : (x : Said) → said_to (then t) ≡ x → body_in x ≡ first_done now stations
      go nothing e =
          sym (none_done now stations
          (λ i f. by_test (eqb (done i) 0)
          (λ d. eqb-true (done i) 0 d)
          (λ d.
          let said = h.completed_heard i (done i) (omega (arith, eqb-false (done i) 0 d)) (record { in_f7_lem = f; done = refl }) in
          let clash : ◌≡◌ {A = ℕ} 0 1 = cc (e, said) in
          absurd (omega arith))))
      go torn e = absurd (h.not_torn e)
      go (heard body) e =
          let r = h.heard_completed body e in
          sym (one_done_first now stations body
          (λ i f d.
          let said = h.completed_heard i (done i) d (record { in_f7_lem = f; done = refl }) in
          cc (e, said))
          r.0 r.3.in_f7_lem (omega (arith, r.3.done, r.2)))

  heard_as_completed_from : (j p n t : ℕ) → Begins j (then p) → p + 7 < t → t + n < length here →
      heard_from b during t n ≡ completed_from b during (t + 1) n
  unfolding heard_from completed_from
  heard_as_completed_from j p zero t begins late inside = refl
  heard_as_completed_from j p (suc n) t begins late inside =
      rw (
        heard_completed_at p t (heard_in_order j p t begins late (omega arith)),
        heard_as_completed_from j p n (t + 1) begins (omega arith) (omega arith),
      )

  heard_as_completed : HeardAsCompleted b during
  heard_as_completed j p n begins inside =
      rw (shift p) (heard_as_completed_from j p n (p + 8) begins (omega arith) inside)
    where
      shift : (a : ℕ) → a + 9 ≡ a + 8 + 1
      shift a = omega arith

pub demand3_from : sound.Demand3From
demand3_from b during start stretch =
    record {
      told = all_tell b during;
      no_rival_twice = no_rival_twice b during start stretch;
      wait_ends = wait_ends b during start stretch;
      heard_in_order = heard_in_order b during start stretch;
      begun_heard = begun_heard b during start stretch;
      heard_as_completed = heard_as_completed b during start stretch;
      no_stop_in_flag = no_stop_in_flag b during start stretch;
    }

-- ---- of lists, and so from the fresh bus
pub demand3_of_lists : sound.Demand3OfLists
demand3_of_lists b start before during later stretch =
    record {
      part_of_list = part_of_list b before during later;
      of_stretch = demand3_from (after_all b before) during (sound_after b before start) stretch;
    }

pub demand3 : Demand3
demand3 = demand3_of_lists fresh_bus sound_fresh
