-- Where one terminal sends alone, the opportunities over all terminals are those of the sender: `lone_four` (specs/Lone.antt).
use mathlib.Core.Path.{◌≡◌, refl, ◌∙◌, ap}
use mathlib.Core.Bool.{Bool, true, false, cond, not, ◌&&◌, ◌||◌, and-true, or-true, and-false}
use mathlib.Core.List.{List, [], ◌∷◌}
use Prim.Native.Nat.{ℕ, suc, ◌+◌, ◌<◌}
use native.Mathlib.Omega.{arith}
use lib.Dec.{eqb, ltb}
use borrow.Author.Tests.{lt-ltb, ltb-true, eqb-true, ne_eqb, lt-leb, not-true}
use Rattle.test_lemmas.proofs.ByCases.{by_test, clash}
use Rattle.test_lemmas.proofs.Operators.{and_both}
use Rattle.frame.specs.Four.{all_four}
use Rattle.frame.specs.declared.fields.Four.{Four}
use Rattle.notes_and_cells.specs.Cells.{info_in}
use Rattle.table_6_2.specs.Table62.{F7, info_sent}
use Rattle.table_6_3.specs.Table63 as Table63
use Rattle.hdlc.specs.Bits.{same_bit}
use Rattle.dchannel.specs.Access.{normal1, normal2, count_after, low_after, after_e, low_of, threshold, may_start, sends_next, idles, access_step}
use Rattle.dchannel.proofs.AccessLaws.{same_refl}
use Rattle.dchannel.specs.declared.access.Access.{Access}
use Rattle.dchannel.specs.declared.access.AccessStep.{AccessStep}
use Rattle.packing.specs.Octets.{shifted}
use Rattle.terminal.specs.Terminal.{with_access}
use Rattle.terminal.specs.declared.Terminal.{Terminal}
use Rattle.slice_lemmas.specs.Over.{map_from, fold_from}
use Rattle.bus_rules.specs.Quick.{sent_e}
use Rattle.bus_rules.specs.Exchange.{station_after_e, access_step_of, d_of}
use Rattle.exchange.specs.Tally.{no_letters, begun, also, d_heard, ended}
use Rattle.exchange.specs.Part.{image_bit, station_in, terminal_after_e, completed_class, tally_with}
use Rattle.exchange.specs.Opportunities.{tally_after, terminals_after, tally_after_four, terminals_after_four}
use Rattle.exchange.specs.declared.tally.Tally.{Tally}
use Rattle.exchange.proofs.Images.{image_at}
use Rattle.lone_sender.specs.Lone.{counted_at, lone_bit, lone_after_e, lone_sends, lone_after_four, lone_bits, lone_goes, tally_of, followed_access, followed, lone_station, lone_stations, sender_in, FourAlone, LoneFour}
use Rattle.lone_sender.specs.declared.lone.LoneSender.{LoneSender}

-- ---- The D access, at a C below the lowest threshold.
module _ (e : Bool) (a : Access) (low : count_after normal2 e a.count < normal1) where
  abbrev heard : Access
  heard =
      record {
        length = a.length;
        sent = a.sent;
        count = count_after normal2 e a.count;
        held = a.held;
        low1 = a.low1;
        low2 = a.low2;
        last = a.last;
      }

  -- no level changes
  levels_kept : after_e normal1 normal2 e a ≡ heard
  unfolding after_e low_after
  levels_kept =
      rw (ne_eqb (count_after normal2 e a.count) (normal1 + 1) (λ z. omega arith), ne_eqb (count_after normal2 e a.count) (normal2 + 1) (λ z. omega arith))

  threshold_above : (k : ℕ) (lower : Bool) → count_after normal2 e a.count < threshold normal1 normal2 k lower
  unfolding threshold
  threshold_above k lower = by_test (eqb k 1) (λ t. rw t (by_test lower (λ u. rw u (omega arith)) (λ u. rw u (omega arith)))) (λ t. rw t (by_test lower (λ u. rw u (omega arith)) (λ u. rw u (omega arith))))

  -- none starts
  starts_not : may_start normal1 normal2 heard ≡ false
  unfolding may_start
  starts_not =
      by_test (eqb a.held 0) (λ t. rw t)
      (λ t. rw (t, lt-leb (threshold normal1 normal2 a.held (low_of a.held heard)) (count_after normal2 e a.count) (threshold_above a.held (low_of a.held heard))))

  waits : (next : Bool) → a.sent ≡ 0 → access_step normal1 normal2 e next a ≡ record { access = heard; d = true; done = 0 }
  unfolding access_step idles
  waits next z =
      let no : ltb 0 a.sent ≡ false = rw z in
      rw (no, levels_kept, starts_not)

  -- the one that sends goes on
  sends_on : (next : Bool) → 0 < a.sent → a.sent < a.length → e ≡ a.last
      → access_step normal1 normal2 e next a
      ≡ record {
        access =
            record {
              length = a.length;
              sent = a.sent + 1;
              count = count_after normal2 e a.count;
              held = a.held;
              low1 = a.low1;
              low2 = a.low2;
              last = next;
            };
        d = next;
        done = 0;
      }
  unfolding access_step sends_next
  sends_on next some more is =
      let same : same_bit e a.last ≡ true = rw (← is) (same_refl e) in
      rw (lt-ltb 0 a.sent some, levels_kept, same, lt-leb a.length a.sent more)

-- ---- One terminal in F7, with the images that are lent.
module _ (images : List ℕ) (e : Bool) (i : ℕ) (t : Terminal) (h : eqb t.state F7 ≡ true) where
  abbrev turn_here : AccessStep
  turn_here = access_step normal1 normal2 e (image_bit images i t.access.sent) t.access

  turned_here : terminal_after_e images e i t ≡ with_access turn_here.access t
  unfolding terminal_after_e station_after_e access_step_of
  turned_here = rw (terminal_after_e, h, image_at)

  d_here : d_of e (station_in images i t) ≡ turn_here.d
  unfolding d_of access_step_of
  d_here = rw (h, image_at)

  done_here : completed_class images e i t ≡ turn_here.done
  unfolding completed_class access_step_of
  done_here = rw (h, image_at)

module _ (s : LoneSender) (i : ℕ) (t : Terminal) where
  pub followed_in : eqb t.state F7 ≡ true → followed s i t ≡ with_access (followed_access s i t.access) t
  unfolding followed
  followed_in h = rw h

  pub followed_out : eqb t.state F7 ≡ false → followed s i t ≡ t
  unfolding followed
  followed_out h = rw h

turned_out : (images : List ℕ) (e : Bool) (i : ℕ) (t : Terminal) → eqb t.state F7 ≡ false → terminal_after_e images e i t ≡ t
unfolding terminal_after_e station_after_e
turned_out images e i t h = rw (terminal_after_e, h)

d_out : (images : List ℕ) (e : Bool) (i : ℕ) (t : Terminal) → eqb t.state F7 ≡ false → d_of e (station_in images i t) ≡ true
unfolding d_of
d_out images e i t h = rw h

done_out : (images : List ℕ) (e : Bool) (i : ℕ) (t : Terminal) → eqb t.state F7 ≡ false → completed_class images e i t ≡ 0
unfolding completed_class
done_out images e i t h = rw h

-- ---- What is asked of a terminal.
abbrev in_its_place : ℕ → ℕ → ℕ → Terminal → Bool
in_its_place at length i t = cond (eqb t.state F7) (cond (eqb i at) (eqb t.access.length length) (eqb t.access.sent 0)) true

station_asks : (at length i : ℕ) (t : Terminal) → lone_station at length i t ≡ true → (eqb (info_in info_sent t.state) 1 ≡ false) × (in_its_place at length i t ≡ true)
unfolding lone_station
station_asks at length i t h =
    let both = and_both (not (eqb (info_in info_sent t.state) 1)) (in_its_place at length i t) h in
    (not-true (eqb (info_in info_sent t.state) 1) both.0, both.1)

-- ---- One opportunity that the sender has alone.
module _ (images : List ℕ) (s : LoneSender) (goes : lone_sends s ≡ true) where
  abbrev next : LoneSender
  next = lone_after_e images s

  facts : (ltb 0 s.sent ≡ true) × (ltb s.sent s.length ≡ true) × (ltb (counted_at s) normal1 ≡ true)
  unfolding lone_sends
  facts =
      let both = and_both _ _ goes in
      let first = and_both _ _ both.0 in
      (first.0, first.1, both.1)

  low : count_after normal2 s.last s.count < normal1
  unfolding counted_at
  low = ltb-true _ _ facts.2

  module _ (i : ℕ) (a : Access) where
    abbrev turn_then : AccessStep
    turn_then = access_step normal1 normal2 s.last (image_bit images i (followed_access s i a).sent) (followed_access s i a)

    sender_turns : eqb i s.at ≡ true → a.length ≡ s.length → turn_then ≡ record { access = followed_access next i a; d = lone_bit images s; done = 0 }
    unfolding lone_after_e lone_bit counted_at
    sender_turns is len =
        let at : i ≡ s.at = eqb-true i s.at is in
        sends_on s.last (followed_access s i a) low (image_bit images i (followed_access s i a).sent) (rw is (ltb-true _ _ facts.0)) (rw (is, len) (ltb-true _ _ facts.1)) (rw is)
        ∙ rw (is, facts.1, at)

    other_turns : eqb i s.at ≡ false → a.sent ≡ 0 → turn_then ≡ record { access = followed_access next i a; d = true; done = 0 }
    unfolding lone_after_e counted_at
    other_turns is none = waits s.last (followed_access s i a) low (image_bit images i (followed_access s i a).sent) (rw is none) ∙ rw is

  -- the D of terminal i
  abbrev bit_of : ℕ → Terminal → Bool
  bit_of i t = cond (eqb t.state F7) (cond (eqb i s.at) (lone_bit images s) true) true

  record Follows (i : ℕ) (t : Terminal) : Type 0 where
    terminal_is : terminal_after_e images s.last i (followed s i t) ≡ followed next i t
    d_is : d_of s.last (station_in images i (followed s i t)) ≡ bit_of i t
    done_is : completed_class images s.last i (followed s i t) ≡ 0

  follows_by : (i : ℕ) (t : Terminal) (d : Bool) → eqb t.state F7 ≡ true → turn_then i t.access ≡ record { access = followed_access next i t.access; d = d; done = 0 } → d ≡ bit_of i t → Follows i t
  follows_by i t d h is bit =
      let f : Terminal = with_access (followed_access s i t.access) t in
      record {
        terminal_is = rw (followed_in s i t h, followed_in next i t h) (turned_here images s.last i f h ∙ rw is);
        d_is = rw (followed_in s i t h) (d_here images s.last i f h ∙ rw is bit);
        done_is = rw (followed_in s i t h) (done_here images s.last i f h ∙ rw is);
      }

  follows : (i : ℕ) (t : Terminal) → lone_station s.at s.length i t ≡ true → Follows i t
  follows i t station =
      let asked = (station_asks s.at s.length i t station).1 in
      by_test (eqb t.state F7)
      (λ h. by_test (eqb i s.at)
      (λ is. follows_by i t (lone_bit images s) h (sender_turns i t.access is (eqb-true t.access.length s.length (rw (h, is) at asked))) (rw (h, is)))
      (λ is. follows_by i t true h (other_turns i t.access is (eqb-true t.access.sent 0 (rw (h, is) at asked))) (rw (h, is))))
      (λ h. record {
        terminal_is = rw (followed_out s i t h, followed_out next i t h) (turned_out images s.last i t h);
        d_is = rw (followed_out s i t h, h) (d_out images s.last i t h);
        done_is = rw (followed_out s i t h) (done_out images s.last i t h);
      })

-- ---- The exchange, with no hit, no frame completed and no INFO 1.
abbrev tally_at : ℕ → ℕ → Four → Bool → Bool → Bool → Bool → Tally
tally_at state place ds heard_d e d info3 =
    record {
      letters = no_letters;
      ds = ds;
      state = state;
      place = place;
      done1 = 0;
      done2 = 0;
      echo = heard_d;
      e = e;
      d = d;
      info1 = false;
      info3 = info3;
    }

begun_is : (state place : ℕ) (ds : Four) (heard_d e d info3 : Bool) → eqb (info_in Table63.info_sent state) 4 ≡ true
    → begun (tally_at state place ds heard_d e d info3) ≡ tally_at state place ds heard_d heard_d true false
unfolding begun sent_e
begun_is state place ds heard_d e d info3 info = rw info

ended_is : (state place : ℕ) (ds : Four) (heard_d e d info3 : Bool)
    → ended (tally_at state place ds heard_d e d info3)
    ≡ tally_at state (cond (ltb place 3) (place + 1) 0) (record { first = ds.second; second = ds.third; third = ds.fourth; fourth = d }) d e d info3
unfolding ended d_heard
ended_is state place ds heard_d e d info3 = rw (and-false (eqb place 1))

also_is : (state place : ℕ) (ds : Four) (heard_d e d info3 : Bool) (own : ℕ) (bit : Bool) → eqb (info_in info_sent own) 1 ≡ false
    → also own bit 0 (tally_at state place ds heard_d e d info3) ≡ tally_at state place ds heard_d e (d && bit) (info3 || eqb (info_in info_sent own) 3)
unfolding also shifted
also_is state place ds heard_d e d info3 own bit info = rw info

-- a terminal in F7 sends INFO 3
sends_info3_lem : (state : ℕ) → eqb state F7 ≡ true → eqb (info_in info_sent state) 3 ≡ true
unfolding info_in
sends_info3_lem state h = rw (eqb-true state F7 h)

-- ---- All terminals.
module _ (images : List ℕ) (s : LoneSender) (goes : lone_sends s ≡ true) (state place : ℕ) (ds : Four) (heard_d : Bool) where
  abbrev here : Bool → Bool → Tally
  here d info3 = tally_at state place ds heard_d s.last d info3

  abbrev Stationed : ℕ → List Terminal → Type 0
  Stationed i ts = lone_stations s.at s.length i ts ≡ true

  stationed_both : (i : ℕ) (t : Terminal) (ts : List Terminal) → Stationed i (t ∷ ts) → (lone_station s.at s.length i t ≡ true) × Stationed (suc i) ts
  unfolding lone_stations
  stationed_both i t ts h = and_both _ _ h

  state_kept : (i : ℕ) (t : Terminal) → (followed s i t).state ≡ t.state
  unfolding followed
  state_kept i t = by_test (eqb t.state F7) (λ h. rw h) (λ h. rw h)

  one_through : (i : ℕ) (d info3 : Bool) (t : Terminal) → lone_station s.at s.length i t ≡ true
      → tally_with images i (here d info3) (followed s i t) ≡ here (d && bit_of images s goes i t) (info3 || eqb (info_in info_sent t.state) 3)
  unfolding tally_with
  one_through i d info3 t station =
      let f = follows images s goes i t station in
      rw (f.d_is, f.done_is, state_kept i t) (also_is state place ds heard_d s.last d info3 t.state (bit_of images s goes i t) (station_asks s.at s.length i t station).0)

  terminals_turned : (i : ℕ) (ts : List Terminal) → Stationed i ts → map_from (terminal_after_e images s.last) i (map_from (followed s) i ts) ≡ map_from (followed (lone_after_e images s)) i ts
  unfolding map_from
  terminals_turned i [] h = refl
  terminals_turned i (t ∷ ts) h =
      let g = stationed_both i t ts h in
      rw ((follows images s goes i t g.0).terminal_is, terminals_turned (suc i) ts g.1)

  -- those after the sender
  other_bit : (i : ℕ) (t : Terminal) → eqb i s.at ≡ false → bit_of images s goes i t ≡ true
  other_bit i t is = by_test (eqb t.state F7) (λ h. rw (h, is)) (λ h. rw h)

  gone_after : (i : ℕ) (d : Bool) (ts : List Terminal) → s.at < i → Stationed i ts → fold_from (tally_with images) i (here d true) (map_from (followed s) i ts) ≡ here d true
  unfolding fold_from map_from
  gone_after i d [] past h = refl
  gone_after i d (t ∷ ts) past h =
      let g = stationed_both i t ts h in
      let same : tally_with images i (here d true) (followed s i t) ≡ here d true = one_through i d true t g.0 ∙ rw (other_bit i t (ne_eqb i s.at (λ z. omega arith)), and-true d) in
      ap (λ (m : Tally). fold_from (tally_with images) (suc i) m (map_from (followed s) (suc i) ts)) same ∙ gone_after (suc i) d ts (omega arith) g.1

  -- the sender and those before it
  tally_with_lem : (i : ℕ) (info3 : Bool) (ts : List Terminal) → Stationed i ts → sender_in s.at i ts ≡ true
      → fold_from (tally_with images) i (here true info3) (map_from (followed s) i ts) ≡ here (lone_bit images s) true
  unfolding fold_from map_from sender_in
  tally_with_lem i info3 [] h sender = clash false sender refl
  tally_with_lem i info3 (t ∷ ts) h sender =
      let g = stationed_both i t ts h in
      let rest : Tally → Tally = λ m. fold_from (tally_with images) (suc i) m (map_from (followed s) (suc i) ts) in
      by_test (eqb i s.at)
      (λ is. let f7 : eqb t.state F7 ≡ true = rw is at sender in
      ap rest (one_through i true info3 t g.0 ∙ rw (f7, is, sends_info3_lem t.state f7, or-true info3))
      ∙ gone_after (suc i) (lone_bit images s) ts (omega (arith, eqb-true i s.at is)) g.1)
      (λ is. ap rest (one_through i true info3 t g.0 ∙ rw (other_bit i t is))
      ∙ tally_with_lem (suc i) (info3 || eqb (info_in info_sent t.state) 3) ts g.1 (rw is at sender))

-- ---- One opportunity, and the four.
module _ (images : List ℕ) (state : ℕ) (ts : List Terminal) (info : eqb (info_in Table63.info_sent state) 4 ≡ true) where
  module _ (s : LoneSender) (goes : lone_sends s ≡ true) (stations : lone_stations s.at s.length 0 ts ≡ true) (sender : sender_in s.at 0 ts ≡ true) (place : ℕ) (ds : Four) (e d info3 : Bool) where
    tally_once : tally_after images (tally_at state place ds s.last e d info3) (map_from (followed s) 0 ts)
        ≡ tally_at state (cond (ltb place 3) (place + 1) 0) (record { first = ds.second; second = ds.third; third = ds.fourth; fourth = lone_bit images s }) (lone_bit images s) s.last (lone_bit images s) true
    unfolding tally_after
    tally_once =
        rw (begun_is state place ds s.last e d info3 info, tally_with_lem images s goes state place ds s.last 0 false ts stations sender)
        (ended_is state place ds s.last s.last (lone_bit images s) true)

    terminals_once : terminals_after images (tally_at state place ds s.last e d info3) (map_from (followed s) 0 ts) ≡ map_from (followed (lone_after_e images s)) 0 ts
    unfolding terminals_after
    terminals_once =
        rw (begun_is state place ds s.last e d info3 info) (terminals_turned images s goes state place ds s.last 0 ts stations)

  module _ (s : LoneSender) (goes : lone_goes images s ≡ true) (stations : lone_stations s.at s.length 0 ts ≡ true) (sender : sender_in s.at 0 ts ≡ true) where
    abbrev s2 : LoneSender
    s2 = lone_after_e images s

    abbrev s3 : LoneSender
    s3 = lone_after_e images s2

    abbrev s4 : LoneSender
    s4 = lone_after_e images s3

    each_goes : (lone_sends s ≡ true) × (lone_sends s2 ≡ true) × (lone_sends s3 ≡ true) × (lone_sends s4 ≡ true)
    unfolding lone_goes
    each_goes =
        let third = and_both ((lone_sends s && lone_sends s2) && lone_sends s3) (lone_sends s4) goes in
        let second = and_both (lone_sends s && lone_sends s2) (lone_sends s3) third.0 in
        let first = and_both (lone_sends s) (lone_sends s2) second.0 in
        (first.0, first.1, second.1, third.1)

    -- the last four D after one, two and three of them
    abbrev shown_ds : Bool → Bool → Bool → Four
    shown_ds b c d = record { first = true; second = b; third = c; fourth = d }

    four_alone : FourAlone images state s ts
    unfolding tally_after_four terminals_after_four lone_after_e lone_after_four lone_bits tally_of
    four_alone =
        let g = each_goes in
        let m1 = tally_once s g.0 stations sender 0 (all_four true) true true false in
        let t1 = terminals_once s g.0 stations sender 0 (all_four true) true true false in
        let m2 = tally_once s2 g.1 stations sender 1 (shown_ds true true (lone_bit images s)) s.last (lone_bit images s) true in
        let t2 = terminals_once s2 g.1 stations sender 1 (shown_ds true true (lone_bit images s)) s.last (lone_bit images s) true in
        let m3 = tally_once s3 g.2 stations sender 2 (shown_ds true (lone_bit images s) (lone_bit images s2)) s2.last (lone_bit images s2) true in
        let t3 = terminals_once s3 g.2 stations sender 2 (shown_ds true (lone_bit images s) (lone_bit images s2)) s2.last (lone_bit images s2) true in
        let m4 = tally_once s4 g.3 stations sender 3 (shown_ds (lone_bit images s) (lone_bit images s2) (lone_bit images s3)) s3.last (lone_bit images s3) true in
        let t4 = terminals_once s4 g.3 stations sender 3 (shown_ds (lone_bit images s) (lone_bit images s2) (lone_bit images s3)) s3.last (lone_bit images s3) true in
        record { tally_is = rw (m1, t1, m2, t2, m3, t3) m4; terminals_are = rw (m1, t1, m2, t2, m3, t3) t4 }

pub lone_four : LoneFour
lone_four images state s ts info stations sender goes = four_alone images state ts info s goes stations sender
