-- The exchange in a few values shows the exchange by lines: `specs/Shown.antt`. One opportunity keeps a relation of the two, `Codes`; four
-- of them are the exchange.
use mathlib.Core.Path.{◌≡◌, refl, sym, ap, ◌∙◌}
use mathlib.Core.Bool.{Bool, false, cond, ◌&&◌, ◌||◌, and-true, or-false, and_assoc, or_assoc}
use mathlib.Core.List.{List, [], ◌∷◌, map}
use Prim.Native.Nat.{ℕ, suc, ◌<◌}
use native.Mathlib.Numerals.{add-one}
use native.Mathlib.Omega.{arith}
use lib.Dec.{eqb, ltb}
use lib.ListN.{length, get_or, length-map}
use borrow.Author.Tests.{lt-ltb, le-ltb, eq-eqb, eqb-true, eqb-false, ne_eqb}
use Rattle.test_lemmas.proofs.ByCases.{by_test}
use Rattle.frame.specs.Four.{filled_with_ones}
use Rattle.frame.specs.Down.{e_index}
use Rattle.combining.specs.Hit.{keep_letter}
use Rattle.combining.specs.StruckBits.{struck_bit}
use Rattle.hdlc.specs.Bits.{number_low_first}
use Rattle.slice_lemmas.proofs.Over.{length_mapped}
use Rattle.slice_lemmas.specs.Over.{map_from, fold_from}
use Rattle.terminal.specs.declared.Terminal.{Terminal}
use Rattle.bus_rules.specs.Bus.{Station, Hit, Bus}
use Rattle.bus_rules.specs.Bus.Hit.{none, given}
use Rattle.bus_rules.specs.Exchange.{Sender, stations_of, any_sends, any_info1, any_info3, in_f7, access_step_of, station_after_e, done_of, hears_e, e_comes, senders_after, d_comes, onward, as_sender, begins, opportunities_of, exchanged}
use Rattle.bus_rules.specs.Exchange.{Opportunity as Lines}
use Rattle.bus_rules.specs.Event.{among}
use Rattle.bus_rules.specs.Quick.{sent_e, struck_at, all_d, InStep}
use Rattle.bus_rules.proofs.Quick.{quick_e, quick_d, info1_hears, info3_hears, one_more, in_step_begins, in_step_onward}
use Rattle.bus_rules.proofs.Stations.{stations_stationed, stations_hear}
use Rattle.bus_rules.proofs.OneDone.{among_append}
use Rattle.exchange.specs.Tally.{begun, also, d_heard, ended}
use Rattle.exchange.specs.Part.{station_in, terminal_after_e, completed_class, tally_with}
use Rattle.exchange.specs.Opportunities.{tally_after, terminals_after, tally_after_four, terminals_after_four}
use Rattle.exchange.specs.Shown.{letters_at_e, done_octet, first_tally_of, ExchangeShown}
use Rattle.exchange.specs.declared.tally.Letters.{Letters}
use Rattle.exchange.specs.declared.tally.Tally.{Tally}
use Rattle.exchange.proofs.Turning.{turn_all, either_all, turn_all_lem}

eqb_turned : (a b : ℕ) → eqb a b ≡ eqb b a
eqb_turned a b =
    by_test (eqb a b) (λ t. t ∙ sym (eq-eqb b a (sym (eqb-true a b t)))) (λ t. t ∙ sym (ne_eqb b a (λ z. eqb-false a b t (sym z))))

-- ---- All terminals added.
-- whether a station completes a frame of a class at an E
abbrev newly : ℕ → Bool → Station → Bool
newly class e s = eqb (cond (in_f7 s) (access_step_of e s).done 0) class

abbrev stations_from : List ℕ → ℕ → List Terminal → List Station
stations_from images i ts = map_from (station_in images) i ts

-- the exchange with stations added
abbrev through : List Station → Tally → Tally
through ss m =
    record {
      letters = m.letters;
      ds = m.ds;
      state = m.state;
      place = m.place;
      done1 = turn_all m.done1 (map (newly 1 m.e) ss);
      done2 = turn_all m.done2 (map (newly 2 m.e) ss);
      echo = m.echo;
      e = m.e;
      d = m.d && all_d m.e ss;
      info1 = m.info1 || any_info1 ss;
      info3 = m.info3 || any_info3 ss;
    }

tally_with_lem : (images : List ℕ) (i : ℕ) (m : Tally) (ts : List Terminal) → fold_from (tally_with images) i m ts ≡ through (stations_from images i ts) m
unfolding fold_from map_from all_d any_sends tally_with also completed_class
tally_with_lem images i m [] = rw (and-true m.d, or-false m.info1, or-false m.info3)
tally_with_lem images i m (t ∷ ts) = tally_with_lem images (suc i) (tally_with images i m t) ts ∙ simp (and_assoc, or_assoc)

-- ---- The stations.
station_turned : (images : List ℕ) (e : Bool) (i : ℕ) (t : Terminal) → station_after_e e (station_in images i t) ≡ station_in images i (terminal_after_e images e i t)
unfolding terminal_after_e station_after_e
station_turned images e i t = by_test (in_f7 (station_in images i t)) (λ h. rw (terminal_after_e, h)) (λ h. rw (terminal_after_e, h))

stations_turned : (images : List ℕ) (e : Bool) (i : ℕ) (ts : List Terminal) → map (station_after_e e) (stations_from images i ts) ≡ stations_from images i (map_from (terminal_after_e images e) i ts)
unfolding map_from
stations_turned images e i [] = refl
stations_turned images e i (t ∷ ts) = rw (station_turned images e i t, stations_turned images e (suc i) ts)

terminals_in_lem : (images : List ℕ) (i : ℕ) (ts : List Terminal) → map (λ (s : Station). s.terminal) (stations_from images i ts) ≡ ts
unfolding map_from
terminals_in_lem images i [] = refl
terminals_in_lem images i (t ∷ ts) = rw (terminals_in_lem images (suc i) ts)

-- ---- Who has completed a frame.
done_newly : (class : ℕ) (e : Bool) (s : Station) → 0 < class → among class (done_of e s) ≡ newly class e s
unfolding done_of
done_newly class e s h =
    let zero-is-none : eqb 0 class ≡ false = ne_eqb 0 class (λ z. omega arith) in
    by_test (in_f7 s)
    (λ t. rw t
    (by_test (eqb (access_step_of e s).done 0)
    (λ u. rw (u, eqb-true (access_step_of e s).done 0 u, zero-is-none))
    (λ u. rw (u, or-false (eqb class (access_step_of e s).done)) (eqb_turned class (access_step_of e s).done))))
    (λ t. rw (t, zero-is-none))

abbrev done_bits : ℕ → List Sender → List Bool
done_bits class ss = map (λ (s : Sender). among class s.done) ss

either_done : (class : ℕ) (e : Bool) (ss : List Sender) → 0 < class → either_all (done_bits class ss) (map (newly class e) (stations_of ss)) ≡ done_bits class (map (hears_e e) ss)
unfolding hears_e
either_done class e [] h = refl
either_done class e (s ∷ ss) h =
    rw (among_append class s.done (done_of e s.station), done_newly class e s.station h, either_done class e ss h)

-- ---- The relation of the two as E number k comes, k from 0.
abbrev letter_at : Hit → ℕ → ℕ
letter_at none k = keep_letter
letter_at (given letters) k = cond (ltb k 4) (get_or letters (e_index k) keep_letter) keep_letter

-- the letters at E number k and the three after it
abbrev letters_from : ℕ → Hit → Letters
letters_from k h = record { first = letter_at h k; second = letter_at h (suc k); third = letter_at h (suc (suc k)); fourth = letter_at h (suc (suc (suc k))) }

letter_past : (h : Hit) (k : ℕ) → letter_at h (suc (suc (suc (suc k)))) ≡ keep_letter
letter_past none k = refl
letter_past (given letters) k = rw (le-ltb (suc (suc (suc (suc k)))) 4 (omega arith))

struck_first : (h : Hit) (k : ℕ) (e : Bool) → k < 4 → struck_bit (letter_at h k) e ≡ struck_at h k e
unfolding struck_at
struck_first none k e b = refl
struck_first (given letters) k e b = rw (lt-ltb k 4 b)

record Codes (images : List ℕ) (any1 any3 : Bool) (k : ℕ) (m : Tally) (l : Lines) (ts : List Terminal) : Type 0 where
  gone : length l.es ≡ k
  letters_are : m.letters ≡ letters_from k l.hit
  state_is : m.state ≡ l.network
  place_is : k < 4 → m.place ≡ k
  heard_is : m.echo ≡ l.heard_d
  done1_is : m.done1 ≡ done_octet 1 l.senders
  done2_is : m.done2 ≡ done_octet 2 l.senders
  stations_are : stations_of l.senders ≡ stations_from images 0 ts
  eight : length l.senders ≡ 8
  in_step : InStep (length l.es) l.senders
  info1_is : any_info1 (stations_of l.senders) ≡ any1
  info3_is : any_info3 (stations_of l.senders) ≡ any3

combined_is : (m : Tally) (l : Lines) → length l.es < 4 → InStep (length l.es) l.senders → m.place ≡ length l.es → m.info1 ≡ any_info1 (stations_of l.senders) → m.d ≡ all_d (e_comes l) (stations_of l.senders) → d_heard m ≡ d_comes l
unfolding d_heard
combined_is m l b i p c d = rw (p, c, d) (sym (quick_d l b i))

-- ---- One opportunity.
module _ (images : List ℕ) (any1 any3 : Bool) (k : ℕ) (m : Tally) (l : Lines) (ts : List Terminal) (c : Codes images any1 any3 k m l ts) (b : k < 4) where
  abbrev stations_on : List Station
  stations_on = stations_of l.senders

  abbrev to_end : Tally
  to_end = through stations_on (begun m)

  few : length l.es < 4
  few = rw c.gone b

  e_is : (begun m).e ≡ e_comes l
  unfolding begun
  e_is =
      rw (c.letters_are, c.state_is, c.heard_is)
      (struck_first l.hit k (sent_e l.network l.heard_d) b ∙ rw (← c.gone) (sym (quick_e l few)))

  after_is : tally_after images m ts ≡ ended to_end
  unfolding tally_after
  after_is = rw (c.stations_are, tally_with_lem images 0 (begun m) ts)

  d_is : d_heard to_end ≡ d_comes l
  unfolding begun
  d_is = combined_is to_end l few c.in_step (c.place_is b ∙ sym c.gone) refl (ap (λ (e : Bool). all_d e stations_on) e_is)

  done_is : (class octet : ℕ) → 0 < class → octet ≡ done_octet class l.senders → turn_all octet (map (newly class (begun m).e) stations_on) ≡ done_octet class (onward l).senders
  unfolding done_octet onward senders_after
  done_is class octet h is =
      rw (is, e_is)
      (turn_all_lem (done_bits class l.senders) (map (newly class (e_comes l)) stations_on) (rw length-map c.eight) (rw (length-map, length-map) c.eight)
      ∙ ap number_low_first (either_done class (e_comes l) l.senders h))

  stations_on_lem : stations_of (onward l).senders ≡ stations_from images 0 (terminals_after images m ts)
  unfolding onward senders_after terminals_after
  stations_on_lem =
      stations_hear (e_comes l) l.senders ∙ rw (c.stations_are, e_is) (stations_turned images (e_comes l) 0 ts)

  next : Codes images any1 any3 (suc k) (ended to_end) (onward l) (terminals_after images m ts)
  unfolding onward senders_after ended begun
  next =
      record {
        gone = one_more l.es l.heard_d k c.gone;
        letters_are = rw (c.letters_are, letter_past l.hit k);
        state_is = c.state_is;
        place_is = λ h. rw (c.place_is b, lt-ltb k 3 (omega arith), add-one);
        heard_is = d_is;
        done1_is = done_is 1 m.done1 (omega arith) c.done1_is;
        done2_is = done_is 2 m.done2 (omega arith) c.done2_is;
        stations_are = stations_on_lem;
        eight = rw length-map c.eight;
        in_step = in_step_onward l c.in_step;
        info1_is = info1_hears (e_comes l) l.senders ∙ c.info1_is;
        info3_is = info3_hears (e_comes l) l.senders ∙ c.info3_is;
      }

  -- what it leaves beside that
  ds_are : (ended to_end).ds ≡ record { first = m.ds.second; second = m.ds.third; third = m.ds.fourth; fourth = d_comes l }
  unfolding ended begun
  ds_are = rw d_is

  calling_is : (ended to_end).info1 ≡ any1
  unfolding ended begun
  calling_is = c.info1_is

  frames_are : (ended to_end).info3 ≡ any3
  unfolding ended begun
  frames_are = c.info3_is

-- the same of `tally_after`
record Stepped (images : List ℕ) (any1 any3 : Bool) (k : ℕ) (m : Tally) (l : Lines) (ts : List Terminal) : Type 0 where
  codes : Codes images any1 any3 (suc k) (tally_after images m ts) (onward l) (terminals_after images m ts)
  ds_come : (tally_after images m ts).ds ≡ record { first = m.ds.second; second = m.ds.third; third = m.ds.fourth; fourth = d_comes l }
  calling_comes : (tally_after images m ts).info1 ≡ any1
  frames_come : (tally_after images m ts).info3 ≡ any3

stepped : (images : List ℕ) (any1 any3 : Bool) (k : ℕ) (m : Tally) (l : Lines) (ts : List Terminal) → Codes images any1 any3 k m l ts → k < 4 → Stepped images any1 any3 k m l ts
stepped images any1 any3 k m l ts c b =
    record {
      codes = rw (after_is images any1 any3 k m l ts c b) (next images any1 any3 k m l ts c b);
      ds_come = rw (after_is images any1 any3 k m l ts c b) (ds_are images any1 any3 k m l ts c b);
      calling_comes = rw (after_is images any1 any3 k m l ts c b) (calling_is images any1 any3 k m l ts c b);
      frames_come = rw (after_is images any1 any3 k m l ts c b) (frames_are images any1 any3 k m l ts c b);
    }

-- ---- The four.
letters_first : (h : Hit) → letters_at_e h ≡ letters_from 0 h
unfolding letters_at_e
letters_first none = refl
letters_first (given letters) = refl

none_done : (class : ℕ) (ss : List Station) → number_low_first (done_bits class (map as_sender ss)) ≡ 0
unfolding number_low_first as_sender
none_done class [] = refl
none_done class (s ∷ ss) = rw (none_done class ss)

codes_first : (images : List ℕ) (b : Bus) (ts : List Terminal) → length ts ≡ 8 → b.stations ≡ stations_from images 0 ts → Codes images (any_info1 b.stations) (any_info3 b.stations) 0 (first_tally_of b) (begins b) ts
unfolding begins done_octet
codes_first images b ts eight is =
    record {
      gone = refl;
      letters_are = letters_first b.hit;
      state_is = refl;
      place_is = λ _. refl;
      heard_is = refl;
      done1_is = sym (none_done 1 b.stations);
      done2_is = sym (none_done 2 b.stations);
      stations_are = stations_stationed b.stations ∙ is;
      eight = rw (length-map, is, length_mapped (station_in images) 0 ts) eight;
      in_step = in_step_begins b;
      info1_is = rw stations_stationed;
      info3_is = rw stations_stationed;
    }

network_kept : (b : Bus) → (exchanged b).network ≡ b.network.state
unfolding exchanged onward begins
network_kept b = refl

pub exchange_shown : ExchangeShown
unfolding tally_after_four terminals_after_four exchanged opportunities_of filled_with_ones
exchange_shown images b ts eight is =
    let any1 : Bool = any_info1 b.stations in
    let any3 : Bool = any_info3 b.stations in
    let s1 = stepped images any1 any3 0 (first_tally_of b) (begins b) ts (codes_first images b ts eight is) (omega arith) in
    let s2 = stepped images any1 any3 1 _ _ _ s1.codes (omega arith) in
    let s3 = stepped images any1 any3 2 _ _ _ s2.codes (omega arith) in
    let s4 = stepped images any1 any3 3 _ _ _ s3.codes (omega arith) in
    record {
      stations = s4.codes.stations_are;
      terminals = rw (s4.codes.stations_are, terminals_in_lem);
      ds = rw (s4.ds_come, s3.ds_come, s2.ds_come, s1.ds_come);
      echo = s4.codes.heard_is;
      state = s4.codes.state_is ∙ network_kept b;
      info1 = s4.calling_comes;
      info3 = s4.frames_come;
      done1 = s4.codes.done1_is;
      done2 = s4.codes.done2_is;
    }
