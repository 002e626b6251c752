-- What an event that is not refused leaves stands for the bus after it: a hit, a request, power, a frame.
use mathlib.Core.Path.{◌≡◌, refl, sym, ap, ◌∙◌}
use mathlib.Core.Bool.{Bool, true, false, cond}
use mathlib.Core.List.{List, [], ◌∷◌, map}
use Prim.Native.Nat.{ℕ, zero, suc, ◌-◌, ◌<◌}
use native.Mathlib.Omega.{arith}
use lib.Dec.{eqb, leb}
use lib.ListN.{length, get_or, set, get_or-map}
use borrow.Author.Tests.{eqb-true, eqb-false, eq-eqb, lt-ltb, leb-true, leb-false}
use Rattle.test_lemmas.proofs.ByCases.{by_test, both, clash}
use Rattle.symbols.specs.Symbols.{line_length, fits}
use Rattle.notes_and_cells.specs.declared.cell.Cell.{Cell}
use Rattle.notes_and_cells.specs.declared.cell.Cell.TheVariants.{To, Stay, Impossible, Absent}
use Rattle.table_6_3.specs.Table63.{G3}
use Rattle.table_6_3.specs.Table63 as Table63
use Rattle.timing.specs.Calls.{at_period}
use Rattle.hdlc.specs.Reading.{Reading, cleared}
use Rattle.d_reader.specs.ReaderRange.{reader_in_range}
use Rattle.d_reader.specs.StandsFor.{StandsFor}
use Rattle.d_reader.specs.declared.Reader.{Reader}
use Rattle.d_reader.proofs.ReadingKept.{stands_fresh}
use Rattle.d_reader.proofs.RangesKept as reader_kept
use Rattle.contention.specs.Change.{change}
use Rattle.contention.proofs.Change.{change_each, change_there}
use Rattle.dchannel.specs.Handing.{taken_up}
use Rattle.hdlc.specs.Image.{image, IsBody, is_body, longest_body}
use Rattle.hdlc.proofs.ImageLaws.{is_body_lem, body_is}
use Rattle.packing.specs.Packing.{is_body_length}
use Rattle.timing.specs.declared.counts.Periods.{Periods}
use Rattle.network.specs.Calls as networkCalls
use Rattle.terminal.specs.Terminal as terminal
use Rattle.terminal.specs.Calls as terminalCalls
use Rattle.terminal.specs.declared.Terminal.{Terminal}
use Rattle.bus_rules.specs.Bus.{Station, Hit, Bus, terminals, fresh_station, station_at, with_network, with_hit}
use Rattle.bus_rules.specs.Period.{reading_after, stepped}
use Rattle.bus_rules.specs.Event.{station_of, class_of, first_holding, network_does, network_done, hit_given, terminal_does, with_frame, station_after, station_done}
use Rattle.notes_and_cells.specs.Events.{AR, D1, D2}
use Rattle.bus_rules.proofs.Barred as barred
use Rattle.bus_rules.proofs.TerminalDoes.{does_by_state}
use Rattle.bus_rules.proofs.Simulation.{Takes}
use Rattle.bus_rules.proofs.Ranges.{network_does_called, terminal_does_called, hand_over_called, class_given, class_given_lem}
use Rattle.exchange.specs.Part.{image_of}
use Rattle.bus_record.specs.NetworkSide.{leaves_g3, reader_after}
use Rattle.bus_record.specs.Record as busRecord
use Rattle.bus_event.specs.Event.{images_room, are_letters, taken_over, asked, network_asked, image_put, frame_reason, frame_given, terminal_told}
use Rattle.bus_event.specs.Event as parts
use Rattle.bus_call_specs.specs.Kept.{Kept, kept}
use Rattle.bus_record.specs.Echo.{hit_in}
use Rattle.bus_call_specs.specs.Lists.{Carries}
use Rattle.bus_call_specs.proofs.Fields.{periods_of, network_of}
use Rattle.bus_call_specs.proofs.SameExchange.{SameBits, HasBits, has_stepped}
use Rattle.bus_event.proofs.ImagePlaces.{put_length, put_there, put_elsewhere}
use Rattle.bus_call_specs.proofs.Fitting.{Fit}

-- ---- an event of table 6-2 has reply 0 where it happens
pub no_refusal : (c : Cell) (now : ℕ) (t : Terminal) → (terminal.acts c now t).reply ≡ 0
unfolding terminal.acts
no_refusal (To next action notes) now t = refl
no_refusal (Stay notes) now t = refl
no_refusal Impossible now t = refl
no_refusal Absent now t = refl

-- ---- the reader, where G3 is left or not
stands_once : (r : Reader) (buf : List ℕ) (s : Reading) → StandsFor r buf s → (from to : ℕ) → StandsFor (reader_after (leaves_g3 from to) r) buf (reading_after from to s)
unfolding reader_after reading_after
stands_once r buf s h from to =
    by_test (eqb from G3) (λ t. by_test (eqb to G3) (λ u. rw (t, u) h) (λ u. rw (t, u) (stands_fresh buf))) (λ t. rw t h)

pub reader_stays : (state : ℕ) (r : Reader) → reader_after (leaves_g3 state state) r ≡ r
unfolding reader_after
reader_stays state r = by_test (eqb state G3) (λ t. rw t) (λ t. rw t)

reader_fits_on : (left : Bool) (r : Reader) → reader_in_range r ≡ true → reader_in_range (reader_after left r) ≡ true
unfolding reader_after
reader_fits_on true r h = reader_kept.fresh_in_range
reader_fits_on false r h = h

-- ---- unit 0
letters_length : (l : List ℕ) → are_letters l ≡ true → length l ≡ line_length
unfolding fits
letters_length l h = eqb-true (length l) line_length (both (eqb (length l) line_length) _ h).0

module _ (k : Kept) (b : Bus) (c : Carries k b) where
  -- a hit
  taken : (value : List ℕ) → are_letters value ≡ true → taken_over value k.letters ≡ value
  unfolding taken_over
  taken value h = rw (eq-eqb (length value) (length k.letters) (letters_length value h ∙ sym (letters_length k.letters c.letters_fit)))

  pub hit_carried : (value : List ℕ) → are_letters value ≡ true →
      Carries (kept (busRecord.with_hit true k.bus) k.terminals k.images k.octets (taken_over value k.letters) k.notes) (hit_given value b)
  unfolding hit_given hit_in
  hit_carried value h =
      record {
        record_is = ap (with_hit (Hit.given (taken_over value k.letters))) c.record_is ∙ rw (taken value h);
        terminals_are = c.terminals_are;
        images_are = c.images_are;
        cycle_rests = c.cycle_rests;
        reader_is = c.reader_is;
        reader_fits = c.reader_fits;
        images_fit = c.images_fit;
        octets_fit = c.octets_fit;
        letters_fit = rw (taken value h) h;
        notes_fit = c.notes_fit;
      }

  -- a request
  module _ (f : Fit b) (number : ℕ) where
    pub asked_is : asked number k.bus ≡ network_does number b.periods b.network
    unfolding asked
    asked_is =
        rw (network_of c.record_is)
        (ap (λ (n : ℕ). networkCalls.request_call (cond (eqb number AR) Table63.ar_row Table63.dr_row) (at_period n) b.network) (periods_of c.record_is)
        ∙ network_does_called b.periods f.in_range.periods_fit number b.network f.in_range.network_fits)

    pub asked_carried : Carries (kept (network_asked number k.bus).bus k.terminals k.images k.octets k.letters k.notes) (network_done number b)
    unfolding network_asked network_done parts.told
    asked_carried =
        record {
          record_is = ap (with_network (asked number k.bus).network cleared) c.record_is ∙ rw asked_is;
          terminals_are = c.terminals_are;
          images_are = c.images_are;
          cycle_rests = c.cycle_rests;
          reader_is = rw (asked_is, network_of c.record_is) (stands_once k.bus.reader k.octets b.reading c.reader_is _ _);
          reader_fits = reader_fits_on _ k.bus.reader c.reader_fits;
          images_fit = c.images_fit;
          octets_fit = c.octets_fit;
          letters_fit = c.letters_fit;
          notes_fit = c.notes_fit;
        }

-- ---- a terminal
set_changed : (g : Station → Station) (i : ℕ) (ss : List Station) →
    set (map (λ (s : Station). s.terminal) ss) i (g (get_or ss i fresh_station)).terminal ≡ map (λ (s : Station). s.terminal) (change g i ss)
unfolding change
set_changed g i [] = refl
set_changed g zero (s ∷ ss) = refl
set_changed g (suc i) (s ∷ ss) = rw (set_changed g i ss)

pub no_frame : (number : ℕ) → eqb (class_of number) 0 ≡ true → (eqb number D1 ≡ false) × (eqb number D2 ≡ false)
unfolding class_of
no_frame number h =
    by_test (eqb number D1)
    (λ t. clash false (rw t at h) refl)
    (λ t. by_test (eqb number D2) (λ u. clash false (rw (t, u) at h) refl) (λ u. (t, u)))

module _ (k : Kept) (b : Bus) (c : Carries k b) (unit : ℕ) where
  pub terminal_there : get_or k.terminals (unit - 1) terminal.fresh ≡ (station_of b unit).terminal
  terminal_there = rw c.terminals_are (get_or-map (λ (s : Station). s.terminal) b.stations (unit - 1) fresh_station)

  -- power and requests
  module _ (f : Fit b) (number : ℕ) (value : List ℕ) (none : eqb (class_of number) 0 ≡ true) where
    pub power_told : terminal_told number k.images (unit - 1) value k.bus.periods (get_or k.terminals (unit - 1) terminal.fresh)
        ≡ terminal_does number b.periods (station_of b unit).terminal
    unfolding terminal_told
    power_told =
        let d = no_frame number none in
        let period : k.bus.periods ≡ at_period b.periods = ap at_period (periods_of c.record_is) in
        rw (terminal_there, period, d.0, d.1)
        (terminal_does_called b.periods f.in_range.periods_fit number (station_of b unit).terminal (f.in_range.terminals_fit (unit - 1)))

    station_power : (s : Station) → station_after number value b.periods s ≡ stepped (terminal_does number b.periods) s
    unfolding station_after
    station_power s = rw none

    pub power_carried : Carries
        (kept k.bus (set k.terminals (unit - 1) (terminal_does number b.periods (station_of b unit).terminal).terminal) k.images k.octets k.letters k.notes)
        (station_done unit number value b)
    unfolding station_done stepped
    power_carried =
        record {
          record_is = c.record_is;
          terminals_are =
              rw c.terminals_are
              (ap (λ (s : Station). set (map (λ (s : Station). s.terminal) b.stations) (unit - 1) s.terminal) (sym (station_power (station_of b unit)))
              ∙ set_changed (station_after number value b.periods) (unit - 1) b.stations);
          images_are = λ i.
              (change_each (station_after number value b.periods) fresh_station (λ x y. HasBits (image_of k.images i) x → HasBits (image_of k.images i) y)
              (λ x h. h)
              (λ x h. rw (station_power x) (has_stepped (image_of k.images i) (terminal_does number b.periods) (does_by_state number b.periods) x h))
              (unit - 1) b.stations i (f.in_order i, c.images_are i)).1;
          cycle_rests = c.cycle_rests;
          reader_is = c.reader_is;
          reader_fits = c.reader_fits;
          images_fit = c.images_fit;
          octets_fit = c.octets_fit;
          letters_fit = c.letters_fit;
          notes_fit = c.notes_fit;
        }

-- ---- a frame

-- values are octets, so that 7 goes by the length alone
body_length : (value : List ℕ) → ((i : ℕ) → get_or value i 0 < 256) → is_body_length (length value) ≡ is_body value
unfolding is_body_length
body_length value h =
    by_test (eqb (length value) 0)
    (λ t. rw t (sym (not_body value (λ x. omega (arith, x.some_octet, eqb-true (length value) 0 t)))))
    (λ t.
    rw t
    (by_test (leb (length value) longest_body)
    (λ u. rw u (sym (body_is value (record { some_octet = omega (arith, eqb-false (length value) 0 t); at_most = leb-true (length value) longest_body u; octet = h }))))
    (λ u. rw u (sym (not_body value (λ x. omega (arith, x.at_most, leb-false (length value) longest_body u)))))))
  where
    not_body : (value : List ℕ) → (IsBody value → ⊥) → is_body value ≡ false
    not_body value d = by_test (is_body value) (λ t. absurd (d (is_body_lem value t))) (λ t. t)

-- the reasons 6, 7 and 8
pub frame_reason_lem : (images i : ℕ) (value : List ℕ) (t : Terminal) → terminalCalls.terminal_in_range t ≡ true → images ≡ images_room → i < terminals →
    ((j : ℕ) → get_or value j 0 < 256) → frame_reason images i (length value) t ≡ barred.frame_reply value t
unfolding frame_reason first_holding
frame_reason_lem images i value t r e l h = rw (r, eq-eqb images images_room e, lt-ltb i terminals l, body_length value h) (barred.frame_reasons value t)

changed_elsewhere : (g : Station → Station) (i : ℕ) (ss : List Station) (j : ℕ) → (j ≡ i → ⊥) → get_or (change g i ss) j fresh_station ≡ get_or ss j fresh_station
unfolding change
changed_elsewhere g i [] j d = refl
changed_elsewhere g zero (s ∷ ss) zero d = absurd (d refl)
changed_elsewhere g zero (s ∷ ss) (suc j) d = refl
changed_elsewhere g (suc i) (s ∷ ss) zero d = refl
changed_elsewhere g (suc i) (s ∷ ss) (suc j) d = changed_elsewhere g i ss j (λ x. d (ap suc x))

pub gives_frame_lem : (number : ℕ) (images : List ℕ) (i : ℕ) (value : List ℕ) (now : Periods) (t : Terminal) → eqb (class_of number) 0 ≡ false →
    (terminal_told number images i value now t ≡ frame_given (class_given number) images i value t)
    × (parts.images_after number t i value images ≡ parts.images_with t i value images)
unfolding terminal_told class_of parts.images_after
gives_frame_lem number images i value now t h =
    by_test (eqb number D1)
    (λ u. rw (eqb-true number D1 u) (refl, refl))
    (λ u. by_test (eqb number D2) (λ v. rw (eqb-true number D2 v) (refl, refl)) (λ v. clash true refl (rw (u, v) at h)))

module _ (k : Kept) (b : Bus) (c : Carries k b) (f : Fit b) (unit number : ℕ) (value : List ℕ) (some : eqb (class_of number) 0 ≡ false) (here : unit - 1 < terminals)
    (takes : Takes (station_of b unit) value) where
  station_framed : (s : Station) → station_after number value b.periods s ≡ with_frame (class_of number) value s
  unfolding station_after
  station_framed s = rw some

  frame_terminal : (terminalCalls.hand_over_call (class_given number) (length (image value)) (station_of b unit).terminal).terminal ≡ (with_frame (class_of number) value (station_of b unit)).terminal
  frame_terminal =
      hand_over_called (class_given number) value (station_of b unit) (f.in_range.terminals_fit (unit - 1)) takes
      ∙ rw (class_given_lem number some)

  is_there : IsBody value
  is_there = is_body_lem value takes.good

  frame_bits : (i : ℕ) → SameBits (station_at i (station_done unit number value b)).terminal.access (image_of (image_put (unit - 1) value k.images) i) (station_at i (station_done unit number value b)).image
  unfolding station_done
  frame_bits i =
      by_test (eqb i (unit - 1))
      (λ t.
      rw (
        eqb-true i (unit - 1) t,
        change_there (station_after number value b.periods) fresh_station (unit - 1) b.stations (omega (arith, f.in_range.eight)),
        station_framed (station_of b unit),
      )
      (unfold with_frame taken_up in λ j h l. put_there (unit - 1) value k.images is_there here c.images_fit j l))
      (λ t.
      rw (changed_elsewhere (station_after number value b.periods) (unit - 1) b.stations i (eqb-false i (unit - 1) t))
      (λ j h l. put_elsewhere (unit - 1) value k.images is_there here c.images_fit i (eqb-false i (unit - 1) t) j ∙ c.images_are i j h l))

  pub frame_carried : Carries
      (kept k.bus (set k.terminals (unit - 1) (terminalCalls.hand_over_call (class_given number) (length (image value)) (station_of b unit).terminal).terminal)
      (image_put (unit - 1) value k.images) k.octets k.letters k.notes)
      (station_done unit number value b)
  unfolding station_done
  frame_carried =
      record {
        record_is = c.record_is;
        terminals_are =
            rw (c.terminals_are, frame_terminal)
            (ap (λ (s : Station). set (map (λ (s : Station). s.terminal) b.stations) (unit - 1) s.terminal) (sym (station_framed (station_of b unit)))
            ∙ set_changed (station_after number value b.periods) (unit - 1) b.stations);
        images_are = frame_bits;
        cycle_rests = c.cycle_rests;
        reader_is = c.reader_is;
        reader_fits = c.reader_fits;
        images_fit = put_length (unit - 1) value k.images is_there here c.images_fit;
        octets_fit = c.octets_fit;
        letters_fit = c.letters_fit;
        notes_fit = c.notes_fit;
      }
