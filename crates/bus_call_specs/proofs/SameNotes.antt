-- What a period hands back: of two buses that differ only in the reader and in image bits that are not sent it is the same; and as bits,
-- codes and octets it has the notes of the period.
use mathlib.Core.Path.{◌≡◌, refl, sym, ap, ◌∙◌}
use mathlib.Core.List.{List, [], ◌∷◌, map}
use Prim.Native.Nat.{ℕ, suc, ◌+◌}
use native.Mathlib.Omega.{arith}
use lib.ListN.{get_or, get_or-map}
use Rattle.hdlc.specs.Bits.{number_low_first, bit_of}
use Rattle.hdlc.proofs.OctetLaws.{number_bit}
use Rattle.bus_rules.specs.Bus.{Bus, fresh_station, station_at}
use Rattle.bus_rules.specs.Exchange.{Sender, stations_of, station_after_e, done_of, hears_e, as_sender, exchanged, whole_down}
use Rattle.heard_line.specs.Sensing.{shown_down}
use Rattle.bus_rules.specs.Period.{terminal_hears, stepped, done_codes, hearing_codes, timer_codes}
use Rattle.bus_rules.specs.Event.{among}
use Rattle.bus_rules.specs.Ranges.{InRange}
use Rattle.bus_rules.proofs.OneDone.{hears_four, exchanged_at, sender_exchanged}
use Rattle.bus_rules.proofs.Ranges.{done_bits_in}
use Rattle.period_hearing.specs.declared.hears.UnitNotes.{UnitNotes}
use Rattle.bus_record.specs.declared.side.RunAnswer.{RunAnswer}
use Rattle.exchange.specs.Shown.{done_octet}
use Rattle.period_hearing.specs.Shown.{heard_notes, timed_notes, terminal_notes}
use Rattle.bus_call_specs.specs.Period.{d_read, left_g3, done_mask, network_notes, terminals_notes}
use Rattle.bus_call_specs.specs.Lists.{done_notes, terminals_heard, terminals_timed}
use Rattle.bus_call_specs.proofs.Pairs.{both_equal}
use Rattle.bus_call_specs.proofs.SameExchange.{SameSender, SameBus, periods_same, network_same, exchanged_same, ds_same, down_same, network_hears_same, heard_same, period_same}

-- ---- the same of two such buses
module _ (a b : Bus) (h : SameBus a b) where
  pub read_same : d_read a ≡ d_read b
  unfolding d_read
  read_same = rw (ds_same a b h, network_same a b h)

  pub left_same : left_g3 a ≡ left_g3 b
  unfolding left_g3
  left_same = rw (network_same _ _ (period_same a b h), network_same _ _ (heard_same a b h), network_same a b h)

  pub mask_same : (class : ℕ) → done_mask class a ≡ done_mask class b
  unfolding done_mask done_octet
  mask_same class =
      ap number_low_first
      (both_equal SameSender (λ (s : Sender). among class s.done) (λ (s : Sender). among class s.done) (λ s t e. rw e.done_is) (exchanged_same a b h).senders)

  pub network_notes_same : network_notes a ≡ network_notes b
  unfolding network_notes
  network_notes_same = rw (network_hears_same a b h, network_same _ _ (heard_same a b h), periods_same a b h)

  pub terminals_notes_same : terminals_notes a ≡ terminals_notes b
  unfolding terminals_notes
  terminals_notes_same =
      both_equal SameSender
      (λ (s : Sender). terminal_notes (shown_down (whole_down (exchanged a))) a.periods s.station.terminal)
      (λ (s : Sender). terminal_notes (shown_down (whole_down (exchanged b))) b.periods s.station.terminal)
      (λ s t e. rw (down_same _ _ (exchanged_same a b h), periods_same a b h, e.station.terminal_is))
      (exchanged_same a b h).senders

-- ---- a bit for each frame completed
none_done : (b : Bus) → (exchanged_at b fresh_station).done ≡ []
unfolding exchanged_at hears_four hears_e done_of station_after_e as_sender
none_done b = refl

module _ (b : Bus) (r : InRange b) where
  mask_bit : (class i : ℕ) → bit_of (done_mask class b) i ≡ among class (exchanged_at b (station_at i b)).done
  unfolding done_mask done_octet
  mask_bit class i =
      number_bit (map (λ (s : Sender). among class s.done) (exchanged b).senders) i
      ∙ (ap (λ (x : List ℕ). get_or (map (λ (s : Sender). among class s.done) (exchanged b).senders) i (among class x)) (sym (none_done b))
      ∙ (get_or-map (λ (s : Sender). among class s.done) (exchanged b).senders i (exchanged_at b fresh_station)
      ∙ rw (sender_exchanged b i)))

  pub done_notes_lem : (i : ℕ) →
      done_notes (bit_of (done_mask 1 b) i) (bit_of (done_mask 2 b) i) ≡ done_codes (get_or (exchanged b).senders i (exchanged_at b fresh_station)).done
  done_notes_lem i = rw (mask_bit 1 i, mask_bit 2 i, sender_exchanged b i) (sym (done_bits_in b r i))

-- ---- the codes of the terminals
module _ (down : List ℕ) (now : ℕ) where
  abbrev told : Sender → UnitNotes
  told s = terminal_notes (shown_down down) now s.station.terminal

  pub hearing_told : (r : RunAnswer) (d : Sender) (i : ℕ) (ss : List Sender) →
      ((j : ℕ) → done_notes (bit_of r.done1 (i + j)) (bit_of r.done2 (i + j)) ≡ done_codes (get_or ss j d).done) →
      terminals_heard r i (map told ss) ≡ map (hearing_codes down now) ss
  unfolding terminals_heard terminal_notes heard_notes timed_notes terminal_hears
  hearing_told r d i [] h = refl
  hearing_told r d i (s ∷ ss) h =
      let z : i + 0 ≡ i = omega arith in
      let first : done_notes (bit_of r.done1 i) (bit_of r.done2 i) ≡ done_codes s.done = rw z at (h 0) in
      rw (first, hearing_told r d (suc i) ss (λ j. let n : i + suc j ≡ suc i + j = omega arith in rw n at (h (suc j))))

  pub timers_told_lem : (ss : List Sender) →
      terminals_timed (map told ss) ≡ map (timer_codes (now + 1)) (map (stepped (terminal_hears down now)) (stations_of ss))
  unfolding terminal_notes heard_notes timed_notes terminal_hears stepped
  timers_told_lem [] = refl
  timers_told_lem (s ∷ ss) = rw (timers_told_lem ss)
