-- What is stored as octets is read back as it was: specs/Laws.antt.
use mathlib.Core.Bool.{Bool, true, false}
use mathlib.Core.List.{List, [], ◌∷◌, ◌++◌, append_assoc}
use mathlib.Core.Path.{◌≡◌, refl, sym, ap, ◌∙◌}
use Prim.Native.Nat.{ℕ, ◌+◌, ◌^◌, ◌<◌}
use native.Mathlib.Nat.{suc-add}
use native.Mathlib.Omega.{arith}
use lib.Dec.{eqb, leb}
use lib.ListN.{length, take, drop, length-append}
use lib.Seq.{take_at, drop_at, drop-drop}
use borrow.Author.Tests.{eq-eqb, leb-true}
use Rattle.test_lemmas.proofs.Operators.{and_both}
use Rattle.hdlc.specs.Image.{longest_body, longest_image}
use Rattle.symbols.specs.Symbols.{line_length}
use Rattle.symbols.proofs.Lines.{same_symbols_self, fits_length}
use Rattle.combining.specs.Hit.{none_letter}
use Rattle.dchannel.specs.Access.{normal2}
use Rattle.dchannel.specs.Ranges.{access_in_range}
use Rattle.dchannel.specs.declared.access.Access.{Access}
use Rattle.d_reader.proofs.RangesKept.{bits_most}
use Rattle.network.proofs.RangesKept.{network_fits}
use Rattle.terminal.specs.Calls.{terminal_in_range}
use Rattle.terminal.specs.declared.Terminal.{Terminal}
use Rattle.terminal.proofs.RangesKept.{terminal_fits}
use Rattle.period_hearing.specs.Shown.{all_in_range}
use Rattle.bus_record.specs.declared.record.BusRecord.{BusRecord}
use Rattle.bus_call_specs.specs.Kept.{Kept}
use Rattle.bus_call_specs.proofs.InOrder.{InOrder, in_order, order_ranges}
use Rattle.bus_call_specs.specs.Kept.{found}
use Rattle.note_text.proofs.Determined.{half_back, word_back}
use Rattle.bus_octets.specs.Layout.{flag, record_octets, terminal_octets, terminals_octets, head_octets, bus_octets, record_in, terminal_at, terminals_from, terminals_in, letters_in, octets_in, shown, terminal_length, letters_at, octets_at, images_at, bus_length, is_head, is_bus}
use Rattle.bus_octets.specs.Laws.{RoundTrip}
use Rattle.bus_octets.proofs.Lengths.{length_record, length_terminal, length_head}

-- ---- Flags.
pub flag_back : (b : Bool) → eqb (flag b) 1 ≡ b
flag_back true = refl
flag_back false = refl

-- ---- The record.
pub record_back : (k : Kept) → InOrder k → (rest : List ℕ) → record_in (record_octets k.bus ++ rest) ≡ k.bus
unfolding record_in record_octets
record_back k o rest =
    let r : BusRecord = k.bus in
    let n = network_fits r.network o.network_fits in
    rw (
      word_back r.periods.0 (omega (arith, o.periods_fit)),
      word_back r.opportunities.0 (omega (arith, o.periods_fit, o.opportunities_fit)),
      word_back r.network.t1 (omega (arith, n.t1_fits)),
      word_back r.network.t2 (omega (arith, n.t2_fits)),
      o.cycle_rests,
      half_back r.reader.bits (omega (arith, bits_most r.reader o.reader_fits)),
      flag_back r.network.alignment.aligned,
      flag_back r.reader.opened,
      flag_back r.reader.zero,
      flag_back r.echo,
      flag_back r.hit,
    )

-- ---- The terminals.
record Short (a : Access) : Type 0 where
  length_short : a.length < 2 ^ 16
  sent_short : a.sent < 2 ^ 16

short : (a : Access) → access_in_range normal2 a ≡ true → Short a
unfolding access_in_range
short a h =
    let c = and_both _ (leb a.count (normal2 + 1)) h in
    let s = and_both _ (leb a.sent longest_image) c.0 in
    let l = and_both (leb a.held 2) (leb a.length longest_image) s.0 in
    record {
      length_short = omega (arith, leb-true a.length longest_image l.1);
      sent_short = omega (arith, leb-true a.sent longest_image s.1);
    }

first_back : (t : Terminal) → terminal_in_range t ≡ true → (rest : List ℕ) → terminal_at (terminal_octets t ++ rest) 0 ≡ t
unfolding terminal_at terminal_octets
first_back t h rest =
    let f = terminal_fits t h in
    let s = short t.access f.access_fits in
    rw (
      word_back t.t3 (omega (arith, f.t3_fits)),
      half_back t.access.length s.length_short,
      half_back t.access.sent s.sent_short,
      flag_back t.access.low1,
      flag_back t.access.low2,
      flag_back t.access.last,
      flag_back t.alignment.aligned,
    )

-- behind other octets
behind : (a b : List ℕ) → terminal_at (a ++ b) (length a) ≡ terminal_at b 0
unfolding terminal_at
behind [] b = refl
behind (x ∷ a) b = simp suc-add (behind a b)

pub terminals_back : (ts : List Terminal) → all_in_range ts ≡ true → (a rest : List ℕ)
    → terminals_from (length ts) (a ++ (terminals_octets ts ++ rest)) (length a) ≡ ts
unfolding terminals_from terminals_octets all_in_range
terminals_back [] h a rest = refl
terminals_back (t ∷ ts) h a rest =
    let f = and_both (terminal_in_range t) (all_in_range ts) h in
    let b : List ℕ = a ++ terminal_octets t in
    let e : a ++ ((terminal_octets t ++ terminals_octets ts) ++ rest) ≡ a ++ (terminal_octets t ++ (terminals_octets ts ++ rest)) = simp append_assoc in
    let d : a ++ (terminal_octets t ++ (terminals_octets ts ++ rest)) ≡ b ++ (terminals_octets ts ++ rest) = sym (append_assoc a _ _) in
    let n : length a + terminal_length ≡ length b = sym (length-append a (terminal_octets t) ∙ rw (length_terminal t)) in
    rw (e, behind a (terminal_octets t ++ (terminals_octets ts ++ rest)), first_back t f.0 (terminals_octets ts ++ rest), n, d)
    (ap (λ (l : List Terminal). t ∷ l) (terminals_back ts f.1 b rest))

-- ---- The parts behind them.
module _ (k : Kept) (o : InOrder k) (long : length k.octets ≡ longest_body) where
  abbrev head : List ℕ
  head = head_octets k.bus k.terminals

  abbrev stored : List ℕ
  stored = bus_octets k

  head_long : length head ≡ letters_at
  head_long = length_head k.bus k.terminals o.eight

  letters_long : length k.letters ≡ line_length
  letters_long = fits_length line_length none_letter k.letters o.letters_fit

  by_head : stored ≡ head ++ (k.letters ++ (k.octets ++ k.images))
  unfolding bus_octets head_octets
  by_head = sym (append_assoc (record_octets k.bus) (terminals_octets k.terminals) (k.letters ++ (k.octets ++ k.images)))

  from_letters : drop letters_at stored ≡ k.letters ++ (k.octets ++ k.images)
  from_letters = ap (drop letters_at) by_head ∙ drop_at head _ letters_at head_long

  from_octets : drop octets_at stored ≡ k.octets ++ k.images
  from_octets = sym (drop-drop line_length letters_at stored) ∙ (ap (drop line_length) from_letters ∙ drop_at k.letters _ line_length letters_long)

  from_images : drop images_at stored ≡ k.images
  from_images = sym (drop-drop longest_body octets_at stored) ∙ (ap (drop longest_body) from_octets ∙ drop_at k.octets _ longest_body long)

  terminals_are : terminals_in stored ≡ k.terminals
  unfolding terminals_in bus_octets
  terminals_are =
      let e = terminals_back k.terminals o.terminals_fit (record_octets k.bus) (k.letters ++ (k.octets ++ k.images)) in
      rw (o.eight, length_record k.bus) at e

  record_is : record_in stored ≡ k.bus
  unfolding bus_octets
  record_is = record_back k o _

  letters_are : letters_in stored ≡ k.letters
  letters_are = ap (take line_length) from_letters ∙ take_at k.letters _ line_length letters_long

  octets_are : octets_in stored ≡ k.octets
  octets_are = ap (take longest_body) from_octets ∙ take_at k.octets _ longest_body long

  shown_is : shown stored ≡ found k.bus k.terminals k.images k.octets k.letters
  unfolding shown
  shown_is = rw (record_is, terminals_are, letters_are, octets_are, from_images)

  stored_long : length stored ≡ bus_length
  stored_long =
      ap length by_head
      ∙ (length-append head _ ∙ rw (head_long, length-append k.letters, letters_long, length-append k.octets, long, o.images_fit))

  is_stored : is_bus stored ≡ true
  unfolding is_bus is_head
  is_stored =
      let r = order_ranges k o in
      let t : take letters_at stored ≡ head = ap (take letters_at) by_head ∙ take_at head _ letters_at head_long in
      rw (eq-eqb _ _ stored_long, record_is, terminals_are, letters_are, t, same_symbols_self head, r.0, r.1, o.letters_fit)

-- ---- All of it.
pub round_trip : RoundTrip
round_trip k h long = let o = in_order 0 k h in record { is_bus_lem = is_stored k o long; shown_is = shown_is k o long }
