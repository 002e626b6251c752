-- What an event and a run leave of a bus that is lent as octets.
use mathlib.Core.Bool.{true}
use mathlib.Core.List.{List, ◌++◌, append-nil}
use mathlib.Core.Path.{◌≡◌, sym, ap, ◌∙◌}
use Prim.Native.Nat.{ℕ, ◌-◌, ◌≤◌}
use native.Mathlib.Omega.{arith}
use lib.ListN.{length, take, drop, length-drop, length-append, drop_of_length-le}
use lib.Seq.{take_all, drop_at, length-take-le}
use borrow.Author.Tests.{eq-eqb}
use Rattle.symbols.specs.Symbols.{line_length}
use Rattle.symbols.proofs.Lines.{fits_length}
use Rattle.combining.specs.Hit.{none_letter}
use Rattle.terminal.specs.declared.Terminal.{Terminal}
use Rattle.bus_rules.specs.Calls.Call.{event}
use Rattle.bus_record.specs.declared.record.BusRecord.{BusRecord}
use Rattle.bus_call_specs.specs.Kept.{Kept}
use Rattle.bus_call_specs.specs.Run.{run_answer, kept_after}
use Rattle.bus_call_specs.specs.Event.{event_told, terminals_after, images_after, letters_after}
use Rattle.bus_call_specs.specs.Lists.{told, called}
use Rattle.bus_call_specs.proofs.InOrder.{InOrder, in_order}
use Rattle.bus_call_specs.proofs.RunLeft.{run_left, run_leaves_lem}
use Rattle.bus_call_specs.specs.Kept.{found}
use Rattle.bus_by_value.specs.declared.HeldEvent.{HeldEvent}
use Rattle.bus_by_value.specs.declared.HeldRun.{HeldRun}
use Rattle.report.proofs.Order.{order_called}
use Rattle.note_text.specs.Room.{laid}
use Rattle.bus_octets.specs.Layout.{head_octets, bus_octets, record_in, terminals_in, letters_in, octets_in, images_in, letters_read, octets_of, shown, images_at, bus_length, is_bus}
use Rattle.bus_octets.proofs.Exact.{exact}
use Rattle.bus_octets.proofs.Lengths.{stored_over}

letters_long : (k : Kept) → InOrder k → length k.letters ≡ line_length
letters_long k o = fits_length line_length none_letter k.letters o.letters_fit

-- ---- The parts of a bus, as the code has taken them.
module _ (s : List ℕ) (h : is_bus s ≡ true) where
  pub long : length s ≡ bus_length
  long = (exact s h).long

  pub order : InOrder (shown s)
  order = in_order 0 (shown s) (exact s h).ready

  letters_are : letters_read s ≡ letters_in s
  unfolding letters_read
  letters_are = rw (eq-eqb _ _ long)

  octets_are : octets_of s ≡ octets_in s
  unfolding octets_of
  octets_are = rw (eq-eqb _ _ long)

  images_long : length (drop images_at s) ≡ length s - images_at
  images_long = length-drop images_at s

  images_are : take (length s - images_at) (drop images_at s) ≡ images_in s
  images_are = take_all (length s - images_at) (drop images_at s) (omega (arith, images_long))

  -- the octets, once new images stand in the images' place
  with_images : (images : List ℕ) → drop images_at (take images_at s ++ (images ++ drop (length s - images_at) (drop images_at s))) ≡ images
  with_images images =
      drop_at (take images_at s) _ images_at (length-take-le images_at s (omega (arith, long)))
      ∙ (ap (λ (l : List ℕ). images ++ l) (drop_of_length-le (drop images_at s) {i = length s - images_at} (omega (arith, images_long))) ∙ append-nil images)

  with_long : (images : List ℕ) → images_at ≤ length (take images_at s ++ (images ++ drop (length s - images_at) (drop images_at s)))
  with_long images =
      omega (arith, length-append (take images_at s) (images ++ drop (length s - images_at) (drop images_at s)), length-take-le images_at s (omega (arith, long)))

  module _ (bus : BusRecord) (ts : List Terminal) (letters octets : List ℕ)
      (bus_is : bus ≡ record_in s) (ts-are : ts ≡ terminals_in s) (letters-is : letters ≡ letters_read s) (octets_is : octets ≡ octets_of s) where
    -- ---- An event.
    module _ (unit number : ℕ) (value : List ℕ) (r : HeldEvent) (images' letters' s' : List ℕ) where
      abbrev images : List ℕ
      images = take (length s - images_at) (drop images_at s)

      abbrev after : Kept
      after = called (shown s) (event unit number value)

      pub gave : r.told ≡ event_told unit number value bus ts images letters → r.terminals ≡ terminals_after unit number value bus ts images letters
          → images' ≡ images_after unit number value bus ts images letters → letters' ≡ letters_after unit number value bus ts images letters
          → s' ≡ laid (take images_at s ++ (images' ++ drop (length s - images_at) (drop images_at s))) 0
          (head_octets r.told.bus r.terminals ++ (letters' ++ octets))
          → (r.told ≡ told unit number value (shown s)) × (s' ≡ bus_octets after)
      unfolding told called shown
      gave t u i l e =
          let o : InOrder after = order_called (shown s) (event unit number value) order in
          let told_is : r.told ≡ told unit number value (shown s) = t ∙ rw (bus_is, ts-are, letters-is, letters_are, images_are) in
          let u' : r.terminals ≡ after.terminals = u ∙ rw (bus_is, ts-are, letters-is, letters_are, images_are) in
          let i' : images' ≡ after.images = i ∙ rw (bus_is, ts-are, letters-is, letters_are, images_are) in
          let l' : letters' ≡ after.letters = l ∙ rw (bus_is, ts-are, letters-is, letters_are, images_are) in (
            told_is,
            e ∙ (rw (told_is, u', i', l', octets_is, octets_are)
                (stored_over (take images_at s ++ (after.images ++ drop (length s - images_at) (drop images_at s))) after
                o.eight (letters_long after o) (exact s h).octets_fit (with_long after.images) (with_images after.images))),
          )

    -- ---- A run of periods.
    module _ (most : ℕ) (r : HeldRun) (octets' s' : List ℕ) where
      abbrev from : Kept
      from = found bus ts (take (length s - images_at) (drop images_at s)) octets letters

      abbrev ended : Kept
      ended = kept_after most (shown s)

      from_is : from ≡ shown s
      unfolding shown
      from_is = rw (bus_is, ts-are, letters-is, letters_are, octets_is, octets_are, images_are)

      pub went : r.answer ≡ run_answer most from → r.terminals ≡ (kept_after most from).terminals → r.notes ≡ (kept_after most from).notes
          → octets' ≡ (kept_after most from).octets
          → s' ≡ laid s 0 (head_octets r.answer.bus r.terminals ++ (letters ++ octets'))
          → (r.answer ≡ run_answer most (shown s)) × ((r.notes ≡ ended.notes) × (s' ≡ bus_octets ended))
      unfolding shown
      went a t n o e =
          let l = run_left most (shown s) order in
          let stays = run_leaves_lem most (shown s) in
          let a' : r.answer ≡ run_answer most (shown s) = a ∙ rw from_is in
          let bus' : r.answer.bus ≡ ended.bus = rw a' stays.bus_is in
          let t' : r.terminals ≡ ended.terminals = t ∙ rw from_is in
          let o' : octets' ≡ ended.octets = o ∙ rw from_is in
          let letters' : letters ≡ ended.letters = letters-is ∙ (letters_are ∙ sym stays.letters_stay) in (
            a',
            (
              n ∙ rw from_is,
              e ∙ (rw (bus', t', o', letters')
                  (stored_over s ended l.order.eight (letters_long ended l.order) (l.octets_long ∙ (exact s h).octets_fit) (omega (arith, long))
                  (sym stays.images_stay))),
            ),
          )
