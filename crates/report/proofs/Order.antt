-- Every call, refused or not, leaves the record and what is lent with it in order: `specs/Told.antt`.
use mathlib.Core.Path.{◌≡◌, refl, sym, ap, ◌∙◌}
use mathlib.Core.Bool.{true, false, not, ◌&&◌, ◌||◌}
use mathlib.Core.List.{List, [], ◌∷◌, ◌++◌}
use Prim.Native.Nat.{ℕ, zero, suc, ◌+◌, ◌-◌, ◌*◌, ◌≤◌}
use native.Mathlib.Omega.{arith}
use lib.Dec.{eqb, ltb}
use lib.ListN.{length, take, drop, get_or, set, length-append, length-drop, length-set, take-append-drop}
use borrow.Author.Tests.{eqb-true, eq-eqb, le-leb, leb-true, ltb-false, not-false}
use Rattle.test_lemmas.proofs.ByCases.{by_test}
use Rattle.test_lemmas.proofs.Operators.{and_both}
use Rattle.hdlc.specs.Bits.{body_bits, octets}
use Rattle.hdlc.specs.Image.{image, longest_body}
use Rattle.hdlc.proofs.ImageLaws.{length_image, length_stuff_most, length_body_bits}
use Rattle.hdlc.proofs.OctetLaws.{length_octets}
use Rattle.packing.specs.Packing.{octets_for, image_room, filled_octets, onto, is_body_length, imaged_octets}
use Rattle.terminal.specs.Terminal.{fresh}
use Rattle.terminal.specs.Calls.{terminal_in_range}
use Rattle.terminal.specs.declared.Terminal.{Terminal}
use Rattle.terminal.proofs.RangesKept.{fresh_in_range}
use Rattle.bus_rules.specs.Bus.{terminals}
use Rattle.bus_rules.proofs.Barred.{right_letters}
use Rattle.notes_and_cells.specs.Events.{D1, D2, HIT}
use Rattle.bus_rules.specs.Calls.{Call}
use Rattle.bus_rules.specs.Calls.Call.{event, period}
use Rattle.period_hearing.specs.Shown.{all_in_range}
use Rattle.bus_record.specs.Record.{record_in_range}
use Rattle.bus_event.specs.Event.{images_room, are_letters, taken_over, image_put, frame_reason, images_with, network_told, terminal_told}
use Rattle.bus_event.specs.Event as parts
use Rattle.bus_event.proofs.Laws.{event_record_kept, event_terminal_kept}
use Rattle.bus_call_specs.specs.Kept.{Kept, kept, settled}
use Rattle.bus_call_specs.specs.Ready.{eight_in_range, lent_fits, run_reason, run_reply}
use Rattle.bus_call_specs.specs.Run.{not_yet, kept_after}
use Rattle.bus_call_specs.specs.Event.{reason, event_told, terminals_after, images_after, letters_after}
use Rattle.bus_call_specs.specs.Lists.{told, called}
use Rattle.bus_call_specs.proofs.InOrder.{InOrder, in_order, one_left, order_reply, order_ranges, order_reason, eight_in_range_lem}
use Rattle.bus_call_specs.proofs.ReadyKept.{order_kept}
use Rattle.bus_call_specs.proofs.RunSingle.{period_single, stays, kept_ends}
use Rattle.report.specs.Told.{Ready, done, done_all, StaysReady}

-- ---- The images: whatever is put among them, of whatever octets, they are as many.
image_room_lem : (body : List ℕ) → length body ≤ longest_body → octets_for (length (image body)) ≤ image_room
image_room_lem body l = omega (arith, length_image body, length_stuff_most (body_bits body) 0 (omega arith), length_body_bits body)

onto_kept : (os buf : List ℕ) → length os ≤ length buf → length (onto os buf) ≡ length buf
unfolding onto
onto_kept os buf h = rw (length-append os (drop (length os) buf), length-drop (length os) buf) (omega arith)

body_most : (n : ℕ) → is_body_length n ≡ true → n ≤ longest_body
unfolding is_body_length
body_most n h = by_test (eqb n 0) (λ t. omega (arith, eqb-true n 0 t)) (λ t. leb-true n longest_body (rw t at h))

imaged_kept : (body buf : List ℕ) → length (imaged_octets body buf) ≡ length buf
unfolding imaged_octets filled_octets
imaged_kept body buf =
    by_test (ltb (length buf) image_room)
    (λ t. rw t)
    (λ t. rw t
    (by_test (is_body_length (length body))
    (λ u. rw u
    (onto_kept _ buf
    (rw (length_octets (octets_for (length (image body))) (image body))
    (omega (arith, image_room_lem body (body_most (length body) u), ltb-false (length buf) image_room t)))))
    (λ u. rw u)))

put_kept : (i : ℕ) (body images : List ℕ) → length (image_put i body images) ≡ length images
unfolding image_put
put_kept i body images =
    let before : List ℕ = take (i * image_room) images in
    let behind : List ℕ = drop (i * image_room) images in
    let room : List ℕ = take image_room behind in
    let rest : List ℕ = drop image_room behind in
    length-append before (imaged_octets body room ++ rest)
    ∙ (rw (length-append (imaged_octets body room) rest, imaged_kept body room)
    (ap (λ (n : ℕ). length before + n) (sym (length-append room rest) ∙ ap length (take-append-drop image_room behind))
    ∙ (sym (length-append before behind) ∙ ap length (take-append-drop (i * image_room) images))))

images_kept : (number : ℕ) (t : Terminal) (i : ℕ) (value images : List ℕ) → length (parts.images_after number t i value images) ≡ length images
unfolding parts.images_after images_with
images_kept number t i value images =
    by_test (eqb number D1 || eqb number D2)
    (λ a. rw a
    (by_test (eqb (frame_reason (length images) i (length value) t) 0)
    (λ b. rw b (put_kept i value images))
    (λ b. rw b)))
    (λ a. rw a)

-- ---- The letters of an accepted hit are letters.
letters_kept : (number : ℕ) (value letters : List ℕ) → are_letters letters ≡ true → (eqb number HIT && not (are_letters value)) ≡ false →
    are_letters (parts.letters_after number value letters) ≡ true
unfolding parts.letters_after taken_over
letters_kept number value letters l h =
    by_test (eqb number HIT)
    (λ t. rw t
    (by_test (eqb (length value) (length letters))
    (λ u. rw u (not-false (are_letters value) (rw t at h)))
    (λ u. rw u l)))
    (λ t. rw t l)

-- ---- The terminals.
terminal_fits : (ts : List Terminal) (i : ℕ) → all_in_range ts ≡ true → terminal_in_range (get_or ts i fresh) ≡ true
unfolding all_in_range
terminal_fits [] i h = fresh_in_range
terminal_fits (t ∷ ts) zero h = (and_both (terminal_in_range t) (all_in_range ts) h).0
terminal_fits (t ∷ ts) (suc i) h = terminal_fits ts i (and_both (terminal_in_range t) (all_in_range ts) h).1

terminals_kept : (ts : List Terminal) (i : ℕ) (t : Terminal) → all_in_range ts ≡ true → terminal_in_range t ≡ true → all_in_range (set ts i t) ≡ true
unfolding all_in_range
terminals_kept [] i t h e = refl
terminals_kept (x ∷ ts) zero t h e = rw e (and_both (terminal_in_range x) (all_in_range ts) h).1
terminals_kept (x ∷ ts) (suc i) t h e =
    let b = and_both (terminal_in_range x) (all_in_range ts) h in
    rw b.0 (terminals_kept ts i t b.1 e)

-- ---- The tests, where all is in order.
ready_by : (k : Kept) → eight_in_range k.terminals ≡ true → record_in_range k.bus ≡ true → length k.images ≡ images_room →
    longest_body ≤ length k.octets → length k.notes ≡ terminals → are_letters k.letters ≡ true → Ready k
unfolding run_reply run_reason lent_fits
ready_by k e r i o n l = rw (e, r, eq-eqb _ _ i, le-leb _ _ o, eq-eqb _ _ n, l)

-- ---- An event.
module _ (k : Kept) (o : InOrder k) (unit number : ℕ) (value : List ℕ) where
  abbrev why : ℕ
  why = reason unit number value k.bus k.terminals k.images k.letters

  abbrev call : Call
  call = event unit number value

  letters_good : why ≡ 0 → (eqb number HIT && not (are_letters value)) ≡ false
  letters_good e = right_letters unit number value (sym (order_reason k o unit number value) ∙ e)

  refused_event : eqb why 0 ≡ false → called k call ≡ k
  unfolding called told event_told terminals_after images_after letters_after parts.event_settled parts.told
  refused_event t = rw t

  network_event : eqb why 0 ≡ true → eqb unit 0 ≡ true → Ready (called k call)
  unfolding called told event_told terminals_after images_after letters_after
  network_event t z =
      let r = order_ranges k o in
      rw (t, z)
      (ready_by (kept (network_told number k.bus).bus k.terminals k.images k.octets (parts.letters_after number value k.letters) k.notes)
      r.0 (event_record_kept number k.bus r.1) o.images_fit o.octets_fit o.notes_fit
      (letters_kept number value k.letters o.letters_fit (letters_good (eqb-true why 0 t))))

  terminal_event : eqb why 0 ≡ true → eqb unit 0 ≡ false → Ready (called k call)
  unfolding called told event_told terminals_after images_after letters_after parts.event_settled parts.told
  terminal_event t z =
      let r = order_ranges k o in
      let i : ℕ = unit - 1 in
      let there : Terminal = get_or k.terminals i fresh in
      let now : Terminal = (terminal_told number k.images i value k.bus.periods there).terminal in
      let fits : terminal_in_range now ≡ true =
      event_terminal_kept number k.images i value k.bus.periods there (terminal_fits k.terminals i o.terminals_fit) in
      let eight : eight_in_range (set k.terminals i now) ≡ true =
      rw (
        eight_in_range_lem (set k.terminals i now),
        eq-eqb _ _ (length-set k.terminals i now ∙ o.eight),
        terminals_kept k.terminals i now o.terminals_fit fits,
      ) in
      rw (t, z)
      (ready_by (kept k.bus (set k.terminals i now) (parts.images_after number there i value k.images) k.octets k.letters k.notes)
      eight r.1 (images_kept number there i value k.images ∙ o.images_fit) o.octets_fit o.notes_fit o.letters_fit)

  order_event : InOrder (called k call)
  order_event =
      by_test (eqb why 0)
      (λ t. in_order 0 (called k call) (by_test (eqb unit 0) (network_event t) (terminal_event t)))
      (λ t. rw (refused_event t) o)

-- ---- A period.
order_period : (k : Kept) → InOrder k → InOrder (called k period)
unfolding called kept_after
order_period k o =
    by_test (eqb (run_reply 1 k) 0)
    (λ t.
    let h : run_reply 1 k ≡ 0 = eqb-true (run_reply 1 k) 0 t in
    rw (period_single k h).kept_is (order_kept k o (one_left 1 k (omega arith) h)))
    (λ t. rw (kept_ends 1 (not_yet 1 k) k (stays 1 1 k t)) o)

-- ---- Every call.
pub order_called : (k : Kept) (c : Call) → InOrder k → InOrder (called k c)
order_called k (event unit number value) o = order_event k o unit number value
order_called k period o = order_period k o

pub order_settled : (k : Kept) → InOrder k → InOrder (settled k)
unfolding settled
order_settled k o =
    record {
      eight = o.eight;
      terminals_fit = o.terminals_fit;
      network_fits = o.network_fits;
      periods_fit = o.periods_fit;
      opportunities_fit = o.opportunities_fit;
      reader_fits = o.reader_fits;
      cycle_rests = o.cycle_rests;
      images_fit = o.images_fit;
      octets_fit = o.octets_fit;
      notes_fit = refl;
      letters_fit = o.letters_fit;
    }

pub order_done : (k : Kept) (c : Call) → InOrder k → InOrder (done k c)
unfolding done
order_done k c o = order_settled (called k c) (order_called k c o)

-- ---- Lists.
pub order_ready : (k : Kept) → InOrder k → Ready k
order_ready k o = order_reply 0 k o

pub order_all : (k : Kept) (calls : List Call) → InOrder k → InOrder (done_all k calls)
unfolding done_all
order_all k [] o = o
order_all k (c ∷ more) o = order_all (done k c) more (order_done k c o)

pub stays_ready : StaysReady
stays_ready k calls h = order_ready (done_all k calls) (order_all k calls (in_order 0 k h))
