-- The laws of specs/Laws.antt.
use mathlib.Core.Path.{◌≡◌, refl, sym, ◌∙◌}
use mathlib.Core.Bool.{Bool, true, false, cond, ◌&&◌}
use mathlib.Core.List.{List}
use Prim.Native.Nat.{ℕ, zero, suc, ◌*◌, ◌≤◌, ◌<◌}
use native.Mathlib.Omega.{arith}
use lib.Dec.{eqb, ltb}
use lib.ListN.{length, take}
use lib.Seq.{ext_get_or, get_or-take, length-take-le}
use borrow.Author.Tests.{lt-ltb}
use Rattle.test_lemmas.proofs.ByCases.{by_test, and_left, and_right}
use Rattle.hdlc.specs.Image.{image}
use Rattle.hdlc.proofs.ImageLaws.{image_most}
use Rattle.timing.specs.Calls.{periods_in_range, opportunities_in_range}
use Rattle.network.specs.Calls.{network_in_range}
use Rattle.network.proofs.RangesKept as network
use Rattle.cycle.specs.Rest.{rests}
use Rattle.d_reader.specs.ReaderRange.{reader_in_range}
use Rattle.d_reader.proofs.RangesKept as reader
use Rattle.table_6_3.specs.Table63 as Table63
use Rattle.terminal.specs.Calls.{terminal_in_range}
use Rattle.terminal.proofs.RangesKept as terminal
use Rattle.dchannel.specs.declared.access.Class.TheVariants.{One, Two}
use Rattle.dchannel.specs.declared.access.Class.{Class}
use Rattle.terminal.specs.declared.Terminal.{Terminal}
use Rattle.bus_rules.specs.Bus.{terminals}
use Rattle.notes_and_cells.specs.Events.{ON, OFF, AR, D1, D2, HIT}
use Rattle.exchange.specs.Part.{image_bits, bits_from, image_of}
use Rattle.bus_record.specs.Record.{record_in_range}
use Rattle.bus_record.specs.NetworkSide.{reader_after}
use Rattle.bus_record.specs.declared.record.BusRecord.{BusRecord}
use Rattle.bus_event.specs.Event.{told, asked, network_asked, network_told, image_put, frame_reason, frame_given, terminal_told}
use Rattle.bus_event.specs.Laws.{ImagePut, EventRecordKept, EventTerminalKept}
use Rattle.bus_event.proofs.ImagePlaces.{put_length, put_there, put_elsewhere}

length_bits : (images : List ℕ) (at n : ℕ) → length (bits_from images at n) ≡ n
unfolding bits_from
length_bits images at zero = refl
length_bits images at (suc n) = rw (length_bits images (suc at) n)

-- a room has as many bits whatever is lent
length_room : (images : List ℕ) (j : ℕ) → length (image_of images j) ≡ cond (ltb j terminals) image_bits 0
unfolding image_of
length_room images j = by_test (ltb j terminals) (λ t. rw t (length_bits images (j * image_bits) image_bits)) (λ t. rw t)

pub image_put_lem : ImagePut
image_put_lem i body images b l e =
    let after : List ℕ = image_put i body images in
    let most = image_most body b in
    let room : length (image_of after i) ≡ image_bits = rw (length_room after i, lt-ltb i terminals l) in
    let long : length (image body) ≤ length (image_of after i) = omega arith in
    let taken : length (take (length (image body)) (image_of after i)) ≡ length (image body) = length-take-le (length (image body)) (image_of after i) long in
    record {
      there =
          ext_get_or true (take (length (image body)) (image_of after i)) (image body) taken
          (λ n h.
          let low : n < length (image body) = omega arith in
          get_or-take (length (image body)) (image_of after i) n true low ∙ put_there i body images b l e n low);
      elsewhere = λ j d.
          ext_get_or true (image_of after j) (image_of images j) (length_room after j ∙ sym (length_room images j))
          (λ n h. put_elsewhere i body images b l e j d n);
      same_length = put_length i body images b l e ∙ sym e;
    }

-- ---- An event keeps every field in its range.

reader_kept : (left : Bool) (r : BusRecord) → reader_in_range r.reader ≡ true → reader_in_range (reader_after left r.reader) ≡ true
unfolding reader_after
reader_kept true r h = reader.fresh_in_range
reader_kept false r h = h

pub event_record_kept : EventRecordKept
unfolding network_told network_asked asked told record_in_range
event_record_kept event r h =
    let others : Bool = (network_in_range r.network && periods_in_range r.periods) && opportunities_in_range r.periods r.opportunities in
    let parts = and_left (others && reader_in_range r.reader) (rests r.cycle) h in
    let most = and_left others (reader_in_range r.reader) parts in
    let counts = and_left (network_in_range r.network && periods_in_range r.periods) (opportunities_in_range r.periods r.opportunities) most in
    by_test (eqb event HIT)
    (λ t. rw t h)
    (λ t. rw (
      t,
      network.requested_in_range r.periods r.network (and_left (network_in_range r.network) (periods_in_range r.periods) counts) (cond (eqb event AR) Table63.ar_row Table63.dr_row),
      and_right (network_in_range r.network) (periods_in_range r.periods) counts,
      and_right (network_in_range r.network && periods_in_range r.periods) (opportunities_in_range r.periods r.opportunities) most,
      reader_kept _ r (and_right others (reader_in_range r.reader) parts),
    )
    (and_right (others && reader_in_range r.reader) (rests r.cycle) h))

frame_kept : (class : Class) (images : List ℕ) (i : ℕ) (body : List ℕ) (t : Terminal) → terminal_in_range t ≡ true → terminal_in_range (frame_given class images i body t).terminal ≡ true
unfolding frame_given
frame_kept class images i body t h =
    by_test (eqb (frame_reason (length images) i (length body) t) 0)
    (λ e. rw e (terminal.handed_over_in_range class (length (image body)) t h))
    (λ e. rw e h)

pub event_terminal_kept : EventTerminalKept
unfolding terminal_told
event_terminal_kept event images i value period t h =
    by_test (eqb event ON) (λ a. rw a (terminal.switched_on_in_range period t h))
    (λ a. by_test (eqb event OFF) (λ b. rw (a, b) (terminal.switched_off_in_range period t h))
    (λ b. by_test (eqb event AR) (λ c. rw (a, b, c) (terminal.requested_in_range period t h))
    (λ c. by_test (eqb event D1) (λ d. rw (a, b, c, d) (frame_kept One images i value t h))
    (λ d. by_test (eqb event D2) (λ e. rw (a, b, c, d, e) (frame_kept Two images i value t h)) (λ e. rw (a, b, c, d, e) h)))))
