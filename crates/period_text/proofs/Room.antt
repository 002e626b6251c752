-- The notes of a period and of an event fit into the room that specs/PeriodText.antt gives them, as text and as octets.
use mathlib.Core.Bool.{Bool, true, false}
use mathlib.Core.List.{List, [], ◌∷◌, ◌++◌}
use mathlib.Core.Path.{◌≡◌, refl}
use Prim.Native.Nat.{ℕ, suc, ◌+◌, ◌*◌, ◌≤◌, ◌<◌}
use native.Mathlib.Omega.{arith}
use native.Mathlib.Nat.{mul-le-mul_right, le_trans}
use borrow.Author.Tests.{eqb-true}
use lib.Dec.{eqb}
use lib.ListN.{length, take, length-append, length-take}
use Rattle.test_lemmas.proofs.ByCases.{by_test}
use Rattle.notes_and_cells.specs.Names.{printed, printed_as}
use Rattle.notes_and_cells.specs.Notes.{HEARD, REFUSED, noted}
use Rattle.notes_and_cells.specs.declared.notes.Notes.{Notes}
use Rattle.hdlc.specs.Bits.{bit_of}
use Rattle.hdlc.specs.Image.{longest_body}
use Rattle.bus_rules.specs.Bus.{terminals, notes_of}
use Rattle.bus_rules.specs.Order.{unit_by_unit, part_in_order}
use Rattle.period_hearing.specs.declared.hears.UnitNotes.{UnitNotes}
use Rattle.bus_record.specs.declared.side.RunAnswer.{RunAnswer}
use Rattle.bus_call_specs.specs.Lists.{reader_told, done_notes, terminals_heard, terminals_told, timers_told, heard_told, timed_told, period_told}
use Rattle.note_text.specs.NoteText.{note, note_in, notes_in}
use Rattle.note_text.specs.Lengths.{numbers, line_room, heard_room, octets_room}
use Rattle.note_text.specs.declared.form.Form.{Form}
use Rattle.note_text.specs.declared.form.Form.TheVariants.{Line, Octets}
use Rattle.note_text.proofs.NoteLaws.{one_note, form_append}
use Rattle.note_text.proofs.NumberLaws.{number_octets_lem}
use Rattle.note_text.proofs.Lengths.{line_fits, number_fits, heard_fits, octets_length}
use Rattle.period_text.specs.PeriodText.{event_noted, most_heard, most_timed, most_notes, PeriodFits, EventFits, PeriodOctetsFit, EventOctetsFit}
use Rattle.period_text.proofs.PeriodLaws.{heard_of, timed_of, heard_parts, timed_parts, period_parts}

at_most_four : (n : Notes) → length (noted n) ≤ 4
unfolding noted
at_most_four n = rw length-take (omega arith)

at_most_two : (one two : Bool) → length (done_notes one two) ≤ 2
at_most_two true true = omega arith
at_most_two true false = omega arith
at_most_two false true = omega arith
at_most_two false false = omega arith

-- ---- Notes in a form in which one without a value takes at most so many octets.
abbrev PlainFits : Form → ℕ → ℕ → ℕ → Type 0
PlainFits form most now unit = (code : ℕ) → length (note_in form (note now unit code [])) ≤ most

-- that of any unit of the bus
abbrev UnitsFit : Form → ℕ → ℕ → Type 0
UnitsFit form most now = (unit : ℕ) → unit ≤ terminals → PlainFits form most now unit

module _ (form : Form) (most : ℕ) where
  codes_fit : (now unit : ℕ) (codes : List ℕ) → PlainFits form most now unit → length (notes_in form (notes_of now unit codes)) ≤ length codes * most
  unfolding notes_in notes_of
  codes_fit now unit [] h = omega arith
  codes_fit now unit (c ∷ codes) h =
      rw (length-append (note_in form (note now unit c [])) (notes_in form (notes_of now unit codes)))
      (omega (arith, h c, codes_fit now unit codes h))

  notes_fit : (now unit : ℕ) (n : Notes) → PlainFits form most now unit → length (notes_in form (notes_of now unit (noted n))) ≤ 4 * most
  notes_fit now unit n h = le_trans (codes_fit now unit (noted n) h) (mul-le-mul_right most (at_most_four n))

  heard_of_fits : (now : ℕ) (r : RunAnswer) (i : ℕ) (n : UnitNotes) → PlainFits form most now (suc i) → length (notes_in form (heard_of now r i n)) ≤ 6 * most
  heard_of_fits now r i n h =
      let done = done_notes (bit_of r.done1 i) (bit_of r.done2 i) in
      let count : length (done ++ noted n.hearing) ≤ 6 =
      rw (length-append done (noted n.hearing))
      (omega (arith, at_most_two (bit_of r.done1 i) (bit_of r.done2 i), at_most_four n.hearing))
      in
      le_trans (codes_fit now (suc i) (done ++ noted n.hearing) h) (mul-le-mul_right most count)

  terminals_fit : (now : ℕ) (r : RunAnswer) (i : ℕ) (ns : List UnitNotes) → UnitsFit form most now → i + length ns ≤ terminals
      → length (notes_in form (terminals_told now r i ns)) ≤ length ns * (6 * most)
  unfolding unit_by_unit terminals_heard notes_in
  terminals_fit now r i [] h k = omega arith
  terminals_fit now r i (n ∷ ns) h k =
      rw (
        form_append form (heard_of now r i n) (terminals_told now r (suc i) ns),
        length-append (notes_in form (heard_of now r i n)) (notes_in form (terminals_told now r (suc i) ns)),
      )
      (omega (arith, heard_of_fits now r i n (h (suc i) (omega arith)), terminals_fit now r (suc i) ns h (omega arith)))

  timers_fit : (now i : ℕ) (ns : List UnitNotes) → UnitsFit form most now → i + length ns ≤ terminals
      → length (notes_in form (timers_told now i ns)) ≤ length ns * (4 * most)
  unfolding unit_by_unit notes_in
  timers_fit now i [] h k = omega arith
  timers_fit now i (n ∷ ns) h k =
      rw (
        form_append form (timed_of now i n) (timers_told now (suc i) ns),
        length-append (notes_in form (timed_of now i n)) (notes_in form (timers_told now (suc i) ns)),
      )
      (omega (arith, notes_fit now (suc i) n.timers (h (suc i) (omega arith)), timers_fit now (suc i) ns h (omega arith)))

-- ---- A period, where the reader's note takes at most so many, and one without a value no more.
module _ (form : Form) (most heard now : ℕ) (r : RunAnswer) (ns : List UnitNotes) (octets : List ℕ) where
  no_notes_lem : length (notes_in form []) ≤ heard
  unfolding notes_in
  no_notes_lem = omega arith

  reader_fits : PlainFits form most now 0 → length (note_in form (note now 0 HEARD (take r.body octets))) ≤ heard → most ≤ heard
      → length (notes_in form (reader_told now r octets)) ≤ heard
  unfolding reader_told
  reader_fits p h k =
      by_test (eqb r.said 0) (λ t. rw t no_notes_lem)
      (λ t. by_test (eqb r.said HEARD) (λ u. rw (eqb-true r.said HEARD u, one_note) h)
      (λ u. rw (t, u, one_note) (omega (arith, p r.said))))

  heard_room_lem : UnitsFit form most now → length (note_in form (note now 0 HEARD (take r.body octets))) ≤ heard → most ≤ heard → length ns ≡ terminals
      → length (notes_in form (part_in_order now (heard_told now r ns octets))) ≤ heard + most_heard * most
  heard_room_lem p h k long =
      rw (← heard_parts form now r ns octets)
      (simp length-append
      (omega (
        arith,
        reader_fits (p 0 (omega arith)) h k,
        notes_fit form most now 0 r.network.hearing (p 0 (omega arith)),
        rw long at (terminals_fit form most now r 0 ns p (omega arith)),
      )))

  timed_room : (next : ℕ) → UnitsFit form most next → length ns ≡ terminals
      → length (notes_in form (part_in_order next (timed_told r.network ns))) ≤ most_timed * most
  timed_room next q long =
      rw (← timed_parts form next r.network ns)
      (simp length-append
      (omega (
        arith,
        notes_fit form most next 0 r.network.timers (q 0 (omega arith)),
        rw long at (timers_fit form most next 0 ns q (omega arith)),
      )))

  period_room_lem : UnitsFit form most now → UnitsFit form most (now + 1)
      → length (note_in form (note now 0 HEARD (take r.body octets))) ≤ heard → most ≤ heard → length ns ≡ terminals
      → length (notes_in form (period_told now r ns octets)) ≤ heard + most_notes * most
  period_room_lem p q h k long =
      rw (← period_parts form now r ns octets)
      (simp length-append (omega (arith, heard_room_lem p h k long, timed_room (now + 1) q long)))

-- ---- As text.
lines_fit : (now : ℕ) → now < numbers → UnitsFit Line line_room now
lines_fit now h unit k code = line_fits now unit code h (omega arith)

pub period_fits : PeriodFits
period_fits now r ns octets h long k =
    period_room_lem Line line_room heard_room now r ns octets (lines_fit now (omega arith)) (lines_fit (now + 1) h)
    (heard_fits now 0 (take r.body octets) (omega arith) (omega arith) (rw length-take (omega arith))) (omega arith) long

pub event_fits : EventFits
unfolding event_noted printed_as printed
event_fits period unit notes reply h k l =
    by_test (eqb reply 0) (λ t. rw t (omega (arith, notes_fit Line line_room period unit notes (λ code. line_fits period unit code h k))))
    (λ t. rw (t, one_note) (omega (arith, number_fits period unit REFUSED (reply ∷ []) h k refl (rw (number_octets_lem (reply ∷ [])) (omega arith)))))

-- ---- As octets.
plain_octets : (now unit : ℕ) → PlainFits Octets octets_room now unit
plain_octets now unit code = omega (arith, octets_length (note now unit code []))

pub period_octets_fit : PeriodOctetsFit
period_octets_fit now r ns octets long k =
    let body = take r.body octets in
    let short : length body ≤ longest_body = rw length-take (omega arith) in
    period_room_lem Octets octets_room (octets_room + longest_body) now r ns octets (λ unit u. plain_octets now unit)
    (λ unit u. plain_octets (now + 1) unit) (omega (arith, octets_length (note now 0 HEARD body))) (omega arith) long

pub event_octets_fit : EventOctetsFit
event_octets_fit period unit notes = notes_fit Octets octets_room period unit notes (plain_octets period unit)
