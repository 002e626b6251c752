-- The notes of every call fit their octets, and the octets determine them: specs/Laws.antt.
use mathlib.Core.Bool.{true, false, cond}
use mathlib.Core.List.{List, [], ◌∷◌, ◌++◌, append_assoc}
use mathlib.Core.Path.{◌≡◌, refl, sym, ◌∙◌}
use Prim.Native.Nat.{ℕ, zero, suc, ◌+◌, ◌≤◌}
use native.Mathlib.Omega.{arith}
use lib.Dec.{eqb}
use lib.ListN.{length, take, drop, length-take, take-append-drop}
use borrow.Author.Tests.{eqb-true, eqb-false, ltb-true}
use Rattle.test_lemmas.proofs.ByCases.{by_test, both, clash}
use Rattle.notes_and_cells.specs.Notes.{HEARD, noted}
use Rattle.hdlc.specs.Bits.{bit_of}
use Rattle.hdlc.specs.Image.{longest_body}
use Rattle.timing.specs.Counts.{most_periods}
use Rattle.bus_rules.specs.Bus.{Note, terminals, notes_of}
use Rattle.bus_rules.specs.Order.{unit_by_unit}
use Rattle.bus_rules.specs.Calls.{Call}
use Rattle.bus_rules.specs.Calls.Call.{event, period}
use Rattle.period_hearing.specs.declared.hears.UnitNotes.{UnitNotes}
use Rattle.bus_record.specs.declared.side.RunAnswer.{RunAnswer}
use Rattle.bus_call_specs.specs.Kept.{Kept}
use Rattle.bus_call_specs.specs.Run.{run_answer}
use Rattle.bus_call_specs.specs.Lists.{is_code, coded, told, replied, notes_told, run_told, done_notes, period_told, reader_told, terminals_heard, terminals_told, timers_told}
use Rattle.bus_call_specs.proofs.InOrder.{InOrder}
use Rattle.bus_call_specs.proofs.Events.{unit_is}
use Rattle.bus_call_specs.proofs.QuietRuns.{one_told}
use Rattle.bus_call_specs.proofs.Codes.{notes_coded, run_notes_coded}
use Rattle.bus_call_specs.proofs.RunLeft.{run_left, run_leaves_lem}
use Rattle.note_text.specs.Determined.{FitsOctets, AllFitOctets}
use Rattle.note_text.proofs.Determined as notes
use Rattle.bus_octets.specs.Layout.{shown, is_bus}
use Rattle.bus_octets.proofs.Exact.{exact}
use Rattle.host_steps.specs.Stepping.{notes_octets}
use Rattle.host_steps.specs.Laws as laws
use Rattle.host_steps.proofs.Stepped.{order}
use Rattle.host_steps.proofs.Told.{none_told}

-- ---- The period, the unit and the value of a note of a bus; timers tell of the period that follows.
record Small (n : Note) : Type 0 where
  period_small : n.period ≤ most_periods + 1
  unit_small : n.unit ≤ terminals
  value_short : length n.value ≤ longest_body

AllSmall : List Note → Type 0
AllSmall [] = Unit
AllSmall (n ∷ ns) = Small n × AllSmall ns

small_append : (xs ys : List Note) → AllSmall xs → AllSmall ys → AllSmall (xs ++ ys)
unfolding AllSmall
small_append [] ys p q = q
small_append (x ∷ xs) ys p q = (p.0, small_append xs ys p.1 q)

none_small : AllSmall []
unfolding AllSmall
none_small = tt

small_of : (now unit : ℕ) (codes : List ℕ) → now ≤ most_periods + 1 → unit ≤ terminals → AllSmall (notes_of now unit codes)
unfolding AllSmall notes_of
small_of now unit [] h u = tt
small_of now unit (c ∷ codes) h u =
    (record { period_small = h; unit_small = u; value_short = omega arith }, small_of now unit codes h u)

module _ (now : ℕ) (r : RunAnswer) (in_time : now ≤ most_periods + 1) where
  small_terminals : (i : ℕ) (ns : List UnitNotes) → i + length ns ≤ terminals → AllSmall (terminals_told now r i ns)
  unfolding unit_by_unit terminals_heard
  small_terminals i [] h = none_small
  small_terminals i (n ∷ ns) h =
      small_append (notes_of now (suc i) _) _
      (small_of now (suc i) (done_notes (bit_of r.done1 i) (bit_of r.done2 i) ++ noted n.hearing) in_time (omega arith))
      (small_terminals (suc i) ns (omega arith))

  small_timers : (i : ℕ) (ns : List UnitNotes) → i + length ns ≤ terminals → AllSmall (timers_told now i ns)
  unfolding unit_by_unit
  small_timers i [] h = none_small
  small_timers i (n ∷ ns) h =
      small_append (notes_of now (suc i) _) _ (small_of now (suc i) (noted n.timers) in_time (omega arith))
      (small_timers (suc i) ns (omega arith))

  module _ (octets : List ℕ) (long : length octets ≡ longest_body) where
    body_short : length (cond (eqb r.said HEARD) (take r.body octets) []) ≤ longest_body
    body_short =
        by_test (eqb r.said HEARD) (λ t. rw (t, length-take r.body octets) (omega arith)) (λ t. rw t (omega arith))

    small_reader : AllSmall (reader_told now r octets)
    unfolding reader_told AllSmall
    small_reader =
        by_test (eqb r.said 0) (λ t. rw t tt)
        (λ t. rw t (record { period_small = in_time; unit_small = omega arith; value_short = body_short }, tt))

small_period : (now : ℕ) (r : RunAnswer) (ns : List UnitNotes) (octets : List ℕ)
    → now ≤ most_periods → length ns ≡ terminals → length octets ≡ longest_body → AllSmall (period_told now r ns octets)
unfolding period_told
small_period now r ns octets h eight long =
    let early : now ≤ most_periods + 1 = omega arith in
    let late : now + 1 ≤ most_periods + 1 = omega arith in
    small_append (reader_told now r octets ++ _) _
    (small_append (reader_told now r octets) _ (small_reader now r early octets long)
    (small_append (notes_of now 0 (noted r.network.hearing)) _ (small_of now 0 _ early (omega arith))
    (small_terminals now r early 0 ns (omega arith))))
    (small_append (notes_of (now + 1) 0 (noted r.network.timers)) _ (small_of (now + 1) 0 _ late (omega arith))
    (small_timers (now + 1) r late 0 ns (omega arith)))

-- ---- The notes of a run and of a call.
module _ (k : Kept) (o : InOrder k) (long : length k.octets ≡ longest_body) where
  small_run : (most : ℕ) → AllSmall (run_told most k)
  unfolding run_told
  small_run most =
      let l = run_left most k o in
      let e = (run_leaves_lem most k).bus_is in
      let in_time : (run_answer most k).bus.periods.0 ≤ most_periods = rw e l.order.periods_fit in
      by_test (eqb (run_answer most k).reply 0)
      (λ t. rw t (small_period _ (run_answer most k) _ _ (omega arith) l.order.notes_fit (l.octets_long ∙ long)))
      (λ t. rw t none_small)

  small_call : (c : Call) → AllSmall (notes_told k c)
  unfolding notes_told replied told
  small_call (event unit number value) =
      by_test (eqb (told unit number value k).reply 0)
      (λ t. rw t
      (small_of k.bus.periods.0 unit _ (omega (arith, o.periods_fit))
      (unit_is unit number value k.bus k.terminals k.images k.letters (eqb-true _ 0 t))))
      (λ t. rw t none_small)
  small_call period = rw (← one_told k) (small_run 1)

-- ---- With codes they fit.
fits_octets : (n : Note) → is_code n.code ≡ true → Small n → FitsOctets n
fits_octets n c s =
    by_test (eqb n.code 0)
    (λ t. clash false (rw t at c) refl)
    (λ t.
    let small = ltb-true n.code 256 (rw t at c) in
    let some = eqb-false n.code 0 t in
    record {
      code_not_zero = omega arith;
      code_fits = omega arith;
      unit_fits = omega (arith, s.unit_small);
      length_fits = omega (arith, s.value_short);
      period_fits = omega (arith, s.period_small);
    })

all_fit : (ns : List Note) → coded ns ≡ true → AllSmall ns → AllFitOctets ns
unfolding coded AllSmall AllFitOctets
all_fit [] c s = tt
all_fit (n ∷ ns) c s =
    let b = both (is_code n.code) (coded ns) c in
    (fits_octets n b.0 s.0, all_fit ns b.1 s.1)

module _ (s : List ℕ) (h : is_bus s ≡ true) where
  pub run_coded : (most : ℕ) → coded (run_told most (shown s)) ≡ true
  unfolding coded
  run_coded zero = rw (none_told s h)
  run_coded (suc n) = run_notes_coded n (shown s)

pub notes_fit_octets : laws.NotesFitOctets
notes_fit_octets s c h = all_fit _ (notes_coded (shown s) c) (small_call (shown s) (order s h) (exact s h).octets_fit c)

pub run_notes_fit_octets : laws.RunNotesFitOctets
run_notes_fit_octets s most h = all_fit _ (run_coded s h most) (small_run (shown s) (order s h) (exact s h).octets_fit most)

-- ---- The octets determine the notes.
pub notes_determined : laws.NotesDetermined
unfolding notes_octets
notes_determined ns ms behind behind' f g e = notes.notes_determined ns ms behind behind' f g (simp append_assoc at e)

module _ (room : List ℕ) (ns ms : List Note) (f : AllFitOctets ns) (g : AllFitOctets ms)
    (p : take (length (notes_octets ns)) room ≡ notes_octets ns) (q : take (length (notes_octets ms)) room ≡ notes_octets ms) where
  split : (text : List ℕ) → take (length text) room ≡ text → text ++ drop (length text) room ≡ room
  split text e = rw e at (take-append-drop (length text) room)

  one_reading : ns ≡ ms
  one_reading = (notes_determined ns ms _ _ f g (split (notes_octets ns) p ∙ sym (split (notes_octets ms) q))).0

pub hands_back_one : laws.HandsBackOne
hands_back_one s x ns ms f g p q =
    by_test (eqb (laws.reply_to s x) 0)
    (λ t. let z = eqb-true _ 0 t in one_reading (laws.notes_after s x) ns ms f g (p.written z) (q.written z))
    (λ t. let n = eqb-false _ 0 t in p.none n ∙ sym (q.none n))
