-- The notes of the terminals, one terminal after the other, as the loops put them.
use mathlib.Core.Bool.{Bool}
use mathlib.Core.List.{List, [], ◌∷◌, ◌++◌, append_assoc, append-nil}
use mathlib.Core.Path.{◌≡◌, refl, sym, ◌∙◌}
use Prim.Native.Nat.{ℕ, zero, suc, ◌+◌, ◌/◌, ◌%◌, ◌^◌, ◌≤◌, ◌<◌, min}
use native.Mathlib.Nat.{div-div-eq-div-mul, div-one, mul_comm, pow-succ'}
use native.Mathlib.Numerals.{add-one}
use native.Mathlib.Omega.{arith}
use lib.Dec.{eqb}
use lib.ListN.{length, get_or, take}
use lib.Seq.{take-suc, take_all, length-take-le}
use Rattle.hdlc.specs.Bits.{bit_of}
use Rattle.notes_and_cells.specs.Notes.{noted}
use Rattle.bus_rules.specs.Bus.{Note, terminals, notes_of}
use Rattle.bus_rules.specs.Order.{unit_by_unit, part_in_order}
use Rattle.period_hearing.specs.declared.hears.UnitNotes.{UnitNotes}
use Rattle.bus_record.specs.declared.side.RunAnswer.{RunAnswer}
use Rattle.bus_call_specs.specs.Lists.{reader_told, done_notes, terminals_heard, terminals_told, timers_told, heard_told, timed_told, period_told}
use Rattle.note_text.specs.Room.{Put}
use Rattle.note_text.specs.NoteText.{notes_in}
use Rattle.note_text.specs.declared.form.Form.{Form}
use Rattle.note_text.proofs.RoomLaws.{put_put, put_start, put_length}
use Rattle.note_text.proofs.NoteLaws.{form_append, codes_append}

-- The notes of one terminal's hearing.
abbrev pub heard_of : ℕ → RunAnswer → ℕ → UnitNotes → List Note
heard_of now r i n = notes_of now (suc i) (done_notes (bit_of r.done1 i) (bit_of r.done2 i) ++ noted n.hearing)

-- And of its timer.
abbrev pub timed_of : ℕ → ℕ → UnitNotes → List Note
timed_of now i n = notes_of now (suc i) (noted n.timers)

-- a terminal more
terminals_more : (now : ℕ) (r : RunAnswer) (i : ℕ) (ns : List UnitNotes) (n : UnitNotes)
    → terminals_told now r i (ns ++ (n ∷ [])) ≡ terminals_told now r i ns ++ heard_of now r (i + length ns) n
unfolding unit_by_unit terminals_heard
terminals_more now r i [] n = let e : i + zero ≡ i = omega arith in rw (e, append-nil)
terminals_more now r i (m ∷ ns) n =
    let e : suc i + length ns ≡ i + suc (length ns) = omega arith in
    rw (terminals_more now r (suc i) ns n, e)
    (sym (append_assoc (heard_of now r i m) (terminals_told now r (suc i) ns) (heard_of now r (i + suc (length ns)) n)))

timers_more : (now i : ℕ) (ns : List UnitNotes) (n : UnitNotes)
    → timers_told now i (ns ++ (n ∷ [])) ≡ timers_told now i ns ++ timed_of now (i + length ns) n
unfolding unit_by_unit
timers_more now i [] n = let e : i + zero ≡ i = omega arith in rw (e, append-nil)
timers_more now i (m ∷ ns) n =
    let e : suc i + length ns ≡ i + suc (length ns) = omega arith in
    rw (timers_more now (suc i) ns n, e)
    (sym (append_assoc (timed_of now i m) (timers_told now (suc i) ns) (timed_of now (i + suc (length ns)) n)))

-- the next of the first i
place_is : (ns : List UnitNotes) (i : ℕ) → i < length ns → 0 + length (take i ns) ≡ i
place_is ns i h = rw (length-take-le i ns (omega arith)) (omega arith)

terminals_next : (form : Form) (now : ℕ) (r : RunAnswer) (ns : List UnitNotes) (i : ℕ) (d : UnitNotes) → i < length ns
    → notes_in form (terminals_told now r 0 (take (i + 1) ns)) ≡ notes_in form (terminals_told now r 0 (take i ns)) ++ notes_in form (heard_of now r i (get_or ns i d))
terminals_next form now r ns i d h =
    rw (add-one i, take-suc ns i d h, terminals_more now r 0 (take i ns) (get_or ns i d), place_is ns i h)
    (form_append form (terminals_told now r 0 (take i ns)) (heard_of now r i (get_or ns i d)))

timers_next : (form : Form) (now : ℕ) (ns : List UnitNotes) (i : ℕ) (d : UnitNotes) → i < length ns
    → notes_in form (timers_told now 0 (take (i + 1) ns))
    ≡ notes_in form (timers_told now 0 (take i ns)) ++ notes_in form (notes_of now (i + 1) (noted (get_or ns i d).timers))
timers_next form now ns i d h =
    rw (add-one i, take-suc ns i d h, timers_more now 0 (take i ns) (get_or ns i d), place_is ns i h)
    (form_append form (timers_told now 0 (take i ns)) (notes_of now (suc i) (noted (get_or ns i d).timers)))

-- ---- One terminal's hearing: the notes of completed frames, then the others.
pub done_first : {room : List ℕ} {wrote r₁ : ℕ} {room₁ : List ℕ} {r₂ : ℕ} {room₂ : List ℕ} (form : Form) (now unit : ℕ) (one two : Bool) (done others : List ℕ)
    → done ≡ done_notes one two → Put room wrote (notes_in form (notes_of now unit done)) r₁ room₁ → Put room₁ r₁ (notes_in form (notes_of now unit others)) r₂ room₂
    → Put room wrote (notes_in form (notes_of now unit (done_notes one two ++ others))) r₂ room₂
done_first form now unit one two done others e p q = rw (← e, codes_append form now unit done others) (put_put p q)

-- ---- The loop of `put_terminals`: none, a terminal more.
pub told_none : (form : Form) (room : List ℕ) (wrote now at : ℕ) (r : RunAnswer) → at ≡ min wrote (length room)
    → Put room wrote (notes_in form (terminals_told now r 0 [])) at room
unfolding unit_by_unit terminals_heard notes_in
told_none form room wrote now at r h = put_start room wrote h

pub told_next : {room : List ℕ} {wrote r₁ : ℕ} {room₁ : List ℕ} {r₂ : ℕ} {room₂ : List ℕ} (form : Form) (now : ℕ) (r : RunAnswer) (ns : List UnitNotes) (i : ℕ)
    (d : UnitNotes) {one two : ℕ} → r.done1 ≡ one → r.done2 ≡ two → i < length ns
    → Put room wrote (notes_in form (terminals_told now r 0 (take i ns))) r₁ room₁
    → Put room₁ r₁
    (notes_in form (notes_of now (i + 1) (done_notes (eqb (one / (2 ^ i) % 2) 1) (eqb (two / (2 ^ i) % 2) 1) ++ noted (get_or ns i d).hearing))) r₂ room₂
    → Put room wrote (notes_in form (terminals_told now r 0 (take (i + 1) ns))) r₂ room₂
unfolding bit_of
told_next {r₁ = r₁} {room₁ = room₁} {r₂ = r₂} {room₂ = room₂} form now r ns i d e f h p q =
    let q' : Put room₁ r₁ (notes_in form (heard_of now r i (get_or ns i d))) r₂ room₂ = rw (e, f, ← add-one i) q in
    rw (terminals_next form now r ns i d h) (put_put p q')

-- ---- The same of `put_timers`.
pub timed_none : (form : Form) (room : List ℕ) (wrote now at : ℕ) → at ≡ min wrote (length room)
    → Put room wrote (notes_in form (timers_told now 0 [])) at room
unfolding unit_by_unit notes_in
timed_none form room wrote now at h = put_start room wrote h

pub timed_next : {room : List ℕ} {wrote r₁ : ℕ} {room₁ : List ℕ} {r₂ : ℕ} {room₂ : List ℕ} (form : Form) (now : ℕ) (ns : List UnitNotes) (i : ℕ)
    (d : UnitNotes) → i < length ns
    → Put room wrote (notes_in form (timers_told now 0 (take i ns))) r₁ room₁
    → Put room₁ r₁ (notes_in form (notes_of now (i + 1) (noted (get_or ns i d).timers))) r₂ room₂
    → Put room wrote (notes_in form (timers_told now 0 (take (i + 1) ns))) r₂ room₂
timed_next form now ns i d h p q = rw (timers_next form now ns i d h) (put_put p q)

-- ---- Where a loop stands that halves the octets of completed frames at each terminal: the notes of i terminals are put, and so many bits are gone
-- from those octets.
pub record Hearing (form : Form) (room₀ : List ℕ) (wrote now : ℕ) (ns : List UnitNotes) (done1 done2 : ℕ) (room : List ℕ) (first second at i : ℕ) : Type 0 where
  pub long : length ns ≡ terminals
  pub within : i ≤ terminals
  pub first_is : first ≡ done1 / (2 ^ i)
  pub second_is : second ≡ done2 / (2 ^ i)
  pub kept : length room ≡ length room₀
  pub put_are : (r : RunAnswer) → r.done1 ≡ done1 → r.done2 ≡ done2 → Put room₀ wrote (notes_in form (terminals_told now r 0 (take i ns))) at room

pub hearing_starts : (form : Form) (room : List ℕ) (wrote now : ℕ) (ns : List UnitNotes) (done1 done2 at : ℕ) → length ns ≡ terminals → at ≡ min wrote (length room)
    → Hearing form room wrote now ns done1 done2 room done1 done2 at 0
unfolding unit_by_unit terminals_heard notes_in
hearing_starts form room wrote now ns done1 done2 at long h =
    record {
      long = long;
      within = omega arith;
      first_is = sym (div-one done1);
      second_is = sym (div-one done2);
      kept = refl;
      put_are = λ r d e. put_start room wrote h;
    }

half_again : (d i : ℕ) → d / (2 ^ i) / 2 ≡ d / (2 ^ (i + 1))
half_again d i = rw (div-div-eq-div-mul d (2 ^ i) 2, add-one i, pow-succ' 2 i, mul_comm (2 ^ i) 2)

module _ {form : Form} {room₀ : List ℕ} {wrote now : ℕ} {ns : List UnitNotes} {done1 done2 : ℕ} {room : List ℕ} {first second at i : ℕ}
    (l : Hearing form room₀ wrote now ns done1 done2 room first second at i) where
  pub hearing_next : (d : UnitNotes) {room' : List ℕ} {at' : ℕ} → i < terminals
      → Put room at
      (notes_in form (notes_of now (i + 1) (done_notes (eqb (first % 2) 1) (eqb (second % 2) 1) ++ noted (get_or ns i d).hearing))) at' room'
      → Hearing form room₀ wrote now ns done1 done2 room' (first / 2) (second / 2) at' (i + 1)
  unfolding bit_of
  hearing_next d {room'} {at'} h q =
      let long = l.long in
      record {
        long = long;
        within = omega arith;
        first_is = rw l.first_is (half_again done1 i);
        second_is = rw l.second_is (half_again done2 i);
        kept = put_length q ∙ l.kept;
        put_are = λ r e f.
            let q' : Put room at (notes_in form (heard_of now r i (get_or ns i d))) at' room' = rw (e, f, ← l.first_is, ← l.second_is, ← add-one i) q in
            rw (terminals_next form now r ns i d (omega arith)) (put_put (l.put_are r e f) q');
      }

  pub hearing_ends : (r : RunAnswer) → r.done1 ≡ done1 → r.done2 ≡ done2 → terminals ≤ i
      → Put room₀ wrote (notes_in form (terminals_told now r 0 ns)) at room
  hearing_ends r e f h = let long = l.long in rw (take_all i ns (omega arith)) at (l.put_are r e f)

-- ---- The same of the timers' notes.
pub record Timing (form : Form) (room₀ : List ℕ) (wrote now : ℕ) (ns : List UnitNotes) (room : List ℕ) (at i : ℕ) : Type 0 where
  pub long : length ns ≡ terminals
  pub within : i ≤ terminals
  pub put_are : Put room₀ wrote (notes_in form (timers_told now 0 (take i ns))) at room

pub timing_starts : (form : Form) (room : List ℕ) (wrote now : ℕ) (ns : List UnitNotes) (at : ℕ) → length ns ≡ terminals → at ≡ min wrote (length room)
    → Timing form room wrote now ns room at 0
unfolding unit_by_unit notes_in
timing_starts form room wrote now ns at long h = record { long = long; within = omega arith; put_are = put_start room wrote h }

module _ {form : Form} {room₀ : List ℕ} {wrote now : ℕ} {ns : List UnitNotes} {room : List ℕ} {at i : ℕ} (l : Timing form room₀ wrote now ns room at i) where
  pub timing_next : (d : UnitNotes) {room' : List ℕ} {at' : ℕ} → i < terminals
      → Put room at (notes_in form (notes_of now (i + 1) (noted (get_or ns i d).timers))) at' room' → Timing form room₀ wrote now ns room' at' (i + 1)
  timing_next d h q =
      let long = l.long in
      record { long = long; within = omega arith; put_are = rw (timers_next form now ns i d (omega arith)) (put_put l.put_are q) }

  pub timing_ends : terminals ≤ i → Put room₀ wrote (notes_in form (timers_told now 0 ns)) at room
  timing_ends h = let long = l.long in rw (take_all i ns (omega arith)) at l.put_are

-- ---- The parts of a period's notes, one behind the other: of what is heard, of the timers, and of both.
pub heard_parts : (form : Form) (now : ℕ) (r : RunAnswer) (ns : List UnitNotes) (octets : List ℕ)
    → notes_in form (reader_told now r octets)
    ++ (notes_in form (notes_of now 0 (noted r.network.hearing)) ++ notes_in form (terminals_told now r 0 ns))
    ≡ notes_in form (part_in_order now (heard_told now r ns octets))
heard_parts form now r ns octets =
    let network = notes_of now 0 (noted r.network.hearing) in
    rw (form_append form (reader_told now r octets) (network ++ terminals_told now r 0 ns), form_append form network (terminals_told now r 0 ns))

pub timed_parts : (form : Form) (now : ℕ) (network : UnitNotes) (ns : List UnitNotes)
    → notes_in form (notes_of now 0 (noted network.timers)) ++ notes_in form (timers_told now 0 ns)
    ≡ notes_in form (part_in_order now (timed_told network ns))
timed_parts form now network ns = sym (form_append form (notes_of now 0 (noted network.timers)) (timers_told now 0 ns))

pub period_parts : (form : Form) (now : ℕ) (r : RunAnswer) (ns : List UnitNotes) (octets : List ℕ)
    → notes_in form (part_in_order now (heard_told now r ns octets)) ++ notes_in form (part_in_order (now + 1) (timed_told r.network ns))
    ≡ notes_in form (period_told now r ns octets)
unfolding period_told
period_parts form now r ns octets = sym (form_append form (part_in_order now (heard_told now r ns octets)) (part_in_order (now + 1) (timed_told r.network ns)))
