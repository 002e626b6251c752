-- `carry_out` meets its contract (Moving.antt): each answer of the book's reader.
use mathlib.Core.Path.{◌≡◌, sym, ap, ◌∙◌}
use mathlib.Core.Bool.{Bool, true}
use mathlib.Core.List.{List}
use Prim.Native.Nat.{ℕ, ◌+◌, ◌≤◌}
use native.Mathlib.Omega.{arith}
use lib.ListN.{length}
use Rattle.book_line.specs.Value.{value_octets}
use Rattle.book_line.specs.Laying.{value_room}
use Rattle.book_reader.specs.Step.{at_lines, taken_by, value_at}
use Rattle.book_reader.proofs.RunOn.{entered}
use Rattle.bus_call_specs.specs.Kept.{found}
use Rattle.book_reader.specs.declared.step.Step.{Step}
use Rattle.report.specs.Ahead.{BookState, TEXT, OVER}
use Rattle.book_go_on.specs.Steps.{Reads}
use Rattle.book_go_on.proofs.Lines.{short_value}
use Rattle.book_go_on.proofs.Moving.{turns, steps_at, step_first, step_done, step_fault, step_more}
use Rattle.book_go_on.proofs.step.carry_out.Goals as goal

-- what is read may be written another way
reads_as : {text : List ℕ} {at : ℕ} {whole : Bool} {s : BookState} {said said' : Step} {value : List ℕ} → Reads text at whole s said value
    → said ≡ said' → Reads text at whole s said' value
reads_as r e = rw e at r

-- the value that is at hand has few octets
few : (number : ℕ) (value value' : List ℕ) → length (value_octets number value) ≤ value_room → value ≡ value'
    → length (value_octets number value') ≤ value_room
few number value value' h e = rw e at h

pub line-requires : goal.line-requires
line-requires c =
    let r = c.requires in
    let i = r.read in
    let g = c.args.w.progress in
    let q = c.in-Entry.is in
    let e = entered i.text i.at g.stage g.bus.periods.0 i.whole _ _ _ _ _ (i.reads.says ∙ q) in
    let short = few _ _ _ (short_value e) (ap (value_at i.text i.at) (sym q) ∙ i.reads.value_is) in
    record {
      goes = r.goes;
      begun_value = r.begun_value;
      over_value = r.over_value;
      periods_le_period = e.after;
      period_le_most_periods = e.most;
      value_len_bound = short;
    }

pub returns-in-Begun : goal.returns-in-Begun
unfolding taken_by
returns-in-Begun c =
    let a = c.args in
    let r = c.requires in
    let g = a.w.progress in
    let k = found g.bus g.terminals a.images.now a.octets.now a.letters.now in
    let e = c.in-Begun.is in
    let n = c.octets_of.ensures ∙ ap taken_by e in
    (turns a.w a.images.now a.octets.now a.letters.now a.room.now a.said a.value.now at_lines g.begun g.over _ a.w.wrote 0 _
    (λ text at whole q. steps_at _ (step_first text whole k g.stage g.begun g.over at a.room.now a.w.wrote
    r.goes.fits r.begun_value r.over_value (q ∙ e)) (ap (λ (k : ℕ). at + k) (sym n))) c.stays.result c.stays.ensures)

pub returns-in-Entry : goal.returns-in-Entry
returns-in-Entry c =
    let q = c.in-Entry.is in
    λ text at whole r. c.line.ensures _ text at whole (reads_as r q)

pub returns-in-Done : goal.returns-in-Done
returns-in-Done c =
    let a = c.args in
    let r = c.requires in
    let g = a.w.progress in
    let k = found g.bus g.terminals a.images.now a.octets.now a.letters.now in
    let e = c.in-Done.is in
    (turns a.w a.images.now a.octets.now a.letters.now a.room.now a.said a.value.now g.stage g.begun true 0 a.w.wrote OVER _
    (λ text at whole q. steps_at 0 (step_done text whole k g.stage g.begun g.over at a.room.now a.w.wrote
    r.goes.fits r.begun_value r.over_value (q ∙ e)) (omega arith)) c.turned.result c.turned.ensures)

pub returns-in-Fault : goal.returns-in-Fault
returns-in-Fault c =
    let a = c.args in
    let r = c.requires in
    let g = a.w.progress in
    let k = found g.bus g.terminals a.images.now a.octets.now a.letters.now in
    let e = c.in-Fault.is in
    (turns a.w a.images.now a.octets.now a.letters.now a.room.now a.said a.value.now g.stage g.begun true 0 _ OVER _
    (λ text at whole q. steps_at 0 (step_fault text whole k g.stage g.begun g.over at a.room.now a.w.wrote
    r.goes.fits r.begun_value r.over_value _ (omega arith) (q ∙ e) r.period_room_in_bounds _ _ c.put_stopped-wrote.ensures) (omega arith)) c.turned-in-Fault.result c.turned-in-Fault.ensures)

pub returns-in-More : goal.returns-in-More
returns-in-More c =
    let a = c.args in
    let r = c.requires in
    let g = a.w.progress in
    let k = found g.bus g.terminals a.images.now a.octets.now a.letters.now in
    let e = c.in-More.is in
    (turns a.w a.images.now a.octets.now a.letters.now a.room.now a.said a.value.now g.stage g.begun g.over 0 a.w.wrote TEXT _
    (λ text at whole q. steps_at 0 (step_more text whole k g.stage g.begun g.over at a.room.now a.w.wrote
    r.goes.fits r.begun_value r.over_value (q ∙ e)) (omega arith)) c.stays-in-More.result c.stays-in-More.ensures)
