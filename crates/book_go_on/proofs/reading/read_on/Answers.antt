-- A turn reads what stands at the reader, and a step does it (proofs/ReadOn.antt).
use Rattle.std.proofs.Common.{ap, sym, ◌∙◌}
use borrow.Author.Tests.{eqb-true}
use Rattle.book_go_on.proofs.ReadOn.{goes_first, step_asks, goes_after, fewer, goes_no_further}
use Rattle.book_go_on.proofs.reading.read_on.Goals as goal

pub lines-init : goal.lines-init
lines-init c =
    record {
      text_is = ap (λ t. t.now) c.new-reader.ensures.text_value;
      so_far =
          goes_first c.args.progress c.args.images.now c.args.octets.now c.args.letters.now c.args.text.now c.args.room.now c.args.whole
          c.requires _ c.untaken-w.ensures _ c.new-reader.ensures.at_value;
    }

pub step-w-requires : goal.step-w-requires
step-w-requires c =
    let i = c.lines.invariant in
    let asks =
    step_asks c.args.progress c.args.images.now c.args.octets.now c.args.letters.now c.args.text.now c.args.room.now c.args.whole
    c.lines.w _ _ _ _ _ i.so_far _ _ _ c.stage_of.ensures c.periods_of.ensures (rw i.text_is at c.read-said.ensures)
    c.lines.reader.text c.value-value.result i.text_is c.value-value.ensures in
    record { goes = asks.0; read = asks.1 }

pub lines-smaller : goal.lines-smaller
lines-smaller c =
    let i = c.lines.invariant in
    fewer c.args.progress c.args.images.now c.args.octets.now c.args.letters.now c.args.text.now c.args.room.now c.args.whole
    c.lines.w _ _ _ _ _ i.so_far _ _ _ c.stage_of.ensures c.periods_of.ensures (rw i.text_is at c.read-said.ensures)
    c.lines.reader.text c.value-value.result i.text_is c.value-value.ensures c.step-w.result _ _ _ _ c.step-w.ensures _ _
    c.taken_of.ensures (rw i.text_is at c.next-reader.ensures.at_value)
    (eqb-true c.lines.w.why 0 (sym c.goes_on.ensures ∙ c.lines-test.true))

pub lines-preserved : goal.lines-preserved
lines-preserved c =
    let i = c.lines.invariant in
    record {
      text_is = ap (λ t. t.now) c.next-reader.ensures.text_value ∙ i.text_is;
      so_far =
          goes_after c.args.progress c.args.images.now c.args.octets.now c.args.letters.now c.args.text.now c.args.room.now c.args.whole
          c.lines.w _ _ _ _ _ i.so_far _ _ _ c.stage_of.ensures c.periods_of.ensures (rw i.text_is at c.read-said.ensures)
          c.lines.reader.text c.value-value.result i.text_is c.value-value.ensures c.step-w.result
          _ _ _ _ c.step-w.ensures _ _ c.taken_of.ensures (rw i.text_is at c.next-reader.ensures.at_value);
    }

pub returns : goal.returns
returns c =
    let i = c.lines.invariant in
    goes_no_further c.args.progress c.args.images.now c.args.octets.now c.args.letters.now c.args.text.now c.args.room.now c.args.whole
    c.lines.w _ _ _ _ _ i.so_far (sym c.goes_on.ensures ∙ c.lines-test.false) _ c.at.ensures _ c.ended.ensures
