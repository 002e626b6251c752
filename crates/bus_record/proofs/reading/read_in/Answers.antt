-- `read_in` meets its contract: 1s change nothing in a reader that waits.
use mathlib.Core.Path.{sym, ◌∙◌}
use borrow.Author.Tests.{eq-eqb}
use Rattle.bus_record.specs.Reading.{read_in, octets_in}
use Rattle.bus_record.proofs.SpokenLaws.{ones_read}
use Rattle.bus_record.proofs.reading.read_in.Goals as goal

pub returns-then-waits-ds-clause-value : goal.returns-then-waits-ds-clause-value
unfolding read_in octets_in
returns-then-waits-ds-clause-value c =
    let r = ones_read c.args.octets.now c.args.reader c.args.ds (rw c.waits.ensures at c.if-waits-ds.true) in
    simp (eq-eqb _ _ c.if-state-ne-G3.false) (c.quiet-start.ensures ∙ sym r.0)

pub returns-then-waits-ds-clause-octets_after : goal.returns-then-waits-ds-clause-octets_after
unfolding read_in octets_in
returns-then-waits-ds-clause-octets_after c =
    let r = ones_read c.args.octets.now c.args.reader c.args.ds (rw c.waits.ensures at c.if-waits-ds.true) in
    simp (eq-eqb _ _ c.if-state-ne-G3.false) (sym r.1)
