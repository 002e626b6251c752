-- `lone_sender::alone::run_alone` meets its contract: what holds before each turn is `Going` (AloneLoop.antt).
use Rattle.std.proofs.Common.{◌∙◌, sym, arith}
use Rattle.lone_sender.specs.Alone.{alone_run, alone_run_octets}
use Rattle.lone_sender.proofs.AloneLoop.{going_first, going_on, going_stops, going_ends}
use Rattle.lone_sender.proofs.alone.run_alone.Goals as goal

pub loop-over-init : goal.loop-over-init
loop-over-init c = going_first _ _ _ _ _

pub loop-over-preserved : goal.loop-over-preserved
loop-over-preserved c =
    let side = c.network_side-answer.ensures in
    let goes = sym c.stays_alone.ensures ∙ c.if-not-stays_alone.false in
    going_on c.loop-over.invariant c.loop-over-test.true c.after_four-next.ensures goes c.tally_of-tally.ensures side.value side.octets_after

pub returns-then-not-stays_alone-clause-value : goal.returns-then-not-stays_alone-clause-value
unfolding alone_run alone_run_octets
returns-then-not-stays_alone-clause-value c =
    let stops = sym c.stays_alone.ensures ∙ c.if-not-stays_alone.true in
    (going_stops c.loop-over.invariant c.after_four-next.ensures stops).0 ∙ rw c.refused_run-answer.ensures

pub returns-then-not-stays_alone-clause-octets_after : goal.returns-then-not-stays_alone-clause-octets_after
unfolding alone_run alone_run_octets
returns-then-not-stays_alone-clause-octets_after c =
    let stops = sym c.stays_alone.ensures ∙ c.if-not-stays_alone.true in
    (going_stops c.loop-over.invariant c.after_four-next.ensures stops).1 ∙ rw c.refused_run-answer.ensures

pub returns-clause-value : goal.returns-clause-value
unfolding alone_run alone_run_octets
returns-clause-value c = (going_ends c.loop-over.invariant (omega arith)).0 ∙ rw c.refused_run-answer.ensures

pub returns-clause-octets_after : goal.returns-clause-octets_after
unfolding alone_run alone_run_octets
returns-clause-octets_after c = (going_ends c.loop-over.invariant (omega arith)).1 ∙ rw c.refused_run-answer.ensures
