-- `give` meets its contract: what the event has left is laid over the octets.
use native.Mathlib.Omega.{arith}
use Rattle.host_steps.proofs.Stepped.{long, gave}
use Rattle.host_steps.proofs.held.give.Goals as goal

pub slice_bounds-images-count : goal.slice_bounds-images-count
slice_bounds-images-count c = omega (arith, long _ c.requires)

pub slice_bounds-images-start : goal.slice_bounds-images-start
slice_bounds-images-start c = omega (arith, long _ c.requires)

pub returns : goal.returns
returns c =
    let a = c.args in
    let e = c.event-g.ensures in
    let w = gave a.s.now c.requires _ _ _ _ c.record_in-bus.ensures c.terminals_in-before.ensures c.letters_in-letters.ensures
    c.octets_in-octets.ensures a.unit a.event a.value.now c.event-g.result _ _ _ e.told_value e.terminals_value e.images_after
    e.letters_after c.lay.ensures in
    record { value = w.0; s_after = w.1 }
