-- `go` meets its contract: what the run has left is laid over the octets.
use native.Mathlib.Omega.{arith}
use Rattle.host_steps.proofs.Stepped.{long, went}
use Rattle.host_steps.proofs.held.go.Goals as goal

pub slice_bounds-images-count : goal.slice_bounds-images-count
slice_bounds-images-count c = omega (arith, long _ c.requires)

pub slice_bounds-images-start : goal.slice_bounds-images-start
slice_bounds-images-start c = omega (arith, long _ c.requires)

pub returns : goal.returns
returns c =
    let a = c.args in
    let e = c.run-g.ensures in
    let w = went a.s.now c.requires _ _ _ _ c.record_in-bus.ensures c.terminals_in-before.ensures c.letters_in-letters.ensures
    c.octets_in-octets.ensures a.most c.run-g.result _ _ e.answer_value e.terminals_value e.notes_value e.octets_after c.lay.ensures in
    record { answer_value = w.0; notes_value = w.1.0; s_after = w.1.1 }
