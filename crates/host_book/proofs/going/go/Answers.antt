-- `go` meets its contract: what going on has left is laid over the octets.
use mathlib.Core.Path.{refl, sym}
use native.Mathlib.Omega.{arith}
use lib.Seq.{length-take-le}
use Rattle.bus_octets.specs.Layout.{bus_length}
use Rattle.host_book.proofs.Gone.{long, taken_on, gone}
use Rattle.host_book.proofs.going.go.Goals as goal

pub slice_bounds-letters_in-end : goal.slice_bounds-letters_in-end
slice_bounds-letters_in-end c = omega (arith, long _ c.requires)

pub slice_bounds-letters_in-end-2 : goal.slice_bounds-letters_in-end-2
slice_bounds-letters_in-end-2 c = sym (length-take-le bus_length c.args.book.now (omega (arith, long _ c.requires)))

pub slice_bounds-octets_in-end : goal.slice_bounds-octets_in-end
slice_bounds-octets_in-end c = omega (arith, long _ c.requires)

pub slice_bounds-octets_in-end-2 : goal.slice_bounds-octets_in-end-2
slice_bounds-octets_in-end-2 c = sym (length-take-le bus_length c.args.book.now (omega (arith, long _ c.requires)))

pub slice_bounds-images-end : goal.slice_bounds-images-end
slice_bounds-images-end c = omega (arith, long _ c.requires)

pub unwrap-w-requires : goal.unwrap-w-requires
unwrap-w-requires c =
    let a = c.args in
    taken_on a.book.now c.requires a.text.now a.report.now a.whole _ _ _ _ _ _ _ _ _ c.progress_in-progress.ensures refl
    c.letters_in-letters.ensures c.octets_in-octets.ensures c.go_on.ensures

pub returns : goal.returns
returns c =
    let a = c.args in
    gone a.book.now c.requires a.text.now a.report.now a.whole _ c.unwrap-w.result _ _ _ _ _ _ _ _ _ c.progress_in-progress.ensures refl
    c.letters_in-letters.ensures c.octets_in-octets.ensures c.go_on.ensures c.unwrap-w.ensures c.lay_progress.ensures
