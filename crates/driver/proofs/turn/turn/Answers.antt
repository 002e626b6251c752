-- One call after the read, and the rest kept (Turning.antt).
use Rattle.std.proofs.Common.{sym}
use lib.Seq.{length-take-le}
use Rattle.driver.proofs.Turning.{accepted, wrote_fits, turned}
use Rattle.driver.proofs.turn.turn.Goals as goal

pub unwrap-w-requires : goal.unwrap-w-requires
unwrap-w-requires c = accepted _ _ _ _ _ _ _ c.requires.going _ _ _ c.fill-f.ensures _ _ _ _ _ c.go_on.ensures

pub slice_bounds-write_out-end : goal.slice_bounds-write_out-end
slice_bounds-write_out-end c =
    wrote_fits _ _ _ _ _ _ _ c.requires.going _ _ _ c.fill-f.ensures _ _ _ _ _ c.go_on.ensures _ c.unwrap-w.ensures

pub slice_bounds-write_out-end-2 : goal.slice_bounds-write_out-end-2
slice_bounds-write_out-end-2 c =
    sym (length-take-le _ _ (wrote_fits _ _ _ _ _ _ _ c.requires.going _ _ _ c.fill-f.ensures _ _ _ _ _ c.go_on.ensures _ c.unwrap-w.ensures))

pub returns : goal.returns
returns c =
    turned _ _ _ _ _ _ _ c.requires.going _ _ _ c.fill-f.ensures _ _ _ _ _ c.go_on.ensures _ c.unwrap-w.ensures
    _ _ _ c.keep-left.ensures.value c.keep-left.ensures.buf_after
