-- `give_frame` meets its contract: a reason, or the image and the hand-over.
use mathlib.Core.Path.{◌∙◌}
use borrow.Author.Tests.{eqb-true}
use Rattle.std.proofs.lemmas.Result.{err_from_is_err_and}
use Rattle.bus_event.proofs.Returns.{no_reason, not_given, accepted, given}
use Rattle.bus_event.proofs.event.give_frame.Goals as goal

pub returns-in_err-frame_reason : goal.returns-in_err-frame_reason
returns-in_err-frame_reason c =
    let a = c.args in
    let g = not_given a.images.now a.i a.value.now a.terminal a.class c.frame_reason.result c.frame_reason.ensures _ c.in_err-frame_reason.was in
    let p = err_from_is_err_and c.from_residual.result c.from_residual.ensures.1 in
    record { value = rw (p.1, p.2) g.0; images_after = g.1 }

pub put_image-length-requires : goal.put_image-length-requires
put_image-length-requires c =
    let a = c.args in
    let z = accepted a.images.now a.i a.value.now a.terminal a.class c.frame_reason.result c.frame_reason.ensures _ c.in_ok-frame_reason.was in
    let x = no_reason a.images.now a.i a.value.now a.terminal (eqb-true _ _ z) in
    record { i_lt_terminals = x.0; images_len = x.1; in_bounds = x.2; value_len_bound = x.3 }

pub returns : goal.returns
returns c =
    let a = c.args in
    let z = accepted a.images.now a.i a.value.now a.terminal a.class c.frame_reason.result c.frame_reason.ensures _ c.in_ok-frame_reason.was in
    let g = given a.images.now a.i a.value.now a.terminal a.class c.frame_reason.result c.frame_reason.ensures z in
    record {
      value = rw (c.put_image-length.ensures.value, g.0) at c.hand_over.ensures;
      images_after = c.put_image-length.ensures.images_after ∙ g.1;
    }
