-- `put_image` meets its contract: the image goes to its room; the call never refuses it there.
use Prim.Native.Nat.{◌+◌, ◌-◌, ◌*◌}
use native.Mathlib.Omega.{arith}
use Rattle.packing.specs.Packing.{image_room}
use Rattle.bus_event.proofs.Returns.{bits_are, octets_are}
use Rattle.bus_event.proofs.event.put_image.Goals as goal

pub returns-clause-value : goal.returns-clause-value
returns-clause-value c =
    let a = c.args in
    let r = c.requires in
    rw (bits_are a.i a.value.now a.images.now r.i_lt_terminals r.images_len r.in_bounds r.value_len_bound
    (a.i * image_room + image_room - a.i * image_room) (omega arith) c.image.result c.image.ensures.value) at c.unwrap_or.ensures

pub returns-clause-images_after : goal.returns-clause-images_after
returns-clause-images_after c =
    let a = c.args in
    let r = c.requires in
    octets_are a.i a.value.now a.images.now r.i_lt_terminals r.images_len r.in_bounds r.value_len_bound
    (a.i * image_room + image_room - a.i * image_room) (omega arith) c.image.result c.image.ensures.value
    c.image.new.out c.image.ensures.out_after
