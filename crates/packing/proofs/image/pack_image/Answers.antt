use native.Mathlib.Omega.{arith}
use mathlib.Core.Path.{refl}
use Rattle.packing.proofs.ImageParts.{after_flag, after_body, image_bits_lem, image_octets}
use Rattle.packing.proofs.image.pack_image.Goals as goal

pub put_body-put-requires-clause-body_bound : goal.put_body-put-requires-clause-body_bound
put_body-put-requires-clause-body_bound c =
    let x = after_flag c.args.body.now c.args.out.now c.requires.body_len_bound c.requires.image_room_in_bounds in x.0

pub overflow_add-end : goal.overflow_add-end
overflow_add-end c =
    let needs = c.requires in
    let put = c.put_body-put.ensures in
    let x = after_body c.args.body.now c.args.out.now needs.body_len_bound needs.image_room_in_bounds _ _ put.value put.out_after in
    record { fits = omega (arith, x.0) }

pub put_plain-requires-clause-count_bound : goal.put_plain-requires-clause-count_bound
put_plain-requires-clause-count_bound c =
    let needs = c.requires in
    let put = c.put_body-put.ensures in
    let x = after_body c.args.body.now c.args.out.now needs.body_len_bound needs.image_room_in_bounds _ _ put.value put.out_after in
    omega (arith, x.0)

pub put_plain-requires-clause-count_bound_2 : goal.put_plain-requires-clause-count_bound_2
put_plain-requires-clause-count_bound_2 c =
    let needs = c.requires in
    let put = c.put_body-put.ensures in
    let x = after_body c.args.body.now c.args.out.now needs.body_len_bound needs.image_room_in_bounds _ _ put.value put.out_after in
    omega (arith, x.1)

pub returns-clause-value : goal.returns-clause-value
returns-clause-value c =
    let needs = c.requires in
    let put = c.put_body-put.ensures in
    image_bits_lem c.args.body.now c.args.out.now needs.body_len_bound needs.image_room_in_bounds _ _ put.value put.out_after _ refl

pub returns-clause-out_after : goal.returns-clause-out_after
returns-clause-out_after c =
    let needs = c.requires in
    let put = c.put_body-put.ensures in
    image_octets c.args.body.now c.args.out.now needs.body_len_bound needs.image_room_in_bounds _ _ put.value put.out_after _ refl _
    c.put_plain.ensures.out_after
