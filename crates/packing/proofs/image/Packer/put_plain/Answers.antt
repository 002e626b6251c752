use mathlib.Core.Path.{refl}
use native.Mathlib.Omega.{arith}
use Rattle.packing.specs.Packer.{put_bits, put_bits_octets}
use Rattle.packing.proofs.ImageParts.{plain_again, plain_room}
use Rattle.packing.proofs.image.Packer.put_plain.Goals as goal

pub loop-i-init : goal.loop-i-init
unfolding put_bits put_bits_octets
loop-i-init c = (omega arith, refl, refl)

pub put_bit-packer-requires-clause-at_bound : goal.put_bit-packer-requires-clause-at_bound
put_bit-packer-requires-clause-at_bound c =
    let room = plain_room c.args.octets.now c.loop-i.i c.args.self c.loop-i.packer (omega arith) c.loop-i.invariant.1 in
    omega (arith, room.0)

pub put_bit-packer-requires-clause-ones_bound : goal.put_bit-packer-requires-clause-ones_bound
put_bit-packer-requires-clause-ones_bound c =
    let room = plain_room c.args.octets.now c.loop-i.i c.args.self c.loop-i.packer (omega arith) c.loop-i.invariant.1 in
    omega (arith, room.1)

pub loop-i-preserved : goal.loop-i-preserved
loop-i-preserved c =
    let loop = c.loop-i in
    let put = c.put_bit-packer.ensures in
    let x =
    plain_again c.args.octets.now loop.i c.args.self loop.packer (omega arith) _ c.args.out.now _ _ _ c.packed_bit.ensures loop.invariant.1
    loop.invariant.2 put.value put.out_after in
    (omega arith, x.0, x.1)
