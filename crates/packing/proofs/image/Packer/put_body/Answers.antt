use native.Mathlib.Omega.{arith}
use lib.ListN.{length}
use Rattle.hdlc.specs.Bits.{body_bits}
use Rattle.hdlc.specs.Image.{stuff}
use lib.Seq.{take-length}
use mathlib.Core.List.{[], ◌∷◌}
use Rattle.hdlc.proofs.ImageLaws.{length_body_bits, length_stuff_least}
use mathlib.Core.Path.{◌≡◌, refl, ap, ◌∙◌}
use Rattle.packing.specs.Packer.{put_bit, put_bits, put_bits_octets}
use Rattle.packing.specs.declared.image.Packer.{Packer}
use Rattle.packing.proofs.ImageParts.{octets_fit, two_bits, put_one, put_two, body_room, body_again}
use Rattle.packing.proofs.image.Packer.put_body.Goals as goal
use Rattle.packing.proofs.image.Packer.put_body.Goals.{then-packer-eq5, else-packer-eq5}

pub overflow_cast-count : goal.overflow_cast-count
overflow_cast-count c = record { fits = omega (arith, octets_fit c.args.body.now c.args.self.ones) }

pub overflow_mul-count : goal.overflow_mul-count
overflow_mul-count c = record { fits = omega (arith, octets_fit c.args.body.now c.args.self.ones) }

pub loop-i-init : goal.loop-i-init
unfolding put_bits put_bits_octets stuff
loop-i-init c = (omega arith, refl, refl)

pub put_bit-packer-requires-clause-at_bound : goal.put_bit-packer-requires-clause-at_bound
put_bit-packer-requires-clause-at_bound c =
    let loop = c.loop-i in
    let room =
    body_room c.args.body.now loop.i c.args.self loop.packer (omega arith) c.requires.ones_bound loop.invariant.1 _ c.packed_bit.ensures in
    omega (arith, room.0, length_stuff_least (c.packed_bit.result ∷ []) c.loop-i.packer.ones)

pub put_bit-packer-requires-clause-ones_bound : goal.put_bit-packer-requires-clause-ones_bound
put_bit-packer-requires-clause-ones_bound c =
    let loop = c.loop-i in
    let room =
    body_room c.args.body.now loop.i c.args.self loop.packer (omega arith) c.requires.ones_bound loop.invariant.1 _ c.packed_bit.ensures in
    omega (arith, room.1)

pub loop-i-preserved : goal.loop-i-preserved
loop-i-preserved c =
    let loop = c.loop-i in
    let first = c.put_bit-packer.ensures in
    let again =
    body_again c.args.body.now loop.i c.args.self loop.packer (omega arith) c.requires.ones_bound loop.invariant.1 _ c.packed_bit.ensures in
    elim c.if-packer-eq5.branch [
      | then-packer-eq5 w ↦
          let second = w.put_bit-packer-then-packer-eq5.ensures in
          let y =
          put_two _ _ _ _ _ first.value first.out_after _ _ w.if-packer-eq5.true (w.packer-is ∙ second.value) (w.out-is ∙ second.out_after) in
          let x = again _ c.args.out.now _ _ loop.invariant.2 y.0 y.1 in (omega arith, x.0, x.1)
      | else-packer-eq5 w ↦
          let y = put_one _ _ _ _ _ first.value first.out_after w.if-packer-eq5.false in
          let x = again _ c.args.out.now _ _ loop.invariant.2 (w.packer-is ∙ y.0) (w.out-is ∙ y.1) in (omega arith, x.0, x.1)
    ]

pub returns-clause-value : goal.returns-clause-value
returns-clause-value c =
    let e : c.loop-i.i ≡ length (body_bits c.args.body.now) = omega (arith, length_body_bits c.args.body.now) in
    rw (e, take-length (body_bits c.args.body.now)) at c.loop-i.invariant.1

pub returns-clause-out_after : goal.returns-clause-out_after
returns-clause-out_after c =
    let e : c.loop-i.i ≡ length (body_bits c.args.body.now) = omega (arith, length_body_bits c.args.body.now) in
    rw (e, take-length (body_bits c.args.body.now)) at c.loop-i.invariant.2

pub put_bit-packer-requires-then-packer-eq5-clause-at_bound : goal.put_bit-packer-requires-then-packer-eq5-clause-at_bound
unfolding put_bit
put_bit-packer-requires-then-packer-eq5-clause-at_bound c =
    let loop = c.loop-i in
    let room =
    body_room c.args.body.now loop.i c.args.self loop.packer (omega arith) c.requires.ones_bound loop.invariant.1 _ c.packed_bit.ensures in
    let two = two_bits c.packed_bit.result c.loop-i.packer _ c.put_bit-packer.ensures.value c.if-packer-eq5.true in
    omega (arith, room.0, two, ap (λ (p : Packer). p.at) c.put_bit-packer.ensures.value)
