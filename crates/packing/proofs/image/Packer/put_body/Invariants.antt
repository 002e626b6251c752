use mathlib.Core.Path.{◌≡◌}
use lib.ListN.{length, take}
use Prim.Native.Nat.{◌*◌, ◌≤◌}
use Rattle.hdlc.specs.Bits.{body_bits}
use Rattle.hdlc.specs.Image.{stuff}
use Rattle.packing.specs.Packer.{put_bits, put_bits_octets}
use Rattle.packing.proofs.image.Packer.put_body.Given as goal

abbrev pub invariant-loop-i : goal.invariant-loop-i
invariant-loop-i l =
    (l.i ≤ 8 * length l.body)
    × (l.packer ≡ put_bits (stuff l.initial.packer.ones (take l.i (body_bits l.body))) l.initial.packer)
    × (l.out ≡ put_bits_octets (stuff l.initial.packer.ones (take l.i (body_bits l.body))) l.initial.packer l.initial.out)
