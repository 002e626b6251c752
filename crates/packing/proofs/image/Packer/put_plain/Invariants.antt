use mathlib.Core.Path.{◌≡◌}
use lib.ListN.{take}
use Prim.Native.Nat.{◌≤◌}
use Rattle.hdlc.specs.Bits.{body_bits}
use Rattle.packing.specs.Packer.{put_bits, put_bits_octets}
use Rattle.packing.proofs.image.Packer.put_plain.Given as goal

abbrev pub invariant-loop-i : goal.invariant-loop-i
invariant-loop-i l =
    (l.i ≤ l.count) × (l.packer ≡ put_bits (take l.i (body_bits l.octets)) l.initial.packer)
    × (l.out ≡ put_bits_octets (take l.i (body_bits l.octets)) l.initial.packer l.initial.out)
