-- `terminal_at` meets its contract: each part from its place.
use mathlib.Core.Path.{◌≡◌}
use Prim.Native.Nat.{◌+◌, ◌*◌}
use native.Mathlib.Omega.{arith}
use Rattle.bus_octets.specs.Layout.{terminal_at}
use Rattle.bus_octets.proofs.shown.terminal_at.Goals as goal

pub returns : goal.returns
unfolding terminal_at
returns c =
    let e : 112 + c.args.i * 24 + 14 + 1 ≡ 112 + c.args.i * 24 + 15 = omega arith in
    rw (c.word_at.ensures, c.access_at.ensures, c.octet_at.ensures, c.alignment_at.ensures, e)
