-- The fields of a frame come back from what is written, and the fields that a line holds are good.
use mathlib.Core.Path.{◌≡◌}
use mathlib.Core.Bool.{Bool}
use mathlib.Core.List.{List}
use Prim.Native.Nat.{ℕ, ◌-◌, ◌<◌, ◌≤◌}
use native.Mathlib.Omega.{arith}
use lib.ListN.{length, take, drop, length-take}
use lib.Pow.{pow_mono}
use Rattle.symbols.specs.Symbols.{levels}
use Rattle.frame.specs.Bits.{octet_bits, octet_at}
use Rattle.frame.specs.Down.{down_body, down_bits, down_line, down_fields, down_fields_of}
use Rattle.frame.specs.Up.{up_bits, up_line, up_fields, up_fields_of}
use Rattle.frame.specs.declared.fields.DownFields.{DownFields}
use Rattle.frame.specs.declared.fields.UpFields.{UpFields}
use Rattle.frame.proofs.Bits.{number_lt, octet_number}
use Rattle.frame.proofs.Laws.{levels_down, levels_up}
use Rattle.frame_reader.specs.Laws.{DownGood, UpGood}

-- An octet of 48 bits is below 256.
octet_lt : (n : ℕ) (bits : List Bool) → octet_at n bits < 256
octet_lt n bits =
    let short : length (take 8 (drop (n - 1) bits)) ≤ 8 = rw length-take (omega arith) in
    omega (arith, number_lt (take 8 (drop (n - 1) bits)), pow_mono {i = length (take 8 (drop (n - 1) bits))} {j = 8} short)

pub down_back : (f : DownFields) → DownGood f → down_fields_of (down_line f) ≡ f
unfolding down_fields down_bits down_body octet_bits
down_back f g =
    rw (levels_down f)
    (rw (octet_number f.b1first g.b1first, octet_number f.b2first g.b2first, octet_number f.b1second g.b1second, octet_number f.b2second g.b2second))

pub down_good : (l : List ℕ) → DownGood (down_fields_of l)
unfolding down_fields
down_good l = record { b1first = octet_lt 3 (levels l); b2first = octet_lt 16 (levels l); b1second = octet_lt 27 (levels l); b2second = octet_lt 38 (levels l) }

pub up_back : (f : UpFields) → UpGood f → up_fields_of (up_line f) ≡ f
unfolding up_fields up_bits octet_bits
up_back f g =
    rw (levels_up f)
    (rw (octet_number f.b1first g.b1first, octet_number f.b2first g.b2first, octet_number f.b1second g.b1second, octet_number f.b2second g.b2second))

pub up_good : (l : List ℕ) → UpGood (up_fields_of l)
unfolding up_fields
up_good l = record { b1first = octet_lt 3 (levels l); b2first = octet_lt 16 (levels l); b1second = octet_lt 27 (levels l); b2second = octet_lt 38 (levels l) }
