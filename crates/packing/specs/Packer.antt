-- How the code goes: bits put into a buffer one by one.
-- Interface: `put_bit`, `put_bit_octets`, `put_bits`, `put_bits_octets`. Assumes nothing.
use Rattle.std.specs.Prelude.{Bool, cond, List, [], ◌∷◌, ℕ, ◌+◌, ◌/◌, ◌%◌, eqb, set}
use Rattle.packing.specs.Octets.{shifted}
use Rattle.packing.specs.declared.image.Packer.{Packer}

-- the packer before any bit is put
abbrev pub fresh_packer : Packer
fresh_packer = record { at = 0; ones = 0; octet = 0 }

-- the packer after a bit
unfoldable pub put_bit : Bool → Packer → Packer
put_bit b p = record { at = p.at + 1; ones = cond b (p.ones + 1) 0; octet = shifted p.octet b }

-- an octet goes to its place with its eighth bit
unfoldable pub store_octet : ℕ → Packer → List ℕ → List ℕ
store_octet o p buf = cond (eqb (p.at % 8) 7) (set buf (p.at / 8) o) buf

-- the buffer after a bit
unfoldable pub put_bit_octets : Bool → Packer → List ℕ → List ℕ
put_bit_octets b p buf = store_octet (shifted p.octet b) p buf

-- the packer after bits
unfoldable pub put_bits : List Bool → Packer → Packer
put_bits [] p = p
put_bits (b ∷ bs) p = put_bits bs (put_bit b p)

-- the buffer after bits
unfoldable pub put_bits_octets : List Bool → Packer → List ℕ → List ℕ
put_bits_octets [] p buf = buf
put_bits_octets (b ∷ bs) p buf = put_bits_octets bs (put_bit b p) (put_bit_octets b p buf)
