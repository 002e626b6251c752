-- How the code goes: how the code carries bits 3 to 48 of a frame: as a number of 46 bits, of which
-- the highest is taken off first.
-- Interface: `top_bits`. Assumes nothing.
use Rattle.std.specs.Prelude.{Bool, List, [], ◌∷◌, ℕ, zero, suc, ◌*◌, ◌/◌, ◌%◌, ◌^◌, eqb}

-- 2 to the 45th, the highest of the 46 bits.
abbrev pub top : ℕ
top = 2 ^ 45

-- The n highest bits of w.
unfoldable pub top_bits : ℕ → ℕ → List Bool
top_bits zero w = []
top_bits (suc n) w = eqb (w / top) 1 ∷ top_bits n (w % top * 2)
