-- Bits and octets of a line at symbol level.
use mathlib.Core.Path.{◌≡◌, ◌∙◌, refl}
use mathlib.Core.Bool.{Bool}
use Rattle.std.specs.Int.{from_bool}
use mathlib.Core.List.{List, map-append}
use Prim.Native.Nat.{ℕ, ◌+◌, ◌-◌, ◌*◌, ◌<◌, ◌≤◌}
use native.Mathlib.Numerals.{add-one}
use native.Mathlib.Omega.{arith}
use lib.ListN.{length, take, get_or, length-map}
use lib.Seq.{take-suc, length-take-le, take_all}
use lib.Pow.{pow_mono}
use Rattle.symbols.specs.Symbols.{none, level, levels}
use Rattle.symbols.proofs.Levels.{level_at}
use Rattle.frame.specs.Bits.{number_high_first, four_at}
use Rattle.frame.proofs.Bits.{number_lt, number_last, byte_bit, bit_lt}

-- The bits at four indices, which are one below their positions.
pub four_levels : (l : List ℕ) (i j k m : ℕ)
    → record { first = level (get_or l i none); second = level (get_or l j none); third = level (get_or l k none); fourth = level (get_or l m none) }
    ≡ four_at (i + 1) (j + 1) (k + 1) (m + 1) (levels l)
four_levels l i j k m =
    let back : (n : ℕ) → n + 1 - 1 ≡ n = λ n. omega arith in
    simp back (rw (level_at l i, level_at l j, level_at l k, level_at l m))

-- The loop that reads an octet: n is the number of the first i of its eight symbols.
pub record Octet (symbols : List ℕ) (n i : ℕ) : Type 0 where
  pub long : length symbols ≡ 8
  pub value : n ≡ number_high_first (levels (take i symbols))

pub octet_start : (symbols : List ℕ) → length symbols ≡ 8 → Octet symbols 0 0
unfolding number_high_first
octet_start symbols h = record { long = h; value = refl }

module _ {symbols : List ℕ} {n i : ℕ} (r : Octet symbols n i) where
  pub octet_small : i < 8 → n < 128
  octet_small h =
      let long : length (levels (take i symbols)) ≡ i = length-map (take i symbols) level ∙ length-take-le i symbols (omega (arith, r.long)) in
      omega (arith, rw long at (number_lt (levels (take i symbols))), pow_mono {i = i} {j = 7} (omega arith), r.value)

  pub octet_lt : i < 8 → (b : Bool) → n * 2 + from_bool b < 256
  octet_lt h b = omega (arith, octet_small h, byte_bit b, bit_lt b)

  pub octet_next : i < 8 → Octet symbols (n * 2 + from_bool (level (get_or symbols i 0))) (i + 1)
  octet_next h = record {
    long = r.long;
    value = rw (byte_bit, add-one, take-suc symbols i 0 (omega (arith, r.long)), map-append, number_last, r.value);
  }

  pub octet_done : 8 ≤ i → n ≡ number_high_first (levels symbols)
  octet_done h = let end : take i symbols ≡ symbols = take_all i symbols (omega (arith, r.long)) in rw (r.value, end)
