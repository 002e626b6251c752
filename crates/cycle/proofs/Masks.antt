-- A mask of eight terminals has no bit for an index past theirs.
use Rattle.std.proofs.Common.{◌≡◌, ℕ, ◌<◌, ◌≤◌, ◌/◌, ◌%◌, ◌^◌, eqb, false, arith}
use Rattle.std.proofs.Math.Nat.{pow-le-pow_right, div-eq_of_lt}

pub no_bit : (n i : ℕ) → n < 256 → 8 ≤ i → eqb (n / 2 ^ i % 2) 1 ≡ false
no_bit n i h k =
    let p = pow-le-pow_right {n = 2} (omega arith) {i = 8} {j = i} k in
    rw (div-eq_of_lt {n = n} {m = 2 ^ i} (omega (arith, p)))
