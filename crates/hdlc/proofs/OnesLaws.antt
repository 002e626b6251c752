-- Laws of runs of 1s.
use mathlib.Core.Bool.{Bool, true, false}
use mathlib.Core.Path.{◌≡◌, refl}
use mathlib.Core.List.{List, [], ◌∷◌, ◌++◌}
use Prim.Native.Nat.{ℕ, zero, suc, ◌≤◌}
use native.Mathlib.Omega.{arith}
use lib.ListN.{take}
use Rattle.hdlc.specs.Ones.{ones_after, ending_ones}

-- no more than m 1s in a row, with the k 1s that stand before the list
abbrev pub Runs : ℕ → ℕ → List Bool → Type 0
Runs m k [] = Unit {0}
Runs m k (true ∷ bs) = (suc k ≤ m) × Runs m (suc k) bs
Runs m k (false ∷ bs) = Runs m 0 bs

pub ones_after_append : (bs cs : List Bool) (k : ℕ) → ones_after k (bs ++ cs) ≡ ones_after (ones_after k bs) cs
unfolding ones_after
ones_after_append [] cs k = refl
ones_after_append (true ∷ bs) cs k = ones_after_append bs cs (suc k)
ones_after_append (false ∷ bs) cs k = ones_after_append bs cs 0

-- one more bit at the end
pub ending_one : (bs : List Bool) → ending_ones (bs ++ (true ∷ [])) ≡ suc (ending_ones bs)
unfolding ones_after ending_ones
ending_one bs = ones_after_append bs (true ∷ []) 0

pub ending_zero : (bs : List Bool) → ending_ones (bs ++ (false ∷ [])) ≡ 0
unfolding ones_after ending_ones
ending_zero bs = ones_after_append bs (false ∷ []) 0

pub runs_append : (bs cs : List Bool) (m k : ℕ) → Runs m k bs → Runs m (ones_after k bs) cs → Runs m k (bs ++ cs)
unfolding ones_after
runs_append [] cs m k r s = s
runs_append (true ∷ bs) cs m k r s = (r.0, runs_append bs cs m (suc k) r.1 s)
runs_append (false ∷ bs) cs m k r s = runs_append bs cs m 0 r s

pub runs_more : (bs : List Bool) (m n k : ℕ) → m ≤ n → Runs m k bs → Runs n k bs
runs_more [] m n k h r = tt
runs_more (true ∷ bs) m n k h r = (omega arith, runs_more bs m n (suc k) h r.1)
runs_more (false ∷ bs) m n k h r = runs_more bs m n 0 h r

pub runs_take : (bs : List Bool) (m k s : ℕ) → k ≤ m → Runs m k bs → ones_after k (take s bs) ≤ m
unfolding ones_after
runs_take bs m k zero h r = h
runs_take [] m k (suc s) h r = h
runs_take (true ∷ bs) m k (suc s) h r = runs_take bs m (suc k) s r.0 r.1
runs_take (false ∷ bs) m k (suc s) h r = runs_take bs m 0 s (omega arith) r

pub runs_after : (bs : List Bool) (m k : ℕ) → k ≤ m → Runs m k bs → ones_after k bs ≤ m
unfolding ones_after
runs_after [] m k h r = h
runs_after (true ∷ bs) m k h r = runs_after bs m (suc k) r.0 r.1
runs_after (false ∷ bs) m k h r = runs_after bs m 0 (omega arith) r
