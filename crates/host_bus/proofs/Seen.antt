-- A terminal of the eight, whatever stands for those that there are not.
use mathlib.Core.List.{List, [], ◌∷◌}
use mathlib.Core.Path.{◌≡◌, refl}
use Prim.Native.Nat.{ℕ, zero, suc, ◌<◌}
use native.Mathlib.Omega.{arith}
use lib.ListN.{length, get_or}
use Rattle.terminal.specs.declared.Terminal.{Terminal}
use Rattle.bus_rules.specs.Bus.{terminals}
use Rattle.bus_octets.specs.Layout.{terminals_from, terminals_in}

in_list : (ts : List Terminal) (i : ℕ) (d e : Terminal) → i < length ts → get_or ts i d ≡ get_or ts i e
in_list [] i d e h = absurd (omega arith)
in_list (t ∷ ts) zero d e h = refl
in_list (t ∷ ts) (suc i) d e h = in_list ts i d e (omega arith)

pub of_eight : (s : List ℕ) (i : ℕ) (d e : Terminal) → i < terminals → get_or (terminals_in s) i d ≡ get_or (terminals_in s) i e
unfolding terminals_in terminals_from
of_eight s i d e h = in_list (terminals_in s) i d e h
