-- `value::lay` meets its contract: n octets have been laid, whichever they are.
use mathlib.Core.Path.{◌≡◌}
use mathlib.Core.List.{List}
use Prim.Native.Nat.{ℕ, ◌<◌}
use lib.ListN.{length, get_or}
use Rattle.book_line.proofs.Laying.{Laying}
use Rattle.book_line.proofs.value.lay.Given as goal

abbrev pub invariant-loop-n : goal.invariant-loop-n
invariant-loop-n g l =
    (octets : List ℕ) → length octets ≡ l.count → ((n octet : ℕ) → n < l.count → goal.F-post g l.octet n octet → octet ≡ get_or octets n 0)
    → Laying octets l.initial.out l.n l.out
