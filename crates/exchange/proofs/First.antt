-- The comparison with a tally as the first E of a period comes, field by field, as the derived `==` has it.
use mathlib.Core.Path.{◌≡◌, refl}
use mathlib.Core.Bool.{Bool, true, false, not, beq, ◌&&◌}
use Prim.Native.Nat.{ℕ}
use lib.Dec.{eqb}
use borrow.Author.Tests.{eq-eqb}
use Rattle.std.proofs.Common.{arith}
use Rattle.std.proofs.lemmas.Grind.{common_steps}
use Rattle.exchange.specs.Tally.{first_tally}
use Rattle.exchange.specs.Rest.{is_first}
use Rattle.exchange.specs.declared.tally.Tally.{Tally}

same : (n : ℕ) → eqb n n ≡ true
same n = eq-eqb n n refl

alike : (b : Bool) → beq b b ≡ true
alike true = refl
alike false = refl

is_on : (b : Bool) → beq b true ≡ b
is_on true = refl
is_on false = refl

is_off : (b : Bool) → beq b false ≡ not b
is_off true = refl
is_off false = refl

other_order : (a b c d e f g h i j k : Bool)
    → ((a && (b && (c && d))) && (e && (f && (g && (h && (i && (j && k)))))))
    ≡ ((((((((((a && b) && c) && d) && e) && f) && g) && h) && i) && j) && k)
other_order a b c d e f g h i j k = grind (arith, common_steps)

pub by_fields : (m f : Tally) → f ≡ first_tally m.state m.letters m.echo
    → ((eqb m.letters.first f.letters.first && (eqb m.letters.second f.letters.second
    && (eqb m.letters.third f.letters.third && eqb m.letters.fourth f.letters.fourth)))
    && ((beq m.ds.first f.ds.first && (beq m.ds.second f.ds.second && (beq m.ds.third f.ds.third && beq m.ds.fourth f.ds.fourth)))
    && (eqb m.state f.state && (eqb m.place f.place && (eqb m.done1 f.done1 && (eqb m.done2 f.done2 && (beq m.echo f.echo
    && (beq m.e f.e && (beq m.d f.d && (beq m.info1 f.info1 && beq m.info3 f.info3)))))))))) ≡ is_first m
unfolding is_first
by_fields m f e =
    simp (e, same, alike, is_on, is_off)
    (other_order m.ds.first m.ds.second m.ds.third m.ds.fourth (eqb m.place 0) (eqb m.done1 0) (eqb m.done2 0) m.e m.d (not m.info1) (not m.info3))
