-- The law of `specs/Rest.antt`.
use mathlib.Core.Path.{◌≡◌, refl}
use mathlib.Core.Bool.{Bool, true, false, not, beq, ◌&&◌}
use Rattle.std.proofs.Common.{List, [], ◌∷◌, ℕ, arith, ◌∙◌}
use Rattle.std.specs.Cmp.Lexicographic.{pointwise}
use Rattle.std.proofs.lemmas.Grind.{common_steps}
use lib.Dec.{eqb}
use borrow.Author.Tests.{eqb-true, not-true}
use Rattle.test_lemmas.proofs.Operators.{and_both, and_cond}
use Rattle.symbols.specs.Symbols.{same_symbols}
use Rattle.symbols.proofs.Lines.{same_symbols_true}
use Rattle.cycle.specs.Cycle.{no_q, no_messages, fresh}
use Rattle.cycle.specs.Rest.{rests, RestsFresh}
use Rattle.cycle.specs.declared.record.Cycle.{Cycle}

only_fresh : (c : Cycle) → rests c ≡ true → c ≡ fresh
unfolding rests
only_fresh c h =
    let a = and_both _ (not c.running) h in
    let b = and_both _ (eqb c.place 0) a.0 in
    let d = and_both _ ((eqb c.qheard no_q && eqb c.f7 0) && not c.g3) b.0 in
    let e = and_both (same_symbols c.qwaiting no_messages && same_symbols c.qsent no_messages) _ d.0 in
    let q = and_both (same_symbols c.qwaiting no_messages) (same_symbols c.qsent no_messages) e.0 in
    let s = and_both (eqb c.swaiting 0 && eqb c.ssent 0) (eqb c.sheard 0) e.1 in
    let s2 = and_both (eqb c.swaiting 0) (eqb c.ssent 0) s.0 in
    let g = and_both (eqb c.qheard no_q && eqb c.f7 0) (not c.g3) d.1 in
    let f = and_both (eqb c.qheard no_q) (eqb c.f7 0) g.0 in
    rw (
      same_symbols_true c.qwaiting no_messages q.0,
      same_symbols_true c.qsent no_messages q.1,
      eqb-true c.swaiting 0 s2.0,
      eqb-true c.ssent 0 s2.1,
      eqb-true c.sheard 0 s.1,
      eqb-true c.qheard no_q f.0,
      eqb-true c.f7 0 f.1,
      eqb-true c.place 0 b.1,
      not-true c.g3 g.1,
      not-true c.running a.1,
    )

fresh_rests : rests fresh ≡ true
unfolding rests same_symbols
fresh_rests = refl

pub rests_fresh : RestsFresh
rests_fresh = (fresh_rests, only_fresh)

-- ---- The comparison with a fresh cycle, field by field, as the derived `==` has it.
as_symbols : (xs ys : List ℕ) → pointwise eqb xs ys ≡ same_symbols xs ys
unfolding same_symbols
as_symbols [] [] = refl
as_symbols [] (y ∷ ys) = refl
as_symbols (x ∷ xs) [] = refl
as_symbols (x ∷ xs) (y ∷ ys) = and_cond (eqb x y) _ ∙ (rw (as_symbols xs ys) refl)

is_off : (b : Bool) → beq b false ≡ not b
is_off true = refl
is_off false = refl

other_order : (a b c d e f g h i j : Bool) → (a && (b && (c && (d && (e && (f && (g && (h && (i && j)))))))))
    ≡ (((((d && e) && ((a && b) && c)) && ((f && g) && j)) && h) && i)
other_order a b c d e f g h i j = grind (arith, common_steps)

pub by_fields : (c f : Cycle) → f ≡ fresh
    → (eqb c.swaiting f.swaiting && (eqb c.ssent f.ssent && (eqb c.sheard f.sheard
    && (pointwise eqb c.qwaiting f.qwaiting && (pointwise eqb c.qsent f.qsent
    && (eqb c.qheard f.qheard && (eqb c.f7 f.f7 && (eqb c.place f.place && (beq c.running f.running && beq c.g3 f.g3))))))))) ≡ rests c
unfolding rests
by_fields c f e =
    rw (e, as_symbols, as_symbols, is_off, is_off)
    (other_order (eqb c.swaiting 0) (eqb c.ssent 0) (eqb c.sheard 0) (same_symbols c.qwaiting no_messages)
    (same_symbols c.qsent no_messages) (eqb c.qheard no_q) (eqb c.f7 0) (eqb c.place 0) (not c.running) (not c.g3))
