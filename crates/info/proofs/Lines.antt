-- INFO 0 and INFO 1 as they are written: symbol by symbol.
use mathlib.Core.Path.{◌≡◌, refl, sym, ◌∙◌}
use mathlib.Core.Bool.{cond}
use mathlib.Core.List.{List}
use Prim.Native.Nat.{ℕ, ◌+◌, ◌%◌, ◌<◌, ◌≤◌}
use native.Mathlib.Omega.{arith}
use borrow.Author.Tests.{eqb-true, eq-eqb, ne_eqb}
use lib.Dec.{eqb}
use lib.ListN.{get_or, set, replicate}
use Rattle.test_lemmas.proofs.ByCases.{at_each_below}
use Rattle.symbols.specs.Symbols.{none, plus, minus, line_length}
use Rattle.symbols.proofs.Fill.{Filled, fill_next, fill_done, line_is}
use Rattle.info.specs.Info.{info0, info1}

pub info0_filled : (n : ℕ) → n ≡ line_length → replicate n none ≡ info0
info0_filled n h = rw h

-- Which of the three symbols an index has is one test computed over all indices.
info1_at : (i : ℕ) → i < line_length → get_or info1 i none ≡ cond (eqb (i % 8) 0) plus (cond (eqb (i % 8) 1) minus none)
info1_at i h =
    eqb-true (get_or info1 i none) (cond (eqb (i % 8) 0) plus (cond (eqb (i % 8) 1) minus none))
    (at_each_below (λ k. eqb (get_or info1 k none) (cond (eqb (k % 8) 0) plus (cond (eqb (k % 8) 1) minus none))) line_length i refl h)

pub info1_plus : (i : ℕ) → i < line_length → i % 8 ≡ 0 → plus ≡ get_or info1 i none
info1_plus i h e = sym (info1_at i h ∙ rw (eq-eqb (i % 8) 0 e))

pub info1_minus : (i : ℕ) → i < line_length → i % 8 ≡ 1 → minus ≡ get_or info1 i none
info1_minus i h e = sym (info1_at i h ∙ rw (ne_eqb (i % 8) 0 (λ z. omega arith), eq-eqb (i % 8) 1 e))

pub info1_none : (i : ℕ) → i < line_length → (i % 8 ≡ 0 → ⊥) → (i % 8 ≡ 1 → ⊥) → none ≡ get_or info1 i none
info1_none i h m n = sym (info1_at i h ∙ rw (ne_eqb (i % 8) 0 m, ne_eqb (i % 8) 1 n))

-- What stands at each index of INFO 1.
abbrev pub symbol_of_info1 : ℕ → ℕ
symbol_of_info1 i = get_or info1 i none

pub info1_next : {xs₀ xs : List ℕ} {i : ℕ} → Filled symbol_of_info1 xs₀ xs i → i < line_length → Filled symbol_of_info1 xs₀ (set xs i (symbol_of_info1 i)) (i + 1)
info1_next {i = i} m h = fill_next m h (symbol_of_info1 i) refl

pub info1_done : {xs₀ xs : List ℕ} {i : ℕ} → Filled symbol_of_info1 xs₀ xs i → line_length ≤ i → xs ≡ info1
info1_done m h = fill_done m h ∙ sym (line_is info1 symbol_of_info1 refl (λ k l. refl))
