-- The frame reader's laws, for any frame whose fields come back from what is written.
use Rattle.std.specs.Prelude.{Result, Ok, Err}
use mathlib.Core.Path.{◌≡◌, sym, ◌∙◌}
use mathlib.Core.Bool.{true, false}
use mathlib.Core.List.{List}
use Prim.Native.Nat.{ℕ}
use Rattle.refusals.specs.declared.Refusal.{Refusal}
use Rattle.refusals.specs.declared.Refusal.TheVariants.{NoFrame}
use Rattle.symbols.specs.Symbols.{is_line, same_symbols}
use Rattle.frame_reader.specs.Read.{read_by}
use Rattle.frame_reader.specs.Laws.{RoundTrip, Exact, Ten, Two}
use Rattle.test_lemmas.proofs.ByCases.{by_test}
use Rattle.symbols.proofs.Lines.{same_symbols_true, same_symbols_self}

inside : {F : Type 0} {f g : F} → ◌≡◌ {A = Result F Refusal} (Ok f) (Ok g) → f ≡ g
inside e = cc

apart : {F : Type 0} {f : F} {r : Refusal} → ◌≡◌ {A = Result F Refusal} (Ok f) (Err r) → ⊥
apart e = cc

module _ {F : Type 0} (Good : F → Type 0) (write : F → List ℕ) (taken : List ℕ → F)
    (line : (f : F) → is_line (write f) ≡ true)
    (back : (f : F) → Good f → taken (write f) ≡ f)
    (good : (l : List ℕ) → Good (taken l)) where
  abbrev read : List ℕ → Result F Refusal
  read l = read_by write taken l

  pub round_trip : RoundTrip Good write read
  unfolding read_by
  round_trip f g = rw (line f, back f g, same_symbols_self (write f))

  pub two : Two Good write read
  unfolding read_by
  two l e = rw e

  accepted : (l : List ℕ) → is_line l ≡ true → same_symbols l (write (taken l)) ≡ true → read l ≡ Ok (taken l)
  unfolding read_by
  accepted l h e = rw (h, e)

  none : (l : List ℕ) → is_line l ≡ true → same_symbols l (write (taken l)) ≡ false → read l ≡ Err NoFrame
  unfolding read_by
  none l h e = rw (h, e)

  pub exact : Exact Good write read
  exact l f e =
      by_test (is_line l)
      (λ h. by_test (same_symbols l (write (taken l)))
      (λ s. let is : taken l ≡ f = inside (sym (accepted l h s) ∙ e) in rw (← is) (good l, same_symbols_true l (write (taken l)) s))
      (λ s. absurd (apart (sym e ∙ none l h s))))
      (λ h. absurd (apart (sym e ∙ two l h)))

  pub ten : Ten Good write read
  ten l h = (no_fields, no_reading)
    where
      no_fields : read l ≡ Err NoFrame → (f : F) → Good f → l ≡ write f → ⊥
      no_fields e f g k = apart {f = f} {r = NoFrame} (sym (round_trip f g) ∙ rw (← k) e)

      no_reading : ((f : F) → Good f → l ≡ write f → ⊥) → read l ≡ Err NoFrame
      no_reading n =
          by_test (same_symbols l (write (taken l))) (λ s. absurd (n (taken l) (good l) (same_symbols_true l (write (taken l)) s))) (λ s. none l h s)
