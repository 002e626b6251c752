-- What the 1s since the last 0 say of raw bits, newest first, and of the reader over them.
use mathlib.Core.Bool.{Bool, true, false, cond}
use mathlib.Core.List.{List, [], ◌∷◌, ◌++◌, append-nil}
use mathlib.Core.Path.{◌≡◌, refl, ap, sym, ◌∙◌}
use Prim.Native.Nat.{ℕ, zero, suc, ◌+◌, ◌≤◌}
use native.Mathlib.Numerals.{add-one}
use native.Mathlib.Omega.{arith}
use lib.Dec.{eqb, ltb, eqb-zero-suc, eqb-suc-suc}
use lib.ListN.{drop, replicate}
use borrow.Author.Tests.{ne_eqb, eq-eqb, ltb-true, ltb-false}
use Rattle.test_lemmas.proofs.ByCases.{by_test}
use Rattle.hdlc.specs.Ones.{leading}
use Rattle.hdlc.specs.Reading.{Reading, cleared, starts_with, contents, between, aborted, says, said, next}
use Rattle.hdlc.proofs.RawLaws.{data_of, data_zero, data_inserted}
use Rattle.hdlc.proofs.ReadingLaws.{zero_closes, zero_adds}
use Rattle.d_reader.specs.StandsFor.{ones_since_zero, zero_counts}

-- at most six 1s: they are all that the list begins with
pub ones_leading : (raw : List Bool) → ones_since_zero raw ≤ 6 → ones_since_zero raw ≡ leading raw
unfolding ones_since_zero leading
ones_leading [] h = absurd (omega arith)
ones_leading (true ∷ raw) h =
    by_test (ltb (ones_since_zero raw) 6)
    (λ e. simp e (add-one (ones_since_zero raw) ∙ ap suc (ones_leading raw (omega (arith, ltb-true (ones_since_zero raw) 6 e)))))
    (λ e. absurd (omega (arith, simp e at h)))
ones_leading (false ∷ raw) h = refl

-- the 0 of the opening flag ends them too
pub leading_since : (bs : List Bool) → leading (bs ++ (false ∷ [])) ≡ leading bs
unfolding leading
leading_since [] = refl
leading_since (true ∷ bs) = ap suc (leading_since bs)
leading_since (false ∷ bs) = refl

-- the data bits before the 1s that came last, and before the 0 before these
pub data_flag : (bs : List Bool)
    → data_of (drop (leading bs) bs) ≡ data_of (drop (suc (leading bs)) bs) ++ cond (zero_counts bs) (false ∷ []) []
unfolding leading zero_counts
data_flag [] = sym (append-nil (data_of []))
data_flag (true ∷ bs) = data_flag bs
data_flag (false ∷ bs) =
    by_test (eqb (leading bs) 5) (λ e. data_inserted bs e ∙ simp (e, append-nil)) (λ e. data_zero bs e ∙ simp e)

-- the end of a flag
starts_with_flag : (k : ℕ) (raw : List Bool) → k ≤ 6 → starts_with (replicate k true ++ (false ∷ [])) raw ≡ eqb (ones_since_zero raw) k
unfolding starts_with ones_since_zero
starts_with_flag zero [] h = refl
starts_with_flag zero (true ∷ raw) h =
    by_test (ltb (ones_since_zero raw) 6) (λ e. simp (e, ne_eqb (ones_since_zero raw + 1) 0 (λ z. omega arith))) (λ e. simp e)
starts_with_flag zero (false ∷ raw) h = refl
starts_with_flag (suc k) [] h = sym (ne_eqb 7 (suc k) (λ z. omega arith))
starts_with_flag (suc k) (true ∷ raw) h =
    starts_with_flag k raw (omega arith)
    ∙ by_test (ltb (ones_since_zero raw) 6)
    (λ e. simp (e, add-one, eqb-suc-suc))
    (λ e. simp (e, ne_eqb (ones_since_zero raw) k (λ z. omega (arith, ltb-false)), ne_eqb 7 (suc k) (λ z. omega arith)))
starts_with_flag (suc k) (false ∷ raw) h = sym (eqb-zero-suc k)

-- a list that begins with bits begins with the first of them
starts_with_front : (ps qs bs : List Bool) → starts_with (ps ++ qs) bs ≡ true → starts_with ps bs ≡ true
unfolding starts_with
starts_with_front [] qs bs h = refl
starts_with_front (p ∷ ps) qs [] h = h
starts_with_front (true ∷ ps) qs (true ∷ bs) h = starts_with_front ps qs bs h
starts_with_front (true ∷ ps) qs (false ∷ bs) h = h
starts_with_front (false ∷ ps) qs (true ∷ bs) h = h
starts_with_front (false ∷ ps) qs (false ∷ bs) h = starts_with_front ps qs bs h

-- the reader over raw bits at six 1s, and at a 0 that ends no flag
module _ (s : Reading) where
  pub next_zero : eqb (ones_since_zero s.raw) 6 ≡ false → next s false ≡ record { opened = s.opened; raw = false ∷ s.raw }
  unfolding starts_with
  next_zero h = zero_adds s (starts_with_flag 6 s.raw (omega arith) ∙ h)

  module _ (six : ones_since_zero s.raw ≡ 6) where
    flagged : starts_with (replicate 6 true ++ (false ∷ [])) s.raw ≡ true
    flagged = starts_with_flag 6 s.raw (omega arith) ∙ eq-eqb (ones_since_zero s.raw) 6 six

    seven : starts_with (replicate 6 true) s.raw ≡ true
    seven = starts_with_front (replicate 6 true) (false ∷ []) s.raw flagged

    pub next_flag : next s false ≡ record { opened = true; raw = false ∷ [] }
    unfolding starts_with
    next_flag = zero_closes s flagged

    pub next_seven : next s true ≡ cleared
    unfolding next starts_with
    next_seven = simp seven

    module _ (o : s.opened ≡ true) where
      pub said_flag : said s false ≡ between (contents (drop 7 s.raw))
      unfolding said says starts_with
      said_flag = simp (o, flagged)

      pub said_seven : said s true ≡ aborted (contents (drop 6 s.raw))
      unfolding said says starts_with
      said_seven = simp (o, seven)
