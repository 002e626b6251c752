-- What the loops of `combine` gather is what the lines give together.
use mathlib.Core.Path.{◌≡◌, refl, sym, ap, ◌∙◌}
use mathlib.Core.Bool.{Bool, true, false, cond, ◌||◌, or_assoc, or-false}
use mathlib.Core.List.{List, [], ◌∷◌}
use Prim.Native.Nat.{ℕ, zero, suc, ◌+◌, ◌-◌, ◌*◌, ◌<◌, ◌≤◌}
use native.Mathlib.Omega.{arith}
use borrow.Author.Tests.{eqb-true}
use lib.Bits.{bit_or}
use lib.Dec.{eqb}
use lib.ListN.{length, get_or, take, drop, get_or-replicate}
use lib.Seq.{drop-drop}
use Rattle.std.specs.Prelude.{Ok}
use Rattle.symbols.specs.Symbols.{none, plus, minus, line_length, fits, line_by}
use Rattle.symbols.specs.Calls.{leaves}
use Rattle.frame.specs.Bits.{bit}
use Rattle.info.specs.Info.{info0}
use Rattle.combining.specs.Combine.{is_sent, only, combined_symbol, column, combined}
use Rattle.combining.specs.Gathering.{gathered, gathered_symbol}
use Rattle.combining.specs.Calls.{terminals, lines_length, rows, combine_fits, combined_reply, eight}
use Rattle.combining.specs.Sending.{is_sending, sending, lines_taken}
use Rattle.test_lemmas.proofs.ByCases.{by_test, at_each_below}
use Rattle.symbols.proofs.Lines.{Small, within_small, fits_within}
use Rattle.symbols.proofs.Fill.{line_is, tabulate_ext, length_tabulate, get_d_tabulate}
use Rattle.combining.proofs.Sending.{combined_sending}

-- What is gathered, as a number: 1 for plus, 2 for minus.
code : Bool → Bool → ℕ
code p q = bit p + 2 * bit q

joins : (p q : Bool) (x : ℕ) → x ≤ minus → bit_or (code p q) x ≡ code (p || eqb x plus) (q || eqb x minus)
unfolding code
joins true true x h = eqb-true _ _ (at_each_below (λ k. eqb (bit_or (code true true) k) (code (true || eqb k plus) (true || eqb k minus))) 3 x refl (omega arith))
joins true false x h = eqb-true _ _ (at_each_below (λ k. eqb (bit_or (code true false) k) (code (true || eqb k plus) (false || eqb k minus))) 3 x refl (omega arith))
joins false true x h = eqb-true _ _ (at_each_below (λ k. eqb (bit_or (code false true) k) (code (false || eqb k plus) (true || eqb k minus))) 3 x refl (omega arith))
joins false false x h = eqb-true _ _ (at_each_below (λ k. eqb (bit_or (code false false) k) (code (false || eqb k plus) (false || eqb k minus))) 3 x refl (omega arith))

symbol_of_code : (p q : Bool) → gathered_symbol (code p q) ≡ only p q
unfolding code
symbol_of_code true true = refl
symbol_of_code true false = refl
symbol_of_code false true = refl
symbol_of_code false false = refl

gathers : (p q : Bool) (xs : List ℕ) → Small xs → gathered (code p q) xs ≡ code (p || is_sent plus xs) (q || is_sent minus xs)
unfolding gathered is_sent
gathers p q [] h = rw (or-false p, or-false q)
gathers p q (x ∷ xs) h =
    rw (joins p q x (h 0)) (gathers (p || eqb x plus) (q || eqb x minus) xs (λ i. h (suc i)) ∙ rw (or_assoc p (eqb x plus) (is_sent plus xs), or_assoc q (eqb x minus) (is_sent minus xs)))

-- The symbol of what is gathered is what the symbols give together.
pub gathered_combined : (xs : List ℕ) → Small xs → gathered_symbol (gathered 0 xs) ≡ combined_symbol xs
unfolding code
gathered_combined xs h = ap gathered_symbol (gathers false false xs h) ∙ symbol_of_code (is_sent plus xs) (is_sent minus xs)

small_take : (n : ℕ) (l : List ℕ) → Small l → Small (take n l)
small_take zero l h i = omega arith
small_take (suc n) [] h i = omega arith
small_take (suc n) (x ∷ l) h zero = h 0
small_take (suc n) (x ∷ l) h (suc i) = small_take n l (λ j. h (suc j)) i

small_drop : (n : ℕ) (l : List ℕ) → Small l → Small (drop n l)
small_drop zero l h = h
small_drop (suc n) [] h = h
small_drop (suc n) (x ∷ l) h = small_drop n l (λ j. h (suc j))

small_column : (n i : ℕ) (l : List ℕ) → Small l → Small (column i (rows n l))
unfolding rows
small_column zero i l h j = omega arith
small_column (suc n) i l h zero = small_take line_length l h i
small_column (suc n) i l h (suc j) = small_column n i (drop line_length l) (small_drop line_length l h) j

small_cons : (x : ℕ) (l : List ℕ) → x ≤ minus → Small l → Small (x ∷ l)
small_cons x l h s zero = h
small_cons x l h s (suc i) = s i

small_sending : (i : ℕ) (ls : List (List ℕ)) → Small (column i ls) → Small (column i (sending ls))
unfolding sending
small_sending i [] h = h
small_sending i (l ∷ ls) h =
    let rest = small_sending i ls (λ j. h (suc j)) in
    by_test (is_sending l) (λ t. rw t (small_cons (get_or l i none) (column i (sending ls)) (h 0) rest)) (λ t. rw t rest)

-- The lines from index n on of terminals that send.
abbrev to_come : List ℕ → ℕ → List (List ℕ)
to_come lines n = sending (rows (terminals - n) (drop (n * line_length) lines))

-- The loop over the eight lines: what is gathered at the end is gathered from what there is by the lines to come of terminals that send.
pub record Gathering (lines out₀ out : List ℕ) (taken n : ℕ) : Type 0 where
  pub long : length out ≡ line_length
  pub low : n ≤ terminals
  pub few : taken ≤ n
  pub count : lines_taken lines ≡ taken + length (to_come lines n)
  pub value : (i : ℕ) → i < line_length
      → gathered (get_or out₀ i none) (column i (sending (rows terminals lines))) ≡ gathered (get_or out i none) (column i (to_come lines n))

module _ {lines out₀ out : List ℕ} {taken n : ℕ} (m : Gathering lines out₀ out taken n) where
  -- The line at index n.
  abbrev here : List ℕ
  here = take line_length (drop (n * line_length) lines)

  here_first : n < terminals → to_come lines n ≡ cond (is_sending here) (here ∷ to_come lines (n + 1)) (to_come lines (n + 1))
  unfolding rows sending
  here_first h =
      let more : terminals - n ≡ suc (terminals - (n + 1)) = omega arith in
      let past : (n + 1) * line_length ≡ n * line_length + line_length = omega arith in
      rw (more, past, ← drop-drop line_length (n * line_length) lines)

  pub gather_next : n < terminals → is_sending here ≡ true → (next : List ℕ)
      → next ≡ line_by (λ i. bit_or (get_or out i none) (get_or here i none)) → Gathering lines out₀ next (taken + 1) (n + 1)
  unfolding gathered
  gather_next h s next e = record {
    long = ap length e ∙ length_tabulate line_length (λ i. bit_or (get_or out i none) (get_or here i none));
    low = omega arith;
    few = omega (arith, m.few);
    count = m.count ∙ rw first (omega arith);
    value = λ i k. m.value i k ∙ rw (first, e, get_d_tabulate line_length (λ j. bit_or (get_or out j none) (get_or here j none)) i k);
  }
    where
      first : to_come lines n ≡ here ∷ to_come lines (n + 1)
      first = here_first h ∙ rw s

  pub gather_skip : n < terminals → is_sending here ≡ false → Gathering lines out₀ out taken (n + 1)
  gather_skip h s = record {
    long = m.long;
    low = omega arith;
    few = omega (arith, m.few);
    count = m.count ∙ rw first;
    value = λ i k. m.value i k ∙ rw first;
  }
    where
      first : to_come lines n ≡ to_come lines (n + 1)
      first = here_first h ∙ rw s

  none_to_come : terminals ≤ n → to_come lines n ≡ []
  unfolding rows sending
  none_to_come h = let none_left : terminals - n ≡ 0 = omega arith in rw none_left

  pub gather_count : terminals ≤ n → taken ≡ lines_taken lines
  gather_count h = sym (m.count ∙ rw (none_to_come h) (omega arith))

  pub gather_done : terminals ≤ n → out ≡ line_by (λ i. gathered (get_or out₀ i none) (column i (sending (rows terminals lines))))
  unfolding gathered
  gather_done h =
      line_is out (λ i. gathered (get_or out₀ i none) (column i (sending (rows terminals lines)))) m.long
      (λ i k. sym (m.value i k ∙ rw (none_to_come h)))

-- Cleared, gathered and resolved: the combined line.
pub combines : (lines cleared all last : List ℕ) → fits lines_length minus lines ≡ true → cleared ≡ info0
    → all ≡ line_by (λ i. gathered (get_or cleared i none) (column i (sending (rows terminals lines)))) → last ≡ line_by (λ i. gathered_symbol (get_or all i none)) → last ≡ eight lines
unfolding combined
combines lines cleared all last h z a e =
    e ∙ (tabulate_ext line_length (λ i. gathered_symbol (get_or all i none)) (λ i. combined_symbol (column i sent)) at_i ∙ combined_sending (rows terminals lines))
  where
    sent : List (List ℕ)
    sent = sending (rows terminals lines)

    small : (i : ℕ) → Small (column i sent)
    small i = small_sending i (rows terminals lines) (small_column terminals i lines (within_small lines (fits_within lines_length minus lines h)))

    at_i : (i : ℕ) → i < line_length → gathered_symbol (get_or all i none) ≡ combined_symbol (column i sent)
    at_i i k =
        rw (a, get_d_tabulate line_length (λ j. gathered (get_or cleared j none) (column j sent)) i k, z, get_or-replicate {A = ℕ} line_length i none 0 k)
        (gathered_combined (column i sent) (small i))

-- What the call replies and leaves where it is lent lines.
pub combine_done : (lines lent last : List ℕ) (taken : ℕ) → combine_fits lines lent ≡ true → taken ≡ lines_taken lines → last ≡ eight lines
    → (Ok taken ≡ combined_reply (combine_fits lines lent) (lines_taken lines)) × (last ≡ leaves (combine_fits lines lent) (eight lines) lent)
combine_done lines lent last taken h n e = (rw (h, n), rw h e)
