-- The lines of terminals that send: they alone give the line that all give; how many of several send.
use mathlib.Core.Path.{◌≡◌, refl, sym, ap, ◌∙◌}
use mathlib.Core.Bool.{Bool, true, false, not}
use mathlib.Core.List.{List, [], ◌∷◌, map}
use Prim.Native.Nat.{ℕ, zero, suc, ◌+◌, ◌*◌, ◌<◌, ◌≤◌}
use native.Mathlib.Omega.{arith}
use borrow.Author.Tests.{not-false, eqb-true, eqb-false, leb-true}
use lib.Dec.{eqb, leb}
use lib.ListN.{length, get_or, set, take, drop, replicate, length-set, length-map, get_or-replicate}
use lib.Seq.{drop-drop, ext_get_or, get_or-set_same, get_or-set_other}
use Rattle.test_lemmas.proofs.ByCases.{by_test, both, clash}
use Rattle.symbols.specs.Symbols.{line_length, none, plus, minus, within, fits, same_symbols}
use Rattle.symbols.proofs.Fill.{tabulate_ext}
use Rattle.symbols.proofs.Lines.{same_symbols_true, same_symbols_self, fits_length, fits_within}
use Rattle.frame.specs.Polarity.{symbols}
use Rattle.frame.specs.Up.{up_line}
use Rattle.frame.specs.declared.fields.UpFields.{UpFields}
use Rattle.framed.specs.Framed.{has_pulse}
use Rattle.info.specs.Info.{info0, info1}
use Rattle.info.proofs.Laws.{pulseless_info0}
use Rattle.combining.specs.Combine.{is_sent, column, combined}
use Rattle.combining.specs.Calls.{terminals, rows}
use Rattle.combining.specs.Sent.{Sent, sent_line}
use Rattle.combining.specs.Sent.Sent.{silent, calling, frame}
use Rattle.combining.specs.SentD.{how_many_send}
use Rattle.combining.specs.Sending.{is_sending, sending}

-- ---- A terminal that does not send has the line INFO 0: 48 codes, none above none.
is_info0 : (l : List ℕ) → is_sending l ≡ false → l ≡ info0
unfolding is_sending
is_info0 l e = same_symbols_true l info0 (not-false (same_symbols l info0) e)

info0_silent : is_sending info0 ≡ false
unfolding is_sending
info0_silent = ap not (same_symbols_self info0)

within_none : (l : List ℕ) → within none l ≡ true → l ≡ replicate (length l) none
unfolding within
within_none [] e = refl
within_none (x ∷ l) e =
    let h = both (leb x none) (within none l) e in
    let z : x ≡ none = omega (arith, leb-true x none h.0) in
    rw (z, ← within_none l h.1)

pub sending_is : (l : List ℕ) → not (fits line_length none l) ≡ is_sending l
unfolding fits within
sending_is l =
    by_test (fits line_length none l)
    (λ t.
    let here : l ≡ info0 = rw (fits_length line_length none l t) at (within_none l (fits_within line_length none l t)) in
    rw t (sym (ap is_sending here ∙ info0_silent)))
    (λ t. by_test (is_sending l) (λ u. rw (t, u)) (λ u. clash (fits line_length none l) (ap (fits line_length none) (is_info0 l u)) t))

-- So its line has no pulse, and every other has one.
pub sending_pulse : (l : List ℕ) → length l ≡ line_length → is_sending l ≡ has_pulse l
sending_pulse l h =
    by_test (has_pulse l)
    (λ t. by_test (is_sending l) (λ u. u ∙ sym t) (λ u. clash (has_pulse l) t ((pulseless_info0 l h).1 (is_info0 l u))))
    (λ t. ap is_sending ((pulseless_info0 l h).0 t) ∙ (info0_silent ∙ sym t))

-- ---- The lines of terminals that send alone give the line that all give.
sent_sending : (s i : ℕ) → eqb none s ≡ false → i < line_length → (ls : List (List ℕ)) → is_sent s (column i (sending ls)) ≡ is_sent s (column i ls)
unfolding is_sent sending
sent_sending s i n h [] = refl
sent_sending s i n h (l ∷ ls) =
    by_test (is_sending l) (λ t. rw (t, sent_sending s i n h ls))
    (λ t. rw (t, is_info0 l t, get_or-replicate {A = ℕ} line_length i none none h, n, sent_sending s i n h ls))

pub combined_sending : (ls : List (List ℕ)) → combined (sending ls) ≡ combined ls
unfolding combined
combined_sending ls = tabulate_ext line_length _ _ (λ i h. rw (sent_sending plus i refl h ls, sent_sending minus i refl h ls))

-- ---- How many of several terminals send.
info1_sends : is_sending info1 ≡ true
unfolding is_sending same_symbols
info1_sends = refl

frame_sends : (f : UpFields) → is_sending (up_line f) ≡ true
unfolding is_sending same_symbols up_line symbols
frame_sends f = refl

pub sending_sent : (xs : List Sent) → length (sending (map sent_line xs)) ≡ how_many_send xs
unfolding sending how_many_send
sending_sent [] = refl
sending_sent (silent ∷ xs) = rw info0_silent (sending_sent xs)
sending_sent (calling ∷ xs) = rw info1_sends (ap suc (sending_sent xs))
sending_sent (frame f ∷ xs) = rw (frame_sends f) (ap suc (sending_sent xs))

-- ---- The loop that finds the senders.
abbrev who_sends : List ℕ → List Bool
who_sends lines = map is_sending (rows terminals lines)

length_rows : (n : ℕ) (l : List ℕ) → length (rows n l) ≡ n
unfolding rows
length_rows zero l = refl
length_rows (suc n) l = ap suc (length_rows n (drop line_length l))

-- Whether the terminal at index k of n sends, by its line.
sender_at : (n k : ℕ) (l : List ℕ) → k < n → get_or (map is_sending (rows n l)) k false ≡ is_sending (take line_length (drop (k * line_length) l))
unfolding rows
sender_at zero k l h = absurd (omega arith)
sender_at (suc n) zero l h = refl
sender_at (suc n) (suc k) l h =
    let past : suc k * line_length ≡ line_length + k * line_length = omega arith in
    sender_at n k (drop line_length l) (omega arith) ∙ rw (drop-drop (k * line_length) line_length l, past)

pub sender_is : (lines : List ℕ) (found : List Bool) (n : ℕ) → found ≡ who_sends lines → n < terminals
    → get_or found n false ≡ is_sending (take line_length (drop (n * line_length) lines))
sender_is lines found n e h = rw e (sender_at terminals n lines h)

-- Below index n it is found which terminals send.
pub record Found (lines : List ℕ) (found : List Bool) (n : ℕ) : Type 0 where
  pub long : length found ≡ terminals
  pub low : n ≤ terminals
  pub done : (k : ℕ) → k < n → get_or found k false ≡ get_or (who_sends lines) k false

module _ {lines : List ℕ} {found : List Bool} {n : ℕ} (m : Found lines found n) where
  -- The terminal at index n sends unless its line has no code above none.
  pub found_next : n < terminals → (pulseless : Bool) → pulseless ≡ fits line_length none (take line_length (drop (n * line_length) lines))
      → Found lines (set found n (not pulseless)) (n + 1)
  found_next l pulseless e = record {
    long = length-set found n (not pulseless) ∙ m.long;
    low = omega arith;
    done = λ k j.
        by_test (eqb k n) (λ t. rw (eqb-true k n t) (get_or-set_same found n (not pulseless) false (omega (arith, m.long)) ∙ here))
        (λ t. get_or-set_other found n k (not pulseless) false (eqb-false k n t) ∙ m.done k (omega (arith, eqb-false k n t)));
  }
    where
      here : not pulseless ≡ get_or (who_sends lines) n false
      here = ap not e ∙ (sending_is _ ∙ sym (sender_at terminals n lines l))

  pub found_done : terminals ≤ n → found ≡ who_sends lines
  found_done h =
      ext_get_or false found (who_sends lines) (m.long ∙ sym (length-map (rows terminals lines) is_sending ∙ length_rows terminals lines))
      (λ i k. m.done i (omega (arith, m.long)))
