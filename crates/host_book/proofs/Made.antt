-- A fresh book, and how a call that goes on with a book ends.
use mathlib.Core.Bool.{Bool, true, cond}
use mathlib.Core.List.{List, [], ◌∷◌, ◌++◌}
use mathlib.Core.Path.{◌≡◌, refl, sym, ◌∙◌}
use Prim.Native.Nat.{ℕ}
use native.Mathlib.Omega.{arith}
use lib.Dec.{eqb}
use lib.ListN.{length, take, drop, length-drop}
use lib.Seq.{length-take-le}
use borrow.Author.Tests.{eq-eqb}
use Rattle.test_lemmas.proofs.ByCases.{by_test}
use Rattle.note_text.specs.Room.{laid}
use Rattle.book_go_on.specs.Progress.{fresh_progress}
use Rattle.book_go_on.specs.declared.progress.GoneOn.{GoneOn}
use Rattle.bus_octets.specs.Layout.{bus_octets, bus_length}
use Rattle.host_bus.specs.Fresh.{fresh_zeros, fresh_octets}
use Rattle.host_book.specs.Octets.{book_length, book_octets, is_book}
use Rattle.host_book.specs.Going.{fresh_book, gone_on_octets, going_reason, Goes, HostGoesOn}
use Rattle.host_book.proofs.Laws.{fresh_bus_long}
use Rattle.host_book.proofs.Gone.{laid_behind}

-- ---- A fresh bus in the front of the octets, and three octets behind it.
pub fresh_made : (b : List ℕ) → length b ≡ book_length → (bus : List ℕ)
    → bus ≡ cond (eqb (length (take bus_length b)) bus_length) fresh_octets (take bus_length b)
    → laid (bus ++ drop bus_length b) bus_length (0 ∷ 0 ∷ 0 ∷ []) ≡ fresh_book
unfolding fresh_book book_octets fresh_octets fresh_zeros
fresh_made b h bus e =
    let front : length (take bus_length b) ≡ bus_length = length-take-le bus_length b (omega arith) in
    let bus_is : bus ≡ bus_octets fresh_zeros = e ∙ rw (eq-eqb _ _ front) in
    rw bus_is (laid_behind (bus_octets fresh_zeros) (drop bus_length b) (0 ∷ 0 ∷ 0 ∷ []) bus_length fresh_bus_long (rw (length-drop bus_length b, h)))

-- ---- What is lent is a book, where neither 1 nor 2 holds.
pub going_book : (b : List ℕ) (room r : ℕ) → r ≡ going_reason b room → r ≡ 0 → is_book b ≡ true
unfolding going_reason
going_book b room r e z =
    by_test (is_book b) (λ t. t) (λ t. absurd (let y : ◌≡◌ {A = ℕ} 1 0 = sym (e ∙ rw t) ∙ z in omega arith))

module _ (b text report went : List ℕ) (whole : Bool) (r : ℕ) (e : r ≡ going_reason b (length went)) where
  pub turned_down : (r ≡ 0 → ⊥) → HostGoesOn b text report went whole r b report went
  turned_down n =
      record {
        replies = e;
        refused = λ _. (refl, refl, refl);
        how_far = record { progress = fresh_progress; taken = 0; wrote = 0; why = 0 };
        goes = λ z. absurd (n z);
        says = λ z. absurd (n z);
      }

  pub gone_on : r ≡ 0 → (w : GoneOn) (b' report' went' : List ℕ) → Goes b text report whole w b' report'
      → went' ≡ laid went 0 (gone_on_octets w.taken w.wrote w.why) → HostGoesOn b text report went whole 0 b' report' went'
  gone_on z w b' report' went' g l =
      record {
        replies = sym z ∙ e;
        refused = λ n. absurd (n refl);
        how_far = w;
        goes = λ _. g;
        says = λ _. l;
      }
