-- The code's table of events: the loop that goes through it, and the number that it finds.
use mathlib.Core.Path.{◌≡◌, refl, sym, ◌∙◌}
use mathlib.Core.Bool.{Bool, true, false, cond, not, ◌&&◌}
use mathlib.Core.List.{List, [], ◌∷◌, map}
use Prim.Native.Nat.{ℕ, suc, ◌+◌, ◌≤◌, ◌<◌}
use native.Mathlib.Numerals.{add-one}
use native.Mathlib.Omega.{arith}
use lib.Dec.{eqb}
use lib.ListN.{length, get_or, drop, drop_of_length-le}
use lib.Seq.{drop-cons}
use denote.Ref.{Bor}
use Rattle.std.specs.Prelude.{Option, Some, None}
use Rattle.std.specs.Cmp.Lexicographic.{pointwise}
use Rattle.test_lemmas.proofs.ByCases.{by_test, clash}
use Rattle.text.specs.Text.{same}
use Rattle.symbols.proofs.Comparing.{pointwise_same}
use Rattle.book_line.specs.EventNames.{event_names, number_beside, if_beside, event_named, event_if_named}

-- what an entry of the code's table says
abbrev said : ℕ × Bor (List ℕ) → ℕ × List ℕ
said event = (event.0, event.1.now)

abbrev pub beside : List ℕ → List (ℕ × Bor (List ℕ)) → Option ℕ
beside name table = if_beside name (map said table)

-- none of the first k entries has the name
pub record Passed (name : List ℕ) (table : List (ℕ × Bor (List ℕ))) (k : ℕ) : Type 0 where
  pub within : k ≤ length table
  pub rest : beside name table ≡ beside name (drop k table)

pub passed_none : {name : List ℕ} {table : List (ℕ × Bor (List ℕ))} → Passed name table 0
passed_none = record { within = omega arith; rest = refl }

module _ {name : List ℕ} {table : List (ℕ × Bor (List ℕ))} {k : ℕ} (p : Passed name table k) (d : ℕ × Bor (List ℕ)) where
  -- the next is looked at
  here : k < length table
      → beside name table ≡ cond (pointwise eqb (get_or table k d).1.now name) (Some (get_or table k d).0) (beside name (drop (suc k) table))
  here h = p.rest ∙ rw (drop-cons table k d h, pointwise_same)

  pub passed_next : k < length table → pointwise eqb (get_or table k d).1.now name ≡ false → Passed name table (k + 1)
  passed_next h e = record { within = omega arith; rest = rw add-one (here h ∙ rw e) }

  pub passed_found : k < length table → pointwise eqb (get_or table k d).1.now name ≡ true → Some (get_or table k d).0 ≡ beside name table
  passed_found h e = sym (here h ∙ rw e)

pub passed_all : {name : List ℕ} {table : List (ℕ × Bor (List ℕ))} {k : ℕ} → Passed name table k → length table ≤ k → None ≡ beside name table
passed_all {table = table} p h = sym (p.rest ∙ rw (drop_of_length-le table h))

-- No event has the number 0.
abbrev numbered : List (ℕ × List ℕ) → Bool
numbered [] = true
numbered (event ∷ events) = not (eqb event.0 0) && numbered events

beside_named : (name : List ℕ) (events : List (ℕ × List ℕ)) → numbered events ≡ true
    → if_beside name events ≡ cond (eqb (number_beside name events) 0) None (Some (number_beside name events))
beside_named name [] h = refl
beside_named name (event ∷ events) h =
    by_test (same event.1 name)
    (λ s. by_test (eqb event.0 0) (λ z. clash false (rw z at h) refl) (λ z. rw (s, z)))
    (λ s. by_test (eqb event.0 0) (λ z. clash false (rw z at h) refl) (λ z. rw s (beside_named name events (rw z at h))))

pub event_beside : (name : List ℕ) → if_beside name event_names ≡ event_if_named name
unfolding event_names event_named
event_beside name = beside_named name event_names refl
