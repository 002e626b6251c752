-- The code's tables of notes: each code's name, with its value where the code decides it, and the codes that leave something of the value open.
use mathlib.Core.Bool.{Bool, true, cond}
use mathlib.Core.List.{List, [], ◌∷◌}
use mathlib.Core.Path.{◌≡◌, refl, sym, ap, ◌∙◌}
use Prim.Native.Nat.{ℕ, zero, suc, ◌+◌, ◌≤◌, ◌<◌, min}
use native.Mathlib.Omega.{arith}
use borrow.Author.Tests.{eqb-true, leb-true, leb-false}
use lib.Dec.{eqb, leb}
use lib.ListN.{length, get_or, get_or-eq_default}
use Rattle.test_lemmas.proofs.ByCases.{by_test, at_each_below}
use Rattle.notes_and_cells.specs.Names.{Printed, plain, printed, printed_as}
use Rattle.text.proofs.Joined.{Lies, lies}
use Rattle.text.proofs.Lookup.{beside}
use Rattle.note_text.specs.LineParts.{named, open_in, open_as}
use Rattle.note_text.specs.declared.table.OpenValue.{OpenValue}
use Rattle.note_text.specs.declared.table.OpenValue.TheVariants.{Nothing, Body, Number}

-- one more than the last code: it stands for every number that is no code
abbrev pub no_code : ℕ
no_code = suc (length printed)

pub no_code_lem : (code : ℕ) → no_code ≤ code → printed_as code ≡ printed_as no_code
unfolding printed_as
no_code_lem code h =
    get_or-eq_default (plain "" ∷ printed) (plain "") h ∙ sym (get_or-eq_default (plain "" ∷ printed) (plain "") {n = no_code} (omega arith))

-- ---- The names: the texts of n codes, from one on.
abbrev texts : ℕ → ℕ → List (List ℕ)
texts zero code = []
texts (suc n) code = named code ∷ texts n (suc code)

text_at : (n code k : ℕ) → k < n → get_or (texts n code) k [] ≡ named (code + k)
text_at zero code k h = absurd (omega arith)
text_at (suc n) code zero h = let e : code + 0 ≡ code = omega arith in rw e
text_at (suc n) code (suc k) h = let e : code + suc k ≡ suc code + k = omega arith in rw e (text_at n (suc code) k (omega arith))

length_texts : (n code : ℕ) → length (texts n code) ≡ n
length_texts zero code = refl
length_texts (suc n) code = rw (length_texts n (suc code))

-- the table
abbrev pub names : List (List ℕ)
names = texts (suc no_code) 0

-- laid one behind the other, each name stands where it begins
pub name_lies : (k : ℕ) → k ≤ no_code → Lies names k
name_lies k h = lies names k (omega (arith, length_texts (suc no_code) 0))

-- every code's part
pub name_right : (code k : ℕ) → k ≡ min code no_code → get_or names k [] ≡ named code
unfolding named
name_right code k e =
    text_at (suc no_code) 0 k (omega arith)
    ∙ by_test (leb no_code code)
    (λ t. let l = leb-true no_code code t in let z : 0 + k ≡ no_code = omega arith in rw (z, no_code_lem code l))
    (λ t. let l = leb-false no_code code t in let z : 0 + k ≡ code = omega arith in rw z)

-- ---- The codes that leave something open, from one on, each with what it leaves open.
abbrev put : OpenValue → ℕ → List (ℕ × OpenValue) → List (ℕ × OpenValue)
put Nothing code more = more
put Body code more = (code, Body) ∷ more
put Number code more = (code, Number) ∷ more

abbrev open_from : ℕ → List Printed → List (ℕ × OpenValue)
open_from code [] = []
open_from code (p ∷ ps) = put (open_in p.value) code (open_from (suc code) ps)

abbrev pub open_codes : List (ℕ × OpenValue)
open_codes = open_from 1 printed

-- whether two are the same
abbrev number : OpenValue → ℕ
number Nothing = 0
number Body = 1
number Number = 2

abbrev variant : ℕ → OpenValue
variant n = cond (eqb n 0) Nothing (cond (eqb n 1) Body Number)

back : (o : OpenValue) → variant (number o) ≡ o
back Nothing = refl
back Body = refl
back Number = refl

abbrev same_open : OpenValue → OpenValue → Bool
same_open a b = eqb (number a) (number b)

same_open_lem : (a b : OpenValue) → same_open a b ≡ true → a ≡ b
same_open_lem a b t = sym (back a) ∙ ap variant (eqb-true (number a) (number b) t) ∙ back b

-- every code, 256 of them
pub open_right : (code : ℕ) → code < 256 → beside Nothing code open_codes ≡ open_as code
unfolding open_as printed_as printed
open_right code h =
    same_open_lem (beside Nothing code open_codes) (open_as code) (at_each_below (λ c. same_open (beside Nothing c open_codes) (open_as c)) 256 code refl h)
