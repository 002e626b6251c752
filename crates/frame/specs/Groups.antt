-- Laws: the groups of an upward frame, each with its L, for the laws about such frames together.
-- Interface: `group_symbols`, `up_groups`. Assumes nothing.
use Rattle.std.specs.Prelude.{Bool, List, [], ◌∷◌, ◌++◌, ℕ}
use Rattle.frame.specs.Bits.{octet_bits, balanced}
use Rattle.frame.specs.Polarity.{alternate}
use Rattle.symbols.specs.Symbols.{plus, minus}
use Rattle.frame.specs.declared.fields.UpFields.{UpFields}

-- The symbols of a group with its L, where the next pulse is minus.
abbrev pub group_symbols : List Bool → List ℕ
group_symbols bs = alternate minus (balanced bs)

-- The symbols of the ten groups, in the order of the line: F with its L, then B1, D, FA, B2, D, B1,
-- D, B2, D with theirs.
abbrev pub up_groups : List (UpFields → List ℕ)
up_groups =
    (λ f. plus ∷ minus ∷ [])
    ∷ (λ f. group_symbols (octet_bits f.b1first))
    ∷ (λ f. group_symbols (f.d.first ∷ []))
    ∷ (λ f. group_symbols (f.fa ∷ []))
    ∷ (λ f. group_symbols (octet_bits f.b2first))
    ∷ (λ f. group_symbols (f.d.second ∷ []))
    ∷ (λ f. group_symbols (octet_bits f.b1second))
    ∷ (λ f. group_symbols (f.d.third ∷ []))
    ∷ (λ f. group_symbols (octet_bits f.b2second))
    ∷ (λ f. group_symbols (f.d.fourth ∷ []))
    ∷ []

-- Groups one after the other.
abbrev pub laid_out : {X : Type 0} → List (X → List ℕ) → X → List ℕ
laid_out [] x = []
laid_out (g ∷ gs) x = g x ++ laid_out gs x
