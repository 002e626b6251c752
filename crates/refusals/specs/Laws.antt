-- Laws: what holds of the reasons' numbers: the statements, each a type. `proofs/Laws.antt` proves each.
-- Interface: none but for laws and proofs. Assumes nothing.
use Rattle.std.specs.Prelude.{false, ◌≡◌, List, [], ◌∷◌, map, ℕ, eqb}
use Rattle.refusals.specs.declared.Refusal.{Refusal}
use Rattle.refusals.specs.Numbers.{number, reason_of}

-- The numbers of the reasons.
abbrev pub listed : List ℕ
listed = 1 ∷ 2 ∷ 3 ∷ 4 ∷ 5 ∷ 6 ∷ 7 ∷ 8 ∷ 9 ∷ 10 ∷ 11 ∷ 12 ∷ 13 ∷ 14 ∷ []

-- A reason is found again from its number.
abbrev pub ReasonOfNumber : Type 0
ReasonOfNumber = (r : Refusal) → reason_of (number r) ≡ r

-- The numbers are 1 to 14, and each is found again from its reason.
abbrev pub NumbersListed : Type 0
NumbersListed = map (λ n. number (reason_of n)) listed ≡ listed

-- No reason has the number 0, which says that a call was not turned down.
abbrev pub NumberSome : Type 0
NumberSome = (r : Refusal) → eqb (number r) 0 ≡ false
