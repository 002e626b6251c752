-- Eight bits in an octet, turned once by eight terminals.
use mathlib.Core.Path.{◌≡◌, sym, ◌∙◌}
use mathlib.Core.Bool.{Bool, true, false, ◌||◌}
use mathlib.Core.List.{List, [], ◌∷◌, ◌++◌, append-nil, append_assoc}
use Prim.Native.Nat.{ℕ, ◌+◌, ◌*◌, ◌%◌}
use native.Mathlib.Nat.{suc_inj}
use native.Mathlib.Omega.{arith}
use lib.Dec.{eqb}
use lib.ListN.{length, length-append}
use borrow.Author.Tests.{eq-eqb, ne_eqb}
use Rattle.hdlc.specs.Bits.{number_low_first}
use Rattle.packing.proofs.KeptLaws.{shift_in}
use Rattle.exchange.specs.Tally.{rotated_bit}

-- an octet after a bit for each of some terminals
abbrev pub turn_all : ℕ → List Bool → ℕ
turn_all octet [] = octet
turn_all octet (b ∷ bs) = turn_all (rotated_bit octet b) bs

-- one list of bits or another, bit by bit
abbrev pub either_all : List Bool → List Bool → List Bool
either_all [] bs = []
either_all (x ∷ xs) [] = x ∷ xs
either_all (x ∷ xs) (b ∷ bs) = (x || b) ∷ either_all xs bs

low_bit : (x : Bool) (t : List Bool) → eqb (number_low_first (x ∷ t) % 2) 1 ≡ x
unfolding number_low_first
low_bit true t = eq-eqb ((1 + 2 * number_low_first t) % 2) 1 (omega arith)
low_bit false t = ne_eqb ((0 + 2 * number_low_first t) % 2) 1 (λ z. omega arith)

turned_one : (x : Bool) (t : List Bool) (b : Bool) → length t ≡ 7 → rotated_bit (number_low_first (x ∷ t)) b ≡ number_low_first (t ++ ((x || b) ∷ []))
turned_one x t b l = rw (low_bit x t) (sym (shift_in x t (x || b) l))

-- those added stand behind those to come
turn_part : (xs bs gone : List Bool) → length xs ≡ length bs → length xs + length gone ≡ 8 → turn_all (number_low_first (xs ++ gone)) bs ≡ number_low_first (gone ++ either_all xs bs)
turn_part [] [] gone e l = rw (append-nil gone)
turn_part [] (b ∷ bs) gone e l = absurd (omega arith)
turn_part (x ∷ xs) [] gone e l = absurd (omega arith)
turn_part (x ∷ xs) (b ∷ bs) gone e l =
    let shift = turned_one x (xs ++ gone) b (rw length-append (omega arith)) in
    rw (shift, append_assoc xs gone ((x || b) ∷ []))
    (turn_part xs bs (gone ++ ((x || b) ∷ [])) (suc_inj e) (rw length-append (omega arith)) ∙ rw append_assoc)

pub turn_all_lem : (xs bs : List Bool) → length xs ≡ 8 → length bs ≡ 8 → turn_all (number_low_first xs) bs ≡ number_low_first (either_all xs bs)
turn_all_lem xs bs l k = rw (append-nil xs) at (turn_part xs bs [] (l ∙ sym k) (omega arith))
