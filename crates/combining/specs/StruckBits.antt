-- How the code goes: a hit at symbol level: its letters applied to bits, to the four E and to A.
-- Laws hold it to the hit line (specs/Laws.antt).
-- Interface: `struck_bit`. Assumes nothing.
use Rattle.std.specs.Prelude.{Bool, true, false, cond, List, ℕ, eqb, get_or}
use Rattle.frame.specs.Down.{e_index, a_index}
use Rattle.frame.specs.declared.fields.Four.{Four}
use Rattle.combining.specs.Hit.{keep_letter, plus_letter, minus_letter}

-- A letter at symbol level, applied to a bit: keep leaves it, plus and minus give 0, none gives 1.
abbrev pub struck_bit : ℕ → Bool → Bool
struck_bit letter b = cond (eqb letter keep_letter) b (cond (eqb letter plus_letter) false (cond (eqb letter minus_letter) false true))

-- The four E under the letters of their positions, 11, 24, 35 and 46.
abbrev pub struck_e : List ℕ → Four → Four
struck_e letters e = record {
  first = struck_bit (get_or letters (e_index 0) keep_letter) e.first;
  second = struck_bit (get_or letters (e_index 1) keep_letter) e.second;
  third = struck_bit (get_or letters (e_index 2) keep_letter) e.third;
  fourth = struck_bit (get_or letters (e_index 3) keep_letter) e.fourth;
}

-- A under the letter of position 13.
abbrev pub struck_a : List ℕ → Bool → Bool
struck_a letters a = struck_bit (get_or letters a_index keep_letter) a
