-- Rules: four bits, as a frame has four D bits and four echo bits: by their place, from 0, and
-- their ANDs.
-- Interface: `pick`, `filled_with_ones`, `all_four`, `and_all`. Assumes nothing.
use Rattle.std.specs.Prelude.{Bool, true, ◌&&◌, List, [], ◌∷◌, ℕ, get_or}
use Rattle.frame.specs.declared.fields.Four.{Four}

-- The bit at place k.
unfoldable pub pick : ℕ → Four → Bool
pick k f = get_or (f.first ∷ f.second ∷ f.third ∷ f.fourth ∷ []) k true

-- Four bits of which only the first ones are known, as `bits`: 1 for the rest.
unfoldable pub filled_with_ones : List Bool → Four
filled_with_ones bits = record {
  first = get_or bits 0 true;
  second = get_or bits 1 true;
  third = get_or bits 2 true;
  fourth = get_or bits 3 true;
}

-- Four bits all alike.
abbrev pub all_four : Bool → Four
all_four b = record { first = b; second = b; third = b; fourth = b }

-- The ANDs of two times four bits, and of a whole list of them, place by place.
abbrev pub and_four : Four → Four → Four
and_four a b =
    record {
      first = a.first && b.first;
      second = a.second && b.second;
      third = a.third && b.third;
      fourth = a.fourth && b.fourth;
    }

unfoldable pub and_all : List Four → Four
and_all [] = all_four true
and_all (d ∷ ds) = and_four d (and_all ds)
