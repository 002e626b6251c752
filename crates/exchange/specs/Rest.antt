-- How the code goes: an exchange in which no terminal takes part: each in F7 has a D access that
-- the E leaves as it is. Then the terminals are as before, and D is 1 at every opportunity, but for
-- the second where one sends INFO 1. The law `rest_four` holds this to Opportunities.antt. The code
-- goes this way where none sends INFO 1.
-- Interface: `part_rests`, `none_yet`, `also_rests`, `rest_of`, `may_rest`, `rest_tally`. Assumes
-- nothing.
use Rattle.std.specs.Prelude.{◌≡◌, Bool, true, false, cond, not, ◌&&◌, ◌||◌, List, [], ◌∷◌, map, ℕ, eqb}
use Rattle.combining.specs.StruckBits.{struck_bit}
use Rattle.notes_and_cells.specs.Cells.{info_in}
use Rattle.table_6_2.specs.Table62.{F7, info_sent}
use Rattle.dchannel.specs.Access.{normal2}
use Rattle.dchannel.specs.AtRest.{at_rest}
use Rattle.terminal.specs.declared.Terminal.{Terminal}
use Rattle.slice_lemmas.specs.Over.{fold_from}
use Rattle.bus_rules.specs.Exchange.{any_sends}
use Rattle.bus_rules.specs.Quick.{sent_e}
use Rattle.exchange.specs.Tally.{no_letters, first_tally}
use Rattle.exchange.specs.Opportunities.{tally_after_four, terminals_after_four}
use Rattle.exchange.specs.declared.tally.Letters.{Letters}
use Rattle.exchange.specs.declared.tally.Tally.{Tally}
use Rattle.exchange.specs.declared.rest.Rest.{Rest}

-- whether an E changes nothing in a terminal, which then sends 1 as its D
unfoldable pub part_rests : Bool → Terminal → Bool
part_rests e t = cond (eqb t.state F7) (at_rest normal2 t.access && e) true

unfoldable pub all_rest : Bool → List Terminal → Bool
all_rest e [] = true
all_rest e (t ∷ ts) = part_rests e t && all_rest e ts

-- the states of terminals: they say whether any sends INFO 1, or INFO 3
abbrev pub states_of : List Terminal → List ℕ
states_of ts = map (λ (t : Terminal). t.state) ts

-- ---- As the code gathers it, for an E of 1 and where none sends INFO 1.
-- no terminal looked at yet
abbrev pub none_yet : Rest
none_yet = record { still = true; info3 = false }

abbrev pub also_rests : ℕ → Rest → Terminal → Rest
also_rests i r t =
    record {
      still = (r.still && part_rests true t) && not (eqb (info_in info_sent t.state) 1);
      info3 = r.info3 || eqb (info_in info_sent t.state) 3;
    }

unfoldable pub rest_of : List Terminal → Rest
rest_of ts = fold_from also_rests 0 none_yet ts

-- the E that the terminals hear, a hit's letter applied to it, where `heard_d` is the last D heard
abbrev pub e_sent : ℕ → ℕ → Bool → Bool
e_sent state letter heard_d = struck_bit letter (sent_e state heard_d)

-- whether all four E are 1
unfoldable pub ones_sent : Tally → Bool
ones_sent m =
    ((e_sent m.state m.letters.first m.echo && e_sent m.state m.letters.second true)
    && e_sent m.state m.letters.third true)
    && e_sent m.state m.letters.fourth true

-- whether this is the tally as the first E of a period comes
unfoldable pub is_first : Tally → Bool
is_first m =
    (((((((((m.ds.first && m.ds.second) && m.ds.third) && m.ds.fourth) && eqb m.place 0) && eqb m.done1 0)
    && eqb m.done2 0)
    && m.e) && m.d) && not m.info1) && not m.info3

-- whether it is enough to look whether the terminals rest
unfoldable pub may_rest : Tally → Bool
may_rest m = is_first m && ones_sent m

-- what such an exchange leaves, with whether any terminal sends INFO 1, and INFO 3
abbrev pub rest_tally : ℕ → Letters → Bool → Bool → Tally
rest_tally state letters info1 info3 =
    record {
      letters = no_letters;
      ds = record { first = true; second = not info1; third = true; fourth = true };
      state = state;
      place = 0;
      done1 = 0;
      done2 = 0;
      echo = true;
      e = e_sent state letters.fourth true;
      d = true;
      info1 = info1;
      info3 = info3;
    }

-- ---- The four opportunities, where all terminals rest at each of the four E
-- (proofs/Resting.antt).
pub record RestsThrough (state : ℕ) (letters : Letters) (heard_d : Bool) (ts : List Terminal) : Type 0 where
  pub first : all_rest (e_sent state letters.first heard_d) ts ≡ true
  pub second : all_rest (e_sent state letters.second true) ts ≡ true
  pub third : all_rest (e_sent state letters.third (not (any_sends 1 (states_of ts)))) ts ≡ true
  pub fourth : all_rest (e_sent state letters.fourth true) ts ≡ true

abbrev pub RestFour : Type 0
RestFour =
    (images : List ℕ) (state : ℕ) (letters : Letters) (heard_d : Bool) (ts : List Terminal) → RestsThrough state letters heard_d ts
    → (tally_after_four images (first_tally state letters heard_d) ts
    ≡ rest_tally state letters (any_sends 1 (states_of ts)) (any_sends 3 (states_of ts)))
    × (terminals_after_four images (first_tally state letters heard_d) ts ≡ ts)
