-- How the code goes: the exchange of a period as an E comes, in the few values of struct `Tally`.
-- Crate `bus_rules` has it by lines (specs/Exchange.antt), and the laws (specs/Quick.antt) by which
-- no line need be built. The law `exchange_shown` (Shown.antt) holds it to crate `bus_rules`.
-- Interface: `no_letters`, `first_tally`, `begun`, `also`, `d_heard`, `ended`. Assumes nothing.
use Rattle.std.specs.Prelude.{Bool, true, false, cond, not, ◌&&◌, ◌||◌, ℕ, ◌+◌, ◌%◌, eqb, ltb}
use Rattle.frame.specs.Four.{all_four}
use Rattle.combining.specs.Hit.{keep_letter}
use Rattle.combining.specs.StruckBits.{struck_bit}
use Rattle.notes_and_cells.specs.Cells.{info_in}
use Rattle.table_6_2.specs.Table62.{info_sent}
use Rattle.packing.specs.Octets.{shifted}
use Rattle.bus_rules.specs.Quick.{sent_e}
use Rattle.exchange.specs.declared.tally.Letters.{Letters}
use Rattle.exchange.specs.declared.tally.Tally.{Tally}

-- the letters at the four E where there is no hit
abbrev pub no_letters : Letters
no_letters = record { first = keep_letter; second = keep_letter; third = keep_letter; fourth = keep_letter }

-- the tally as the first E of a period comes: the network end's state, the letters of a hit at the
-- four E, and the last D heard
abbrev pub first_tally : ℕ → Letters → Bool → Tally
first_tally state letters heard_d =
    record {
      letters = letters;
      ds = all_four true;
      state = state;
      place = 0;
      done1 = 0;
      done2 = 0;
      echo = heard_d;
      e = true;
      d = true;
      info1 = false;
      info3 = false;
    }

-- an opportunity begins: its E has come, and no terminal has been added yet
unfoldable pub begun : Tally → Tally
begun m =
    record {
      letters = m.letters;
      ds = m.ds;
      state = m.state;
      place = m.place;
      done1 = m.done1;
      done2 = m.done2;
      echo = m.echo;
      e = struck_bit m.letters.first (sent_e m.state m.echo);
      d = true;
      info1 = false;
      info3 = false;
    }

-- an octet with a bit for each terminal, turned by one bit for one terminal more: its lowest bit
-- comes back on top, as 1 if it was 1 or if `now`. After eight terminals every bit is in its place
-- again.
abbrev pub rotated_bit : ℕ → Bool → ℕ
rotated_bit octet now = shifted octet (eqb (octet % 2) 1 || now)

-- one terminal added: its state, its D, and the class of the frame that it has completed at this E,
-- 0 for none
unfoldable pub also : ℕ → Bool → ℕ → Tally → Tally
also state d done m =
    record {
      letters = m.letters;
      ds = m.ds;
      state = m.state;
      place = m.place;
      done1 = rotated_bit m.done1 (eqb done 1);
      done2 = rotated_bit m.done2 (eqb done 2);
      echo = m.echo;
      e = m.e;
      d = m.d && d;
      info1 = m.info1 || eqb (info_in info_sent state) 1;
      info3 = m.info3 || eqb (info_in info_sent state) 3;
    }

-- the D that the network end hears: INFO 1 inverts that of the second opportunity, D25
unfoldable pub d_heard : Tally → Bool
d_heard m = cond (eqb m.place 1 && m.info1) (not m.d) m.d

-- an opportunity ends: all terminals have been added
unfoldable pub ended : Tally → Tally
ended m =
    record {
      letters = record { first = m.letters.second; second = m.letters.third; third = m.letters.fourth; fourth = keep_letter };
      ds = record { first = m.ds.second; second = m.ds.third; third = m.ds.fourth; fourth = d_heard m };
      state = m.state;
      place = cond (ltb m.place 3) (m.place + 1) 0;
      done1 = m.done1;
      done2 = m.done2;
      echo = d_heard m;
      e = m.e;
      d = m.d;
      info1 = m.info1;
      info3 = m.info3;
    }
