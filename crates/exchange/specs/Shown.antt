-- Laws: the exchange in a few values and the lent terminal records show the exchange of the bus by
-- lines (crate `bus_rules`, specs/Exchange.antt). The fact is a type; `proofs/Shown.antt` proves
-- it.
-- Interface: `letters_at_e`, `done_octet`. Assumes nothing.
use Rattle.std.specs.Prelude.{◌≡◌, List, map, ℕ, length, get_or}
use Rattle.frame.specs.Four.{filled_with_ones}
use Rattle.frame.specs.Down.{e_index}
use Rattle.combining.specs.Hit.{keep_letter}
use Rattle.hdlc.specs.Bits.{number_low_first}
use Rattle.slice_lemmas.specs.Over.{map_from}
use Rattle.terminal.specs.declared.Terminal.{Terminal}
use Rattle.bus_rules.specs.Bus.{Station, Hit, Bus, terminals}
use Rattle.bus_rules.specs.Bus.Hit.{none, given}
use Rattle.bus_rules.specs.Exchange.{Sender, stations_of, d_comes, opportunities_of, exchanged}
use Rattle.bus_rules.specs.Event.{among}
use Rattle.bus_rules.specs.Exchange.{any_info1, any_info3}
use Rattle.exchange.specs.Tally.{no_letters, first_tally}
use Rattle.exchange.specs.Part.{station_in}
use Rattle.exchange.specs.Opportunities.{tally_after_four, terminals_after_four}
use Rattle.exchange.specs.declared.tally.Letters.{Letters}
use Rattle.exchange.specs.declared.tally.Tally.{Tally}

-- the letters of a hit at the four E
unfoldable pub letters_at_e : Hit → Letters
letters_at_e none = no_letters
letters_at_e (given letters) =
    record {
      first = get_or letters (e_index 0) keep_letter;
      second = get_or letters (e_index 1) keep_letter;
      third = get_or letters (e_index 2) keep_letter;
      fourth = get_or letters (e_index 3) keep_letter;
    }

-- which terminals have completed a frame of a class in the exchange, as an octet: bit i for
-- terminal i + 1
unfoldable pub done_octet : ℕ → List Sender → ℕ
done_octet class ss = number_low_first (map (λ (s : Sender). among class s.done) ss)

-- the tally of a bus as the first E of its period comes
abbrev pub first_tally_of : Bus → Tally
first_tally_of b = first_tally b.network.state (letters_at_e b.hit) b.heard_d

-- what the four opportunities leave, for a bus whose terminals and images are lent
pub record Exchanges (images : List ℕ) (b : Bus) (ts : List Terminal) : Type 0 where
  pub stations : stations_of (exchanged b).senders ≡ map_from (station_in images) 0 (terminals_after_four images (first_tally_of b) ts)
  pub terminals : terminals_after_four images (first_tally_of b) ts ≡ map (λ (s : Station). s.terminal) (stations_of (exchanged b).senders)
  pub ds : (tally_after_four images (first_tally_of b) ts).ds ≡ filled_with_ones (map d_comes (opportunities_of b))
  pub echo : (tally_after_four images (first_tally_of b) ts).echo ≡ (exchanged b).heard_d
  pub state : (tally_after_four images (first_tally_of b) ts).state ≡ b.network.state
  pub info1 : (tally_after_four images (first_tally_of b) ts).info1 ≡ any_info1 b.stations
  pub info3 : (tally_after_four images (first_tally_of b) ts).info3 ≡ any_info3 b.stations
  pub done1 : (tally_after_four images (first_tally_of b) ts).done1 ≡ done_octet 1 (exchanged b).senders
  pub done2 : (tally_after_four images (first_tally_of b) ts).done2 ≡ done_octet 2 (exchanged b).senders

-- "one network end, terminals 1 to 8"
abbrev pub ExchangeShown : Type 0
ExchangeShown =
    (images : List ℕ) (b : Bus) (ts : List Terminal) → length ts ≡ terminals → b.stations ≡ map_from (station_in images) 0 ts
    → Exchanges images b ts
