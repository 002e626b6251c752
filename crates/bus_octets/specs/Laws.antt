-- Laws: the octets of a bus are read back as what was stored, only octets that a bus is stored as
-- are taken for one, and those have 0 in every reserved place. The statements are types;
-- proofs/RoundTrip.antt, Exact.antt and Reserve.antt prove each under the same name in small
-- letters.
-- Interface: none but for laws and proofs. Assumes nothing.
use Rattle.std.specs.Prelude.{true, List, ◌≡◌, ℕ, ◌+◌, ◌*◌, ◌≤◌, ◌<◌, length, get_or}
use Rattle.hdlc.specs.Image.{longest_body}
use Rattle.bus_rules.specs.Bus.{terminals}
use Rattle.bus_call_specs.specs.Kept.{Kept}
use Rattle.bus_call_specs.specs.Ready.{run_reply}
use Rattle.bus_call_specs.specs.Kept.{found}
use Rattle.bus_octets.specs.Layout.{bus_octets, shown, bus_length, is_bus, record_fields, terminal_fields, record_in, terminal_at}
use Rattle.bus_octets.specs.Layout.{record_length, terminal_length, terminals_at}

-- What is in its range and of its length is stored as a bus, and read back as it was; the notes of
-- its last period are no part of it.
pub record StoredAndShown (k : Kept) : Type 0 where
  pub is_bus_lem : is_bus (bus_octets k) ≡ true
  pub shown_is : shown (bus_octets k) ≡ found k.bus k.terminals k.images k.octets k.letters

abbrev pub RoundTrip : Type 0
RoundTrip = (k : Kept) → run_reply 0 k ≡ 0 → length k.octets ≡ longest_body → StoredAndShown k

-- Whatever is taken for a bus is what it stands for, stored; and that is in its range and of its
-- length, so that refusals 1 and 2 are none of it.
pub record ShownAndStored (s : List ℕ) : Type 0 where
  pub long : length s ≡ bus_length
  pub stored_is : bus_octets (shown s) ≡ s
  pub ready : run_reply 0 (shown s) ≡ 0
  pub octets_fit : length (shown s).octets ≡ longest_body

abbrev pub Exact : Type 0
Exact = (s : List ℕ) → is_bus s ≡ true → ShownAndStored s

-- Whatever is taken for a bus has 0 in the record's octets behind its fields, and in those of each
-- terminal.
pub record Reserve (s : List ℕ) : Type 0 where
  pub of_record : (j : ℕ) → length (record_fields (record_in s)) ≤ j → j < record_length → get_or s j 0 ≡ 0
  pub of_terminal : (i j : ℕ) → i < terminals
      → length (terminal_fields (terminal_at s (terminals_at + i * terminal_length))) ≤ j
      → j < terminal_length
      → get_or s (terminals_at + i * terminal_length + j) 0 ≡ 0

abbrev pub ReserveIsZero : Type 0
ReserveIsZero = (s : List ℕ) → is_bus s ≡ true → Reserve s
