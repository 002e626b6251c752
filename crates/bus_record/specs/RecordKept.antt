-- Laws: the record stays in its range. The statements are types; proofs/RecordKept.antt proves each
-- under the same name in small letters.
-- Interface: none but for laws and proofs. Assumes nothing.
use Rattle.std.specs.Prelude.{Bool, true, false, List, ◌≡◌, ℕ}
use Rattle.timing.specs.Calls.{all_run}
use Rattle.exchange.specs.declared.tally.Tally.{Tally}
use Rattle.bus_record.specs.Record.{fresh_record, record_in_range}
use Rattle.bus_record.specs.NetworkSide.{answer_after}
use Rattle.bus_record.specs.declared.record.BusRecord.{BusRecord}

abbrev pub FreshInRange : Type 0
FreshInRange = record_in_range fresh_record ≡ true

-- a period more, where one can be run: whatever the exchange, the reader's octets and the
-- terminals' notes
abbrev pub PeriodKeeps : Type 0
PeriodKeeps =
    (bus : BusRecord) (m : Tally) (buf : List ℕ) (told : Bool) → record_in_range bus ≡ true → all_run bus.periods ≡ false
    → record_in_range (answer_after bus m buf told).bus ≡ true
