-- Laws: the notes of a period are those of its two parts: what is heard in it, and what comes of the
-- timers due at the next one's start. `proofs/Telling.antt` proves it under the same name in small
-- letters.
-- Interface: none but for laws and proofs. Assumes nothing.
use Rattle.std.specs.Prelude.{List, ◌++◌, ◌≡◌}
use Rattle.bus_rules.specs.Bus.{Bus, Note}
use Rattle.bus_rules.specs.Exchange.{Opportunity, exchanged}
use Rattle.bus_rules.specs.Order.{part_in_order}
use Rattle.bus_rules.specs.Period.{heard_by, heard_by_unit, timed_by_unit, period_notes}

unfoldable pub notes_heard : Opportunity → Bus → List Note
notes_heard m b = part_in_order b.periods (heard_by_unit m b)

unfoldable pub notes_timed : Bus → List Note
notes_timed b = part_in_order b.periods (timed_by_unit b)

abbrev pub TwoParts : Type 0
TwoParts = (b : Bus) → period_notes b ≡ notes_heard (exchanged b) b ++ notes_timed (heard_by (exchanged b) b)
