-- Calls: a cycle at rest. While no call starts a cycle, the range of the bus record's cycle is this
-- one value (crate `bus_record`, specs/Record.antt).
-- Interface: `rests`, `RestsFresh`. Assumes nothing.
use Rattle.std.specs.Prelude.{◌≡◌, Bool, true, not, ◌&&◌, eqb}
use Rattle.symbols.specs.Symbols.{same_symbols}
use Rattle.cycle.specs.Cycle.{no_q, no_messages, fresh}
use Rattle.cycle.specs.declared.record.Cycle.{Cycle}

unfoldable pub rests : Cycle → Bool
rests c =
    ((((same_symbols c.qwaiting no_messages && same_symbols c.qsent no_messages)
    && ((eqb c.swaiting 0 && eqb c.ssent 0) && eqb c.sheard 0))
    && ((eqb c.qheard no_q && eqb c.f7 0) && not c.g3))
    && eqb c.place 0)
    && not c.running

-- The fresh cycle rests, and no other does: proofs/Rest.antt.
abbrev pub RestsFresh : Type 0
RestsFresh = (rests fresh ≡ true) × ((c : Cycle) → rests c ≡ true → c ≡ fresh)
