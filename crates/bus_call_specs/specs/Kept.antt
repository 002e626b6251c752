-- Calls: what a call on a bus finds: the record, the eight terminals, and what is lent with them.
-- Interface: `Kept`, `kept`, `found`, `settled`. Assumes nothing.
use Rattle.std.specs.Prelude.{List, ℕ, replicate}
use Rattle.terminal.specs.declared.Terminal.{Terminal}
use Rattle.period_hearing.specs.declared.hears.UnitNotes.{UnitNotes}
use Rattle.bus_rules.specs.Bus as rules
use Rattle.bus_record.specs.NetworkSide.{no_notes}
use Rattle.bus_record.specs.declared.record.BusRecord.{BusRecord}

pub record Kept : Type 0 where
  pub bus : BusRecord
  pub terminals : List Terminal
  -- the octets of the eight images
  pub images : List ℕ
  -- the octets of the reader
  pub octets : List ℕ
  -- the letters of the hit
  pub letters : List ℕ
  -- the notes of each terminal in the last period
  pub notes : List UnitNotes

abbrev pub kept : BusRecord → List Terminal → List ℕ → List ℕ → List ℕ → List UnitNotes → Kept
kept bus terminals images octets letters notes =
    record { bus = bus; terminals = terminals; images = images; octets = octets; letters = letters; notes = notes }

-- what is found where nobody has kept the notes of the last period: eight places that hold none
abbrev pub found : BusRecord → List Terminal → List ℕ → List ℕ → List ℕ → Kept
found bus ts images octets letters = kept bus ts images octets letters (replicate rules.terminals no_notes)

-- the same once the notes of the last period have been taken
unfoldable pub settled : Kept → Kept
settled k = found k.bus k.terminals k.images k.octets k.letters
