-- Calls: a period as document 01 has it (crate `bus_rules`, specs/Period.antt), on the record and
-- what is lent with it.
-- Interface: `period_answer`, `kept_run`. Assumes nothing.
use Rattle.std.specs.Prelude.{Bool, false, cond, not, ◌||◌, List, [], ◌∷◌, map, ℕ, ◌+◌, eqb, Result, Ok, Err}
use Rattle.notes_and_cells.specs.Notes.{HEARD, TORN}
use Rattle.table_6_3.specs.Table63.{G3}
use Rattle.timing.specs.Calls.{at_period}
use Rattle.heard_line.specs.Sensing.{shown_down}
use Rattle.network.specs.Network as network
use Rattle.d_reader.specs.Counters.{fresh_reader}
use Rattle.d_reader.specs.Calls as reader
use Rattle.d_reader.specs.declared.Reader.{Reader}
use Rattle.d_reader.specs.declared.ReaderAnswer.{ReaderAnswer}
use Rattle.d_reader.specs.declared.ReaderAnswer.TheVariants.{Nothing, Heard, Torn}
use Rattle.refusals.specs.declared.Refusal.{Refusal}
use Rattle.bus_rules.specs.Bus.{Station, Bus}
use Rattle.bus_rules.specs.Exchange.{Sender, opportunities_of, d_comes, exchanged, whole_down, whole_up}
use Rattle.bus_rules.specs.Period.{network_hears, heard_by, period_run}
use Rattle.period_hearing.specs.Hears.{has_note}
use Rattle.period_hearing.specs.Shown.{terminal_notes}
use Rattle.period_hearing.specs.declared.hears.UnitNotes.{UnitNotes}
use Rattle.exchange.specs.Shown.{done_octet}
use Rattle.bus_record.specs.NetworkSide.{leaves_g3}
use Rattle.bus_record.specs.Record.{with_counts, with_network, with_echo, with_hit}
use Rattle.bus_record.specs.declared.side.RunAnswer.{RunAnswer}
use Rattle.bus_call_specs.specs.Kept.{Kept, kept}
use Rattle.bus_call_specs.specs.Shown.{bus_in}

-- ---- The reader: "In G3 the network reads D", "Leaving G3 clears the reader silently".

-- the D bits that are read in the period
unfoldable pub d_read : Bus → List Bool
d_read b = cond (eqb b.network.state G3) (map d_comes (opportunities_of b)) []

-- whether G3 is left in hearing or by a timer
unfoldable pub left_g3 : Bus → Bool
left_g3 b =
    let heard = (heard_by (exchanged b) b).network.state in
    leaves_g3 b.network.state heard || leaves_g3 heard (period_run b).network.state

unfoldable pub reader_run : Kept → Reader
reader_run k = let b = bus_in k in cond (left_g3 b) fresh_reader (reader.reader_after (d_read b) k.bus.reader k.octets)

unfoldable pub octets_run : Kept → List ℕ
octets_run k = reader.octets_after (d_read (bus_in k)) k.bus.reader k.octets

-- its note in the period, of at most one: the code, 0 for none ..
unfoldable pub note_of : List (Result ReaderAnswer Refusal) → ℕ
note_of [] = 0
note_of (Ok (Heard n) ∷ more) = HEARD
note_of (Ok Torn ∷ more) = TORN
note_of (Ok Nothing ∷ more) = note_of more
note_of (Err k ∷ more) = note_of more

-- .. and the octets of the heard body
unfoldable pub body_of : List (Result ReaderAnswer Refusal) → ℕ
body_of [] = 0
body_of (Ok (Heard n) ∷ more) = n
body_of (Ok Torn ∷ more) = 0
body_of (Ok Nothing ∷ more) = body_of more
body_of (Err k ∷ more) = body_of more

unfoldable pub answers_in : Kept → List (Result ReaderAnswer Refusal)
answers_in k = reader.answers_after (d_read (bus_in k)) k.bus.reader k.octets

-- ---- Notes.

-- the frames of a class completed in the period, bit i for terminal i + 1
unfoldable pub done_mask : ℕ → Bus → ℕ
done_mask class b = done_octet class (exchanged b).senders

-- unit 0: of hearing, and of the timers
unfoldable pub network_notes : Bus → UnitNotes
network_notes b =
    record {
      hearing = (network_hears (whole_up (exchanged b)) b.periods b.network).notes;
      timers = (network.timers (b.periods + 1) (heard_by (exchanged b) b).network).notes;
    }

-- the terminals: what each says of hearing the line, and of the timers
unfoldable pub terminals_notes : Bus → List UnitNotes
terminals_notes b =
    map (λ (s : Sender). terminal_notes (shown_down (whole_down (exchanged b))) b.periods s.station.terminal) (exchanged b).senders

unfoldable pub any_unit_note : List UnitNotes → Bool
any_unit_note [] = false
any_unit_note (n ∷ ns) = (has_note n.hearing || has_note n.timers) || any_unit_note ns

-- whether the period hands back a note
unfoldable pub has_notes : Kept → Bool
has_notes k =
    let b = bus_in k in
    ((any_unit_note (network_notes b ∷ terminals_notes b) || not (eqb (note_of (answers_in k)) 0)) || not (eqb (done_mask 1 b) 0))
    || not (eqb (done_mask 2 b) 0)

-- ---- The whole.
unfoldable pub period_answer : Kept → RunAnswer
period_answer k =
    let b = bus_in k in
    record {
      bus =
          with_counts (at_period (period_run b).periods) (record { 0 = (period_run b).opportunities })
          (with_network (period_run b).network (reader_run k) (with_echo (period_run b).heard_d (with_hit false k.bus)));
      network = network_notes b;
      body = body_of (answers_in k);
      said = note_of (answers_in k);
      done1 = done_mask 1 b;
      done2 = done_mask 2 b;
      told = has_notes k;
      reply = 0;
    }

unfoldable pub kept_run : Kept → Kept
kept_run k =
    let b = bus_in k in
    kept (period_answer k).bus (map (λ (s : Station). s.terminal) (period_run b).stations) k.images (octets_run k) k.letters
    (terminals_notes b)
