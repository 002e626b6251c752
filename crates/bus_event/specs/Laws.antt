-- Laws: what holds of an event: the statements, each a type. `proofs/Laws.antt` proves each under
-- the same name in small letters.
-- Interface: none but for laws and proofs. Assumes nothing.
use Rattle.std.specs.Prelude.{◌≡◌, true, List, ℕ, ◌<◌, length, take}
use Rattle.hdlc.specs.Image.{image, IsBody}
use Rattle.timing.specs.declared.counts.Periods.{Periods}
use Rattle.terminal.specs.Calls.{terminal_in_range}
use Rattle.terminal.specs.declared.Terminal.{Terminal}
use Rattle.bus_rules.specs.Bus.{terminals}
use Rattle.exchange.specs.Part.{image_of}
use Rattle.bus_record.specs.Record.{record_in_range}
use Rattle.bus_record.specs.declared.record.BusRecord.{BusRecord}
use Rattle.bus_event.specs.Event.{images_room, image_put, network_told, terminal_told}

-- ---- The image of a body stands in the room of its terminal, and the other rooms keep theirs.
pub record RoomsAfter (i : ℕ) (body images : List ℕ) : Type 0 where
  pub there : take (length (image body)) (image_of (image_put i body images) i) ≡ image body
  pub elsewhere : (j : ℕ) → (j ≡ i → ⊥) → image_of (image_put i body images) j ≡ image_of images j
  pub same_length : length (image_put i body images) ≡ length images

abbrev pub ImagePut : Type 0
ImagePut = (i : ℕ) (body images : List ℕ) → IsBody body → i < terminals → length images ≡ images_room → RoomsAfter i body images

-- ---- An event keeps every field in its range.
abbrev pub EventRecordKept : Type 0
EventRecordKept = (event : ℕ) (r : BusRecord) → record_in_range r ≡ true → record_in_range (network_told event r).bus ≡ true

abbrev pub EventTerminalKept : Type 0
EventTerminalKept =
    (event : ℕ) (images : List ℕ) (i : ℕ) (value : List ℕ) (period : Periods) (t : Terminal) → terminal_in_range t ≡ true →
    terminal_in_range (terminal_told event images i value period t).terminal ≡ true
