-- An event of a line: its value in octets, what the bus does with it, and what is put into the room.
use mathlib.Core.Path.{◌≡◌}
use mathlib.Core.List.{List}
use Prim.Native.Nat.{ℕ, ◌+◌, ◌^◌, ◌≤◌, ◌<◌}
use native.Mathlib.Omega.{arith}
use lib.ListN.{length, take, drop, length-append, length-take, length-drop}
use lib.Seq.{take_all, take-append_seam}
use Rattle.timing.specs.Counts.{most_periods}
use Rattle.terminal.specs.declared.Terminal.{Terminal}
use Rattle.bus_record.specs.declared.record.BusRecord.{BusRecord}
use Rattle.bus_call_specs.specs.Kept.{Kept, found, settled}
use Rattle.bus_call_specs.specs.Event as events
use Rattle.bus_call_specs.specs.Lists as lists
use Rattle.bus_call_specs.specs.Lists.{called}
use Rattle.bus_by_value.specs.declared.HeldEvent.{HeldEvent}
use Rattle.book_line.specs.Value.{value_octets}
use Rattle.book_line.specs.Laying.{Laid}
use Rattle.note_text.specs.Room.{Put}
use Rattle.note_text.specs.NoteText.{notes_text}
use Rattle.period_text.specs.PeriodText.{period_room, event_noted}
use Rattle.report.specs.Told.{done}
use Rattle.report.proofs.OneEvent.{event_told_lem, event_told_fits}
use Rattle.book_go_on.specs.RunTo.{Gives}

-- the octets of a value, where there is room for them
module _ {octets out : List ℕ} {n : ℕ} {out' : List ℕ} (l : Laid octets out n out') where
  pub laid_length : n ≡ length (take n out')
  laid_length =
      rw (
        length-take n out',
        l.lies,
        length-append (take (length out) octets) (drop (length octets) out),
        length-take (length out) octets,
        length-drop (length octets) out,
      )
      (omega (arith, l.count))

  pub laid_octets : length octets ≤ length out → take n out' ≡ octets
  laid_octets h =
      let m : n ≡ length octets = omega (arith, l.count) in
      rw (m, l.lies, take_all (length out) octets h) (take-append_seam octets (drop (length octets) out))

module _ (bus : BusRecord) (ts : List Terminal) (images letters : List ℕ) (unit number : ℕ) (value room : List ℕ) (wrote : ℕ) where
  -- as `give` has it: what the event gave, and what was put
  pub gave : bus.periods.0 ≤ most_periods → unit < 2 ^ 32 → wrote + period_room ≤ length room
      → (octets : List ℕ) → octets ≡ value_octets number value → (g : HeldEvent) (images' letters' : List ℕ)
      → g.told ≡ events.event_told unit number octets bus ts images letters
      → g.terminals ≡ events.terminals_after unit number octets bus ts images letters
      → images' ≡ events.images_after unit number octets bus ts images letters
      → letters' ≡ events.letters_after unit number octets bus ts images letters
      → (w : ℕ) (room' : List ℕ) → Put room wrote (notes_text (event_noted bus.periods.0 unit g.told.notes g.told.reply)) w room'
      → (kept : List ℕ)
      → Gives (found bus ts images kept letters) unit number value room wrote (found g.told.bus g.terminals images' kept letters') w room'
  unfolding done settled called lists.told
  gave p u fits octets o g images' letters' e₁ e₂ e₃ e₄ w room' put kept =
      let k : Kept = found bus ts images kept letters in
      record {
        left = rw (e₁, e₂, e₃, e₄, o);
        put = rw (event_told_lem k unit number (value_octets number value)) (rw (e₁, o) at put);
        fits = omega (arith, event_told_fits k unit number (value_octets number value) (omega arith) u);
      }
