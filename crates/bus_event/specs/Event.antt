-- Calls: an event of the book on the bus record, on the network end and on one terminal with the
-- images lent (document 01, "Bench book and report" and "Reasons a call is turned down").
-- Interface: `images_room`, `told`, `are_letters`, `first_reason`, `taken_over`, `network_asked`,
-- `network_told`, `letters_after`, `image_put`, `frame_reason`, `frame_given`,
-- `images_with`, `terminal_told`, `images_after`, `event_settled`. Assumes nothing.
use Rattle.std.specs.Prelude.{Bool, true, cond, not, ◌&&◌, ◌||◌, List, [], ◌∷◌, ◌++◌, ℕ, ◌*◌, eqb, ltb, length, take, drop}
use Rattle.symbols.specs.Symbols.{line_length, fits}
use Rattle.combining.specs.Hit.{none_letter}
use Rattle.notes_and_cells.specs.Notes.{packed_notes}
use Rattle.notes_and_cells.specs.declared.notes.Notes.{Notes}
use Rattle.hdlc.specs.Image.{image}
use Rattle.packing.specs.Packing.{image_room, is_body_length, imaged_octets}
use Rattle.dchannel.specs.declared.access.Class.{Class}
use Rattle.dchannel.specs.declared.access.Class.TheVariants.{One, Two}
use Rattle.table_6_2.specs.Table62.{F7}
use Rattle.table_6_3.specs.Table63 as Table63
use Rattle.timing.specs.declared.counts.Periods.{Periods}
use Rattle.network.specs.Calls as networkCalls
use Rattle.network.specs.Steps.{NetworkStep}
use Rattle.terminal.specs.Terminal as terminal
use Rattle.terminal.specs.Calls as terminalCalls
use Rattle.terminal.specs.declared.Terminal.{Terminal}
use Rattle.terminal.specs.Steps.{TerminalStep}
use Rattle.bus_rules.specs.Bus.{terminals}
use Rattle.bus_rules.specs.Event.{call_reasons, first_holding}
use Rattle.notes_and_cells.specs.Events.{ON, OFF, AR, D1, D2, HIT}
use Rattle.bus_record.specs.Record.{record_in_range, with_network, with_hit}
use Rattle.bus_record.specs.NetworkSide.{leaves_g3, reader_after}
use Rattle.bus_record.specs.declared.record.BusRecord.{BusRecord}
use Rattle.bus_event.specs.declared.event.Told.{Told}

-- the octets lent for eight images
abbrev pub images_room : ℕ
images_room = terminals * image_room

unfoldable pub told : BusRecord → Notes → ℕ → Told
told r notes k = record { bus = r; notes = notes; reply = k }

-- "A lent slice of .. hit letters is not 48 long or holds a code that stands for none of them"
abbrev pub are_letters : List ℕ → Bool
are_letters letters = fits line_length none_letter letters

-- The first reason, or 0, that is known before a unit is asked: 1 for the record and the terminals,
-- 2 for what is lent with them, and those that the call itself decides.
unfoldable pub first_reason : Bool → BusRecord → ℕ → List ℕ → ℕ → ℕ → List ℕ → ℕ
first_reason ready r images letters unit event value =
    first_holding
    ((1, not (ready && record_in_range r))
    ∷ (2, not (eqb images images_room && are_letters letters))
    ∷ call_reasons unit event value)

-- ---- Unit 0.

-- the letters of a hit are taken over, where they are as many as the letters lent
unfoldable pub taken_over : List ℕ → List ℕ → List ℕ
taken_over value letters = cond (eqb (length value) (length letters)) value letters

unfoldable pub asked : ℕ → BusRecord → NetworkStep
asked event r = networkCalls.request_call (cond (eqb event AR) Table63.ar_row Table63.dr_row) r.periods r.network

-- `ar` or `dr`
unfoldable pub network_asked : ℕ → BusRecord → Told
network_asked event r =
    told
    (with_network (asked event r).network (reader_after (leaves_g3 r.network.state (asked event r).network.state) r.reader) r)
    (asked event r).notes
    (asked event r).reply

unfoldable pub network_told : ℕ → BusRecord → Told
network_told event r = cond (eqb event HIT) (told (with_hit true r) (packed_notes []) 0) (network_asked event r)

unfoldable pub letters_after : ℕ → List ℕ → List ℕ → List ℕ
letters_after event value letters = cond (eqb event HIT) (taken_over value letters) letters

-- ---- A terminal, with the images lent.

-- the image of a body in the room of terminal i
unfoldable pub image_put : ℕ → List ℕ → List ℕ → List ℕ
image_put i body images =
    take (i * image_room) images
    ++ (imaged_octets body (take image_room (drop (i * image_room) images)) ++ drop image_room (drop (i * image_room) images))

-- the first reason for which terminal i is not given a frame of `octets` octets, or 0: 1 for the
-- terminal's range, 2 for what is lent, then 6, 7 and 8
unfoldable pub frame_reason : ℕ → ℕ → ℕ → Terminal → ℕ
frame_reason images i octets t =
    first_holding
    ((1, not (terminalCalls.terminal_in_range t))
    ∷ (2, not (eqb images images_room && ltb i terminals))
    ∷ (6, not (eqb t.state F7))
    ∷ (7, not (is_body_length octets))
    ∷ (8, not (eqb t.access.held 0))
    ∷ [])

-- `d1` or `d2`
unfoldable pub frame_given : Class → List ℕ → ℕ → List ℕ → Terminal → TerminalStep
frame_given class images i body t =
    let reason = frame_reason (length images) i (length body) t in
    cond (eqb reason 0) (terminalCalls.hand_over_call class (length (image body)) t) (terminal.unchanged reason t)

unfoldable pub images_with : Terminal → ℕ → List ℕ → List ℕ → List ℕ
images_with t i body images = cond (eqb (frame_reason (length images) i (length body) t) 0) (image_put i body images) images

-- An event: no other number moves the terminal. Whether it is an event of a terminal has been looked
-- at before.
unfoldable pub terminal_told : ℕ → List ℕ → ℕ → List ℕ → Periods → Terminal → TerminalStep
terminal_told event images i value period t =
    cond (eqb event ON) (terminalCalls.switch_on_call period t)
    (cond (eqb event OFF) (terminalCalls.switch_off_call period t)
    (cond (eqb event AR) (terminalCalls.request_call period t)
    (cond (eqb event D1) (frame_given One images i value t)
    (cond (eqb event D2) (frame_given Two images i value t) (terminal.unchanged 0 t)))))

unfoldable pub images_after : ℕ → Terminal → ℕ → List ℕ → List ℕ → List ℕ
images_after event t i value images = cond (eqb event D1 || eqb event D2) (images_with t i value images) images

-- What the call gives where terminal `unit` has answered an event with this step: the record, the
-- notes and the reply. Every event of a terminal ends here, with all that is known of it; no event
-- of document 01 changes the record, or asks for more than the step.
unfoldable pub event_settled : BusRecord → ℕ → ℕ → List ℕ → TerminalStep → Told
event_settled r unit event value step = told r step.notes step.reply
