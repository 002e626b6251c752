-- Laws: what holds of the calls on a bus that is lent as octets. The statements are types;
-- proofs/Laws.antt and Determined.antt prove each under the same name in small letters.
-- Interface: none but for laws and proofs. Assumes nothing.
use Rattle.std.specs.Prelude.{true, cond, List, [], ◌∷◌, ◌++◌, ◌≡◌, ℕ, ◌≤◌, min, max, ltb, length, get_or, take}
use Rattle.timing.specs.Counts.{most_periods}
use Rattle.bus_rules.specs.Bus.{Bus, Note, fresh_bus}
use Rattle.bus_rules.specs.Calls.{Call, reply, after_all, notes_of_all}
use Rattle.bus_rules.specs.Sound.{Sound}
use Rattle.bus_call_specs.specs.Lists.{Carries, LentCall, OctetValue, made, lend, notes_told, calls_in, run_told}
use Rattle.note_text.specs.Determined.{AllFitOctets}
use Rattle.bus_octets.specs.Layout.{shown, is_bus}
use Rattle.host_bus.specs.Fresh.{fresh_octets}
use Rattle.host_steps.specs.Stepping.{notes_octets, notes_room, host_reply, host_bus, host_notes, most_to, host_run_reply, host_run_bus}
use Rattle.host_steps.specs.Stepping.{host_run_notes}

-- "The number comes back alone; record and lent buffers keep their contents": of whatever octets
-- and whatever room are lent.
pub record Untouched (s room s' room' : List ℕ) : Type 0 where
  pub bus_stays : s' ≡ s
  pub notes_stay : room' ≡ room

abbrev pub RefusedKeeps : Type 0
RefusedKeeps = (s room : List ℕ) (c : Call) → (host_reply s room c ≡ 0 → ⊥) → Untouched s room (host_bus s room c) (host_notes s room c)

abbrev pub RefusedRunKeeps : Type 0
RefusedRunKeeps =
    (s room : List ℕ) (most : ℕ) → (host_run_reply s room most ≡ 0 → ⊥)
    → Untouched s room (host_run_bus s room most) (host_run_notes s room most)

-- ---- The notes of any call, with their end, fit into the room that is asked for: nothing of them
-- is left out.
abbrev pub NotesFit : Type 0
NotesFit = (s : List ℕ) (c : Call) → is_bus s ≡ true → length (notes_octets (notes_told (shown s) c)) ≤ notes_room

abbrev pub RunNotesFit : Type 0
RunNotesFit = (s : List ℕ) (most : ℕ) → is_bus s ≡ true → length (notes_octets (run_told most (shown s))) ≤ notes_room

-- ---- As octets these notes lose nothing, and their octets determine them: different notes have
-- different octets, whatever stands behind the end of the notes.
abbrev pub NotesFitOctets : Type 0
NotesFitOctets = (s : List ℕ) (c : Call) → is_bus s ≡ true → AllFitOctets (notes_told (shown s) c)

abbrev pub RunNotesFitOctets : Type 0
RunNotesFitOctets = (s : List ℕ) (most : ℕ) → is_bus s ≡ true → AllFitOctets (run_told most (shown s))

abbrev pub NotesDetermined : Type 0
NotesDetermined =
    (ns ms : List Note) (behind behind' : List ℕ) → AllFitOctets ns → AllFitOctets ms
    → notes_octets ns ++ behind ≡ notes_octets ms ++ behind'
    → (ns ≡ ms) × (behind ≡ behind')

-- ---- A run that hands back no notes, so that the first octet lent for them is their end, has come
-- to `until` periods run, or to 4,000,000; where `until` or more had been run before, it runs none.
abbrev pub QuietRunEnds : Type 0
QuietRunEnds =
    (s room : List ℕ) (until : ℕ) → host_run_reply s room (most_to until s) ≡ 0 → get_or (host_run_notes s room (most_to until s)) 0 0 ≡ 0
    → (shown (host_run_bus s room (most_to until s))).bus.periods.0 ≡ min (max until (shown s).bus.periods.0) most_periods

-- ---- Lists of a host's calls on a bus: an event or a period, or a run until a given number of
-- periods have been run in all, each with what is lent for its notes, of any length and contents.
pub data HostCall : Type 0 where
  step : Call → List ℕ → HostCall
  run_to : ℕ → List ℕ → HostCall

unfoldable pub room_of : HostCall → List ℕ
room_of (step c room) = room
room_of (run_to until room) = room

-- what the call gives on octets s
unfoldable pub reply_to : List ℕ → HostCall → ℕ
reply_to s (step c room) = host_reply s room c
reply_to s (run_to until room) = host_run_reply s room (most_to until s)

unfoldable pub bus_after : List ℕ → HostCall → List ℕ
bus_after s (step c room) = host_bus s room c
bus_after s (run_to until room) = host_run_bus s room (most_to until s)

unfoldable pub notes_after : List ℕ → HostCall → List ℕ
notes_after s (step c room) = host_notes s room c
notes_after s (run_to until room) = host_run_notes s room (most_to until s)

-- The calls of crate `bus_call_specs` (specs/Lists.antt) that it asks for, with their own places
-- for notes: a run asks for one call for each period that it runs.
unfoldable pub asked : List ℕ → HostCall → List LentCall
asked s (step c room) = lend c ∷ []
asked s (run_to until room) = calls_in (most_to until s) (shown s)

-- With too little room for notes it makes none of them: `short` is given in place of `enough`.
abbrev pub short_of : {A : Type 0} → A → HostCall → A → A
short_of short x enough = cond (ltb (length (room_of x)) notes_room) short enough

-- the calls of document 01 that it makes
unfoldable pub calls_of_host : List ℕ → HostCall → List Call
calls_of_host s x = short_of [] x (made (asked s x))

-- the reply is that of the first of these calls: of a run the first period alone can be refused; a
-- run of no periods is not refused
unfoldable pub first_reply : Bus → List Call → ℕ
first_reply b [] = 0
first_reply b (c ∷ more) = reply b c

-- The notes that a call hands back: where it is not refused they stand at the front of what was
-- lent, whole, with their end; else there are none.
pub record HandsBack (s : List ℕ) (x : HostCall) (notes : List Note) : Type 0 where
  pub written : reply_to s x ≡ 0 → take (length (notes_octets notes)) (notes_after s x) ≡ notes_octets notes
  pub none : (reply_to s x ≡ 0 → ⊥) → notes ≡ []

-- They are the only ones that can be read there.
abbrev pub HandsBackOne : Type 0
HandsBackOne =
    (s : List ℕ) (x : HostCall) (ns ms : List Note) → AllFitOctets ns → AllFitOctets ms → HandsBack s x ns → HandsBack s x ms → ns ≡ ms

-- Every call gives the reply and the notes of document 01's rules for the calls that it stands for
-- (crate `bus_rules`, specs/Calls.antt); with too little room for notes the reply is 2.
pub record SteppedBy (b : Bus) (s : List ℕ) (x : HostCall) : Type 0 where
  pub replies : reply_to s x ≡ short_of 2 x (first_reply b (calls_of_host s x))
  pub tells : HandsBack s x (notes_of_all b (calls_of_host s x))
  -- whoever reads notes that fit their octets there reads these
  pub alone : (notes : List Note) → AllFitOctets notes → HandsBack s x notes → notes ≡ notes_of_all b (calls_of_host s x)
  pub refused : (reply_to s x ≡ 0 → ⊥) → Untouched s (room_of x) (bus_after s x) (notes_after s x)

-- octets that are a bus, and stand for the bus b of the rules
pub record OctetsCarry (s : List ℕ) (b : Bus) : Type 0 where
  pub is_bus_lem : is_bus s ≡ true
  pub carries : Carries (shown s) b

-- the value of an event holds octets
abbrev pub OctetsGiven : HostCall → Type 0
OctetsGiven (step c room) = OctetValue c
OctetsGiven (run_to until room) = Unit

unfoldable pub SteppedAll : Bus → List ℕ → List HostCall → Type 0
SteppedAll b s [] = OctetsCarry s b
SteppedAll b s (x ∷ more) =
    OctetsCarry s b × (OctetsGiven x → SteppedBy b s x × SteppedAll (after_all b (calls_of_host s x)) (bus_after s x) more)

-- So it is with every list of calls, from octets that stand for a sound bus (crate `bus_rules`,
-- specs/Sound.antt), as those of a fresh bus do.
abbrev pub ListsSteppedFrom : Type 0
ListsSteppedFrom = (s : List ℕ) (b : Bus) (calls : List HostCall) → OctetsCarry s b → Sound b → SteppedAll b s calls

abbrev pub ListsStepped : Type 0
ListsStepped = (calls : List HostCall) → SteppedAll fresh_bus fresh_octets calls
