-- Laws: lists of calls on the record and what is lent with it. Each list hands back the replies and
-- the notes that crate `bus_rules` has for the same calls (specs/Calls.antt there), so that demand
-- 3 (specs/Claims.antt there) speaks of these calls: Demand3.antt.
-- Interface: `told`, `called`, `replied`, `reader_told`, `done_notes`, `heard_told`, `timed_told`,
-- `period_told`, `terminals_told`, `timers_told`, `notes_told`, `Carries`, `LentCall`, `OctetValue`,
-- `fresh_found`, `made`, `lend`, `OctetValues`, `calls_in`, `run_told`. Assumes nothing.
use Rattle.std.specs.Prelude.{Bool, true, false, cond, ◌&&◌, List, [], ◌∷◌, ◌++◌, map, ◌≡◌, refl, ℕ, zero, suc, ◌+◌, ◌-◌, ◌≤◌, ◌<◌, min, eqb, ltb, length, get_or, take, replicate}
use Rattle.notes_and_cells.specs.Notes.{HEARD, DONE1, DONE2, noted}
use Rattle.symbols.specs.Symbols.{line_length, fits, within}
use Rattle.dchannel.specs.Ranges.{access_in_range}
use Rattle.hdlc.specs.Bits.{bit_of}
use Rattle.hdlc.specs.Image.{longest_body}
use Rattle.timing.specs.Counts.{most_periods}
use Rattle.cycle.specs.Cycle as cycle
use Rattle.terminal.specs.Terminal as terminal
use Rattle.terminal.specs.Calls as terminalCalls
use Rattle.terminal.specs.declared.Terminal.{Terminal}
use Rattle.d_reader.specs.ReaderRange.{reader_in_range}
use Rattle.d_reader.specs.StandsFor.{StandsFor}
use Rattle.bus_rules.specs.Bus.{Station, Bus, Note, terminals, fresh_bus, notes_of, station_at}
use Rattle.bus_rules.specs.Order.{ByUnit, d_first, no_cycle, unit_by_unit, period_in_order}
use Rattle.bus_rules.specs.Calls as rules
use Rattle.bus_rules.specs.Calls.{Call, reply, notes, after, notes_of_all}
use Rattle.bus_rules.specs.Calls.Call.{event, period}
use Rattle.bus_rules.specs.Sound.{Sound}
use Rattle.exchange.specs.Part.{image_of}
use Rattle.period_hearing.specs.Shown.{all_in_range}
use Rattle.period_hearing.specs.declared.hears.UnitNotes.{UnitNotes}
use Rattle.bus_record.specs.Record.{fresh_record, record_in_range}
use Rattle.bus_record.specs.NetworkSide.{no_notes}
use Rattle.bus_event.specs.Event.{images_room, are_letters}
use Rattle.bus_record.specs.declared.side.RunAnswer.{RunAnswer}
use Rattle.bus_event.specs.declared.event.Told.{Told}
use Rattle.bus_call_specs.specs.Shown.{record_shown, bare}
use Rattle.bus_call_specs.specs.Kept.{Kept, kept, found, settled}
use Rattle.bus_call_specs.specs.Ready.{eight_in_range, lent_fits, run_goes_on}
use Rattle.bus_call_specs.specs.Run.{run_answer, kept_after}
use Rattle.bus_call_specs.specs.Event.{event_told, terminals_after, images_after, letters_after}

-- ---- A call: what it answers, and what it leaves.
unfoldable pub told : ℕ → ℕ → List ℕ → Kept → Told
told unit number value k = event_told unit number value k.bus k.terminals k.images k.letters

unfoldable pub called : Kept → Call → Kept
called k (event unit number value) =
    kept (told unit number value k).bus
    (terminals_after unit number value k.bus k.terminals k.images k.letters)
    (images_after unit number value k.bus k.terminals k.images k.letters)
    k.octets
    (letters_after unit number value k.bus k.terminals k.images k.letters)
    k.notes
called k period = kept_after 1 k

unfoldable pub replied : Kept → Call → ℕ
replied k (event unit number value) = (told unit number value k).reply
replied k period = (run_answer 1 k).reply

-- ---- The notes that it hands back, in the order that the rules have for a period
-- (crate `bus_rules`, specs/Order.antt).

-- of the reader: `heard` with the octets of the body, or `torn`
unfoldable pub reader_told : ℕ → RunAnswer → List ℕ → List Note
reader_told now r octets =
    cond (eqb r.said 0) []
    (record { period = now; unit = 0; code = r.said; value = cond (eqb r.said HEARD) (take r.body octets) [] } ∷ [])

abbrev pub done_notes : Bool → Bool → List ℕ
done_notes one two = cond one (DONE1 ∷ []) [] ++ cond two (DONE2 ∷ []) []

-- the codes of each terminal's hearing, from index i on; and of its timer
unfoldable pub terminals_heard : RunAnswer → ℕ → List UnitNotes → List (List ℕ)
terminals_heard r i [] = []
terminals_heard r i (n ∷ ns) =
    d_first (done_notes (bit_of r.done1 i) (bit_of r.done2 i)) (noted n.hearing) ∷ terminals_heard r (suc i) ns

abbrev pub terminals_timed : List UnitNotes → List (List ℕ)
terminals_timed ns = map (λ (n : UnitNotes). noted n.timers) ns

-- the two parts of a period's notes, by who notes them: what is heard, and what comes of the timers;
-- no cycle runs, so that none ends
abbrev pub heard_told : ℕ → RunAnswer → List UnitNotes → List ℕ → ByUnit
heard_told now r ns octets =
    record { reader = reader_told now r octets; network = noted r.network.hearing; terminals = terminals_heard r 0 ns; cycle = no_cycle }

abbrev pub timed_told : UnitNotes → List UnitNotes → ByUnit
timed_told network ns = record { reader = []; network = noted network.timers; terminals = terminals_timed ns; cycle = no_cycle }

unfoldable pub period_told : ℕ → RunAnswer → List UnitNotes → List ℕ → List Note
period_told now r ns octets = period_in_order now (heard_told now r ns octets) (timed_told r.network ns)

-- the notes of the terminals alone, from index i on: their hearing, and their timers
abbrev pub terminals_told : ℕ → RunAnswer → ℕ → List UnitNotes → List Note
terminals_told now r i ns = unit_by_unit now (suc i) no_cycle (terminals_heard r i ns)

abbrev pub timers_told : ℕ → ℕ → List UnitNotes → List Note
timers_told now i ns = unit_by_unit now (suc i) no_cycle (terminals_timed ns)

unfoldable pub notes_told : Kept → Call → List Note
notes_told k (event unit number value) =
    cond (eqb (replied k (event unit number value)) 0) (notes_of k.bus.periods.0 unit (noted (told unit number value k).notes)) []
notes_told k period =
    cond (eqb (replied k period) 0) (period_told k.bus.periods.0 (run_answer 1 k) (kept_after 1 k).notes (kept_after 1 k).octets) []

-- ---- Which bus a record and what is lent with it stand for.
pub record Carries (k : Kept) (b : Bus) : Type 0 where
  -- every field of the bus but its reader and its terminals
  pub record_is : record_shown k.bus k.letters ≡ bare b
  -- the cycle of Q and S bits rests: these calls neither start one nor run one
  pub cycle_rests : k.bus.cycle ≡ cycle.fresh
  pub terminals_are : k.terminals ≡ map (λ (s : Station). s.terminal) b.stations
  -- the octets of a held frame's image have its bits
  pub images_are : (i j : ℕ) → 1 ≤ (station_at i b).terminal.access.held → j < (station_at i b).terminal.access.length
      → get_or (image_of k.images i) j true ≡ get_or (station_at i b).image j true
  -- the counters and the octets of the reader stand for the raw bits read
  pub reader_is : StandsFor k.bus.reader k.octets b.reading
  pub reader_fits : reader_in_range k.bus.reader ≡ true
  -- what is lent has its length
  pub images_fit : length k.images ≡ images_room
  pub octets_fit : longest_body ≤ length k.octets
  pub letters_fit : are_letters k.letters ≡ true
  pub notes_fit : length k.notes ≡ terminals

-- ---- Lists. Each call gets the record, the terminals, the images, the octets and the letters that
-- the one before left: "nobody else writes record or slice between". The places for notes are the
-- caller's own, and each call that runs a period is lent some: of any number, with any contents.

pub data LentCall : Type 0 where
  -- an event: a unit, a number and a value; no places for notes are lent with it
  gives : (unit number : ℕ) (value : List ℕ) → LentCall
  -- a period, with these places for notes
  runs : (places : List UnitNotes) → LentCall
  -- any call that is lent other terminals and slices than those that are kept, which do not fit it
  amiss : (c : Call) (ts : List Terminal) (images octets letters : List ℕ) (places : List UnitNotes) → LentCall

-- what a call asks for
unfoldable pub call_of : LentCall → Call
call_of (gives unit number value) = event unit number value
call_of (runs places) = period
call_of (amiss c ts images octets letters places) = c

-- what it finds where k is kept
unfoldable pub finds : Kept → LentCall → Kept
finds k (gives unit number value) = k
finds k (runs places) = kept k.bus k.terminals k.images k.octets k.letters places
finds k (amiss c ts images octets letters places) = kept k.bus ts images octets letters places

-- what it leaves for the next one: what was lent in place of what is kept is no part of it (a
-- refused call leaves that, too, as it was: Refused.antt)
unfoldable pub left_by : Kept → LentCall → Kept
left_by k (gives unit number value) = settled (called k (event unit number value))
left_by k (runs places) = settled (called (finds k (runs places)) period)
left_by k (amiss c ts images octets letters places) =
    found (called (finds k (amiss c ts images octets letters places)) c).bus k.terminals k.images k.octets k.letters

-- whether it is lent what it must be, with what is kept: a period eight places
unfoldable pub is_lent : LentCall → Bool
is_lent (gives unit number value) = true
is_lent (runs places) = eqb (length places) terminals
is_lent (amiss c ts images octets letters places) = false

-- whether such slices would fit a call (refusal 2); of the terminals that is `eight_in_range`
-- (refusal 1)
unfoldable pub would_fit : Call → List ℕ → List ℕ → List ℕ → List UnitNotes → Bool
would_fit (event unit number value) images octets letters places = eqb (length images) images_room && are_letters letters
would_fit period images octets letters places = lent_fits (length images) (length octets) letters (length places)

-- the value of an event holds octets
abbrev pub OctetValue : Call → Type 0
OctetValue (event unit number value) = (i : ℕ) → get_or value i 0 < 256
OctetValue period = Unit

-- What a list may hold: events whose values are octets, periods with whatever places, and calls
-- that are lent what does not fit them: terminals that are not eight in their range, or slices.
abbrev pub Admitted : LentCall → Type 0
Admitted (gives unit number value) = OctetValue (event unit number value)
Admitted (runs places) = Unit
Admitted (amiss c ts images octets letters places) = (eight_in_range ts && would_fit c images octets letters places) ≡ false

-- ---- What document 01's rules have for it: where it is lent what it must be, what
-- crate `bus_rules` has for the call; else refusal 1 or 2, no notes and no change. "The first that
-- holds gives the number": 1, of the terminals, before 2, of the other slices.
abbrev pub reply_to : Bus → LentCall → ℕ
reply_to b (gives unit number value) = reply b (event unit number value)
reply_to b (runs places) = cond (is_lent (runs places)) (reply b period) 2
reply_to b (amiss c ts images octets letters places) = cond (eight_in_range ts) 2 1

abbrev pub notes_to : Bus → LentCall → List Note
notes_to b x = cond (is_lent x) (notes b (call_of x)) []

abbrev pub bus_after : Bus → LentCall → Bus
bus_after b x = cond (is_lent x) (after b (call_of x)) b

-- each call of a list, in its turn, gives that reply and those notes, and what it leaves stands for
-- the bus after it
unfoldable pub Same : Kept → Bus → List LentCall → Type 0
Same k b [] = Carries k b
Same k b (x ∷ more) =
    Carries k b
    × (Admitted x
    → (replied (finds k x) (call_of x) ≡ reply_to b x) × (notes_told (finds k x) (call_of x) ≡ notes_to b x)
    × Same (left_by k x) (bus_after b x) more)

-- So it is with every list of calls, from whatever stands for a sound bus (crate `bus_rules`,
-- specs/Sound.antt).
abbrev pub ListsCarriedFrom : Type 0
ListsCarriedFrom = (k : Kept) (b : Bus) (calls : List LentCall) → Carries k b → Sound b → Same k b calls

-- A fresh record with eight fresh terminals is so, too. In `ListsCarried` what is lent with it has
-- the lengths that it must have, and the letters are letters; else they are any octets.
abbrev pub fresh_found : List ℕ → List ℕ → List ℕ → Kept
fresh_found images octets letters = found fresh_record (replicate terminals terminal.fresh) images octets letters

abbrev pub ListsCarried : Type 0
ListsCarried =
    (images octets letters : List ℕ) (calls : List LentCall)
    → length images ≡ images_room → longest_body ≤ length octets → are_letters letters ≡ true
    → Same (fresh_found images octets letters) fresh_bus calls

-- ---- All notes of a list together are those that the rules give for the calls in it that are lent
-- what they must be.
unfoldable pub made : List LentCall → List Call
made [] = []
made (x ∷ more) = cond (is_lent x) (call_of x ∷ made more) (made more)

unfoldable pub left_all : Kept → List LentCall → Kept
left_all k [] = k
left_all k (x ∷ more) = left_all (left_by k x) more

unfoldable pub notes_of_calls : Kept → List LentCall → List Note
notes_of_calls k [] = []
notes_of_calls k (x ∷ more) = notes_told (finds k x) (call_of x) ++ notes_of_calls (left_by k x) more

unfoldable pub AllAdmitted : List LentCall → Type 0
AllAdmitted [] = Unit
AllAdmitted (x ∷ more) = Admitted x × AllAdmitted more

abbrev pub ToldNotesFrom : Type 0
ToldNotesFrom =
    (k : Kept) (b : Bus) (calls : List LentCall) → Carries k b → Sound b → AllAdmitted calls
    → notes_of_calls k calls ≡ notes_of_all b (made calls)

abbrev pub ToldNotes : Type 0
ToldNotes =
    (images octets letters : List ℕ) (calls : List LentCall)
    → length images ≡ images_room → longest_body ≤ length octets → are_letters letters ≡ true → AllAdmitted calls
    → notes_of_calls (fresh_found images octets letters) calls ≡ notes_of_all fresh_bus (made calls)

-- ---- Computed: a period that is lent seven places for notes, or nine, is refused.
pub seven_places : reply_to fresh_bus (runs (replicate 7 no_notes)) ≡ 2
unfolding is_lent
seven_places = refl

pub nine_places : reply_to fresh_bus (runs (replicate 9 no_notes)) ≡ 2
unfolding is_lent
nine_places = refl

-- it may stand in a list, and is refused with n
abbrev Refused : ℕ → LentCall → Type 0
Refused n x = Admitted x × (reply_to fresh_bus x ≡ n)

abbrev on : Call
on = event 1 1 []

abbrev fresh : ℕ → List Terminal
fresh n = replicate n terminal.fresh

-- a terminal in no state
abbrev astray : Terminal
astray = terminal.with_fields 0 (terminal.fresh).access 9 (terminal.fresh).alignment terminal.fresh

abbrev zeros : ℕ → List ℕ
zeros n = replicate n 0

abbrev places : ℕ → List UnitNotes
places n = replicate n no_notes

-- one terminal too few, one in no state, or nothing lent at all: 1
pub terminals_amiss :
    Refused 1 (amiss on (fresh (terminals - 1)) (zeros images_room) [] (zeros line_length) [])
    × Refused 1 (amiss on (astray ∷ fresh (terminals - 1)) (zeros images_room) [] (zeros line_length) [])
    × Refused 1 (amiss on [] [] [] [] [])
    × Refused 1 (amiss period (fresh (terminals - 1)) (zeros images_room) (zeros longest_body) (zeros line_length) (places terminals))
    × Refused 1 (amiss period (astray ∷ fresh (terminals - 1)) (zeros images_room) (zeros longest_body) (zeros line_length)
    (places terminals))
    × Refused 1 (amiss period [] [] [] [] [])
unfolding would_fit lent_fits eight_in_range all_in_range terminalCalls.terminal_in_range access_in_range fits within
terminals_amiss = ((refl, refl), (refl, refl), (refl, refl), (refl, refl), (refl, refl), (refl, refl))

-- with eight terminals, of an event the images, or the letters in number or in code: 2
pub event_slices_amiss :
    Refused 2 (amiss on (fresh terminals) (zeros (images_room - 1)) [] (zeros line_length) [])
    × Refused 2 (amiss on (fresh terminals) (zeros (images_room + 1)) [] (zeros line_length) [])
    × Refused 2 (amiss on (fresh terminals) (zeros images_room) [] (zeros (line_length - 1)) [])
    × Refused 2 (amiss on (fresh terminals) (zeros images_room) [] (4 ∷ zeros (line_length - 1)) [])
unfolding would_fit eight_in_range all_in_range terminalCalls.terminal_in_range access_in_range fits within
event_slices_amiss = ((refl, refl), (refl, refl), (refl, refl), (refl, refl))

-- .. and of a period also the octets or the places
pub period_slices_amiss :
    Refused 2 (amiss period (fresh terminals) (zeros (images_room - 1)) (zeros longest_body) (zeros line_length) (places terminals))
    × Refused 2 (amiss period (fresh terminals) (zeros (images_room + 1)) (zeros longest_body) (zeros line_length) (places terminals))
    × Refused 2 (amiss period (fresh terminals) (zeros images_room) (zeros (longest_body - 1)) (zeros line_length) (places terminals))
    × Refused 2 (amiss period (fresh terminals) (zeros images_room) (zeros longest_body) (zeros (line_length - 1)) (places terminals))
    × Refused 2 (amiss period (fresh terminals) (zeros images_room) (zeros longest_body) (4 ∷ zeros (line_length - 1)) (places terminals))
    × Refused 2 (amiss period (fresh terminals) (zeros images_room) (zeros longest_body) (zeros line_length) (places (terminals - 1)))
    × Refused 2 (amiss period (fresh terminals) (zeros images_room) (zeros longest_body) (zeros line_length) (places (terminals + 1)))
unfolding would_fit lent_fits eight_in_range all_in_range terminalCalls.terminal_in_range access_in_range fits within
period_slices_amiss = ((refl, refl), (refl, refl), (refl, refl), (refl, refl), (refl, refl), (refl, refl), (refl, refl))

-- what has its length would fit, the octets also where they are more
pub slices_fit :
    (would_fit on (zeros images_room) [] (zeros line_length) [] ≡ true)
    × (would_fit period (zeros images_room) (zeros longest_body) (zeros line_length) (places terminals) ≡ true)
    × (would_fit period (zeros images_room) (zeros (longest_body + 1)) (zeros line_length) (places terminals) ≡ true)
unfolding would_fit lent_fits fits within
slices_fit = (refl, refl, refl)

-- ---- Calls that are all lent what they must be: a period eight places that hold no notes.
unfoldable pub lend : Call → LentCall
lend (event unit number value) = gives unit number value
lend period = runs (replicate terminals no_notes)

unfoldable pub OctetValues : List Call → Type 0
OctetValues [] = Unit
OctetValues (c ∷ more) = OctetValue c × OctetValues more

-- ---- Runs. A run hands back the notes of its last period; the periods before it, as single calls,
-- have none (proofs/QuietRuns.antt).

-- the single calls that a run of at most n periods makes, each with the places for notes as the one
-- before left them
unfoldable pub calls_in : ℕ → Kept → List LentCall
calls_in zero k = []
calls_in (suc n) k = runs k.notes ∷ cond (run_goes_on (run_answer 1 k) n) (calls_in n (kept_after 1 k)) []

-- the notes of a run of at least one period: the last one's number is one less than the periods run
unfoldable pub run_told : ℕ → Kept → List Note
run_told most k =
    cond (eqb (run_answer most k).reply 0)
    (period_told ((run_answer most k).bus.periods.0 - 1) (run_answer most k) (kept_after most k).notes (kept_after most k).octets) []

pub record RunIsCalls (n : ℕ) (k : Kept) : Type 0 where
  -- the reply is that of the first single call: that one is refused, or none is
  pub replies : (run_answer (suc n) k).reply ≡ replied k period
  pub leaves : settled (kept_after (suc n) k) ≡ left_all k (calls_in (suc n) k)
  pub tells : run_told (suc n) k ≡ notes_of_calls k (calls_in (suc n) k)

abbrev pub RunsAreCalls : Type 0
RunsAreCalls = (n : ℕ) (k : Kept) → RunIsCalls n k

-- Such a run is the rules' (crate `bus_rules`, specs/Calls.antt `run_calls`), of whatever stands for
-- a sound bus, as every list of calls leaves one (proofs/RunCarried.antt).
pub record RunOfRules (most : ℕ) (k : Kept) (b : Bus) : Type 0 where
  pub replies : (run_answer most k).reply ≡ rules.run_reply most b
  pub tells : run_told most k ≡ rules.run_notes most b
  pub carries : Carries (kept_after most k) (rules.run_leaves most b)

abbrev pub RunCarried : Type 0
RunCarried = (k : Kept) (b : Bus) (n : ℕ) → Carries k b → Sound b → RunOfRules (suc n) k b

-- A run of no periods runs nothing, whatever it finds: what is kept stays, and no note is told of.
-- It can be refused, with 1 or 2, but not where what it finds stands for such a bus.
pub record NothingRun (k : Kept) : Type 0 where
  pub replies :
      (run_answer 0 k).reply
      ≡ cond (eight_in_range k.terminals && record_in_range k.bus)
      (cond (lent_fits (length k.images) (length k.octets) k.letters (length k.notes)) 0 2) 1
  pub tells_of_none : (run_answer 0 k).told ≡ false
  pub keeps : kept_after 0 k ≡ k

abbrev pub NoPeriodsRun : Type 0
NoPeriodsRun = (k : Kept) → NothingRun k

abbrev pub NoPeriodsCarried : Type 0
NoPeriodsCarried = (k : Kept) (b : Bus) → Carries k b → Sound b → (run_answer 0 k).reply ≡ rules.run_reply 0 b

-- The codes that notes have stand in an octet and are not 0, which as an octet ends the notes of a
-- call (proofs/Codes.antt).
abbrev pub is_code : ℕ → Bool
is_code code = cond (eqb code 0) false (ltb code 256)

unfoldable pub coded : List Note → Bool
coded [] = true
coded (n ∷ ns) = cond (is_code n.code) (coded ns) false

-- of every call, and of a run of at least one period, whatever record and slices it finds
abbrev pub NotesCoded : Type 0
NotesCoded = (k : Kept) (c : Call) → coded (notes_told k c) ≡ true

abbrev pub RunNotesCoded : Type 0
RunNotesCoded = (n : ℕ) (k : Kept) → coded (run_told (suc n) k) ≡ true

-- A run that hands back no notes has run as many periods as were asked for, or has come to
-- 4,000,000 (proofs/QuietEnds.antt).
abbrev pub QuietRunEnds : Type 0
QuietRunEnds =
    (most : ℕ) (k : Kept) → (run_answer most k).reply ≡ 0 → run_told most k ≡ []
    → (kept_after most k).bus.periods.0 ≡ min (k.bus.periods.0 + most) most_periods
