-- Calls: a driver between two calls, and its turn: a step of `Driven` (crate `report`,
-- specs/Ahead.antt) where the part of the book is what was read.
-- Interface: `Fills`, `Turned`, `Going`, `Drives`, `Runs`. Assumes nothing.
use Rattle.std.specs.Prelude.{Bool, true, false, cond, List, [], ◌∷◌, ◌++◌, ◌≡◌, ℕ, ◌+◌, ◌-◌, ◌^◌, ◌≤◌, ◌<◌, eqb, length, take, drop}
use Rattle.hdlc.specs.Image.{longest_body}
use Rattle.bus_event.specs.Event.{images_room, are_letters}
use Rattle.book_line.specs.Line.{longest_line}
use Rattle.book_reader.specs.Parts.{joined}
use Rattle.period_text.specs.PeriodText.{period_room}
use Rattle.report.specs.Ahead.{BookState, ReadyState, Stopped, TEXT, OVER}
use Rattle.report.specs.Report.{report}
use Rattle.book_go_on.specs.Progress.{book_state_of, fresh_progress}
use Rattle.driver.specs.declared.turn.Held.{Held}

-- The octets of the book in hand are those at the text's front. A part of the book, of at most
-- `most` octets, comes behind them, where the last call has stopped for text; where nothing comes,
-- the book ends there.
pub record Fills (most : ℕ) (text : List ℕ) (have why : ℕ) (whole : Bool) (text' : List ℕ) (have' : ℕ) (whole' : Bool) : Type 0 where
  pub part : List ℕ
  pub few : length part ≤ most
  pub behind : take have' text' ≡ take have text ++ part
  pub within : have' ≤ length text'
  pub asked : why ≡ TEXT → whole' ≡ eqb (length part) 0
  pub unasked : (why ≡ TEXT → ⊥) → (part ≡ []) × (whole' ≡ whole)

abbrev pub held_state : Held → List ℕ → List ℕ → List ℕ → BookState
held_state h images octets letters = book_state_of h.progress images octets letters

-- One call on what is in hand and the part behind it; what it has not taken is in hand then.
pub record Turned (most : ℕ) (h : Held) (text room images octets letters : List ℕ) (r : Held)
    (text' room' images' octets' letters' : List ℕ)
    : Type 0 where
  pub part : List ℕ
  pub few : length part ≤ most
  pub asked : h.why ≡ TEXT → r.whole ≡ eqb (length part) 0
  pub unasked : (h.why ≡ TEXT → ⊥) → (part ≡ []) × (r.whole ≡ h.whole)
  pub taken : ℕ
  pub wrote : ℕ
  pub stopped : Stopped (held_state h images octets letters) (take h.have text ++ part) room r.whole
      (held_state r images' octets' letters') taken wrote r.why room'
  pub rest : take r.have text' ≡ drop taken (take h.have text ++ part)
  pub within : r.have ≤ length text'

-- What holds before every turn: no call will be refused, what is in hand is there, and where text
-- is needed less than a line is in hand, so that a read is offered room.
pub record Going (h : Held) (text images octets letters : List ℕ) : Type 0 where
  pub sound : ReadyState (held_state h images octets letters)
  pub within : h.have ≤ length text
  pub few : h.why ≡ TEXT → h.have < longest_line

-- ---- All turns.
-- There is another turn: no write has failed, and the book is not over.
abbrev pub Due : Held → Type 0
Due h = (h.failed ≡ false) × (h.why ≡ OVER → ⊥)

-- The turns so far, from what was held and lent at first to what is now. Each starts where the one
-- before has ended, and finds what that one has left: nobody else writes between. The parts read,
-- one in each turn and none longer than `most`, and the octets written out.
pub data Chain (most : ℕ) (h₀ : Held) (text₀ room₀ images₀ octets₀ letters₀ : List ℕ)
    : Held → (text room images octets letters : List ℕ) → (parts : List (List ℕ)) → (out : List ℕ) → Type 0 where
  none : Chain most h₀ text₀ room₀ images₀ octets₀ letters₀ h₀ text₀ room₀ images₀ octets₀ letters₀ [] []
  more : {h r : Held} {text room images octets letters text' room' images' octets' letters' : List ℕ} {parts : List (List ℕ)} {out : List ℕ}
      → Chain most h₀ text₀ room₀ images₀ octets₀ letters₀ h text room images octets letters parts out → Due h
      → (t : Turned most h text room images octets letters r text' room' images' octets' letters')
      → Chain most h₀ text₀ room₀ images₀ octets₀ letters₀ r text' room' images' octets' letters'
      (parts ++ (t.part ∷ [])) (out ++ take t.wrote room')

-- Nothing is in hand, and text is needed.
abbrev pub first : Held
first = record { progress = fresh_progress; have = 0; why = TEXT; whole = false; failed = false }

-- the number that the turns are counted down from: the greatest of 64 bits
abbrev pub most_turns : ℕ
most_turns = 2 ^ 64 - 1

-- From the first turn on until there is no other, or the count is used up: a turn reads one part.
pub record Drives (most : ℕ) (text room images octets letters text' room' images' octets' letters' : List ℕ) : Type 0 where
  pub held : Held
  pub parts : List (List ℕ)
  pub out : List ℕ
  pub chain : Chain most first text room images octets letters held text' room' images' octets' letters' parts out
  pub ended : Due held → length parts ≡ most_turns

-- The same with text, images, octets and letters of its own, which are in order for the first call.
pub record DrivesIn (most : ℕ) (room room' : List ℕ) : Type 0 where
  pub text : List ℕ
  pub images : List ℕ
  pub octets : List ℕ
  pub letters : List ℕ
  pub images_long : length images ≡ images_room
  pub octets_long : longest_body ≤ length octets
  pub letters_right : are_letters letters ≡ true
  pub text' : List ℕ
  pub images' : List ℕ
  pub octets' : List ℕ
  pub letters' : List ℕ
  pub drives : Drives most text room images octets letters text' room' images' octets' letters'

-- Where the room may not hold the notes of a period there is no turn, and the room is as it was. 0
-- for `most` counts as 1.
pub record Runs (most : ℕ) (room room' : List ℕ) : Type 0 where
  pub idle : length room < period_room → room' ≡ room
  pub driven : period_room ≤ length room → DrivesIn (cond (eqb most 0) 1 most) room room'

-- Whatever parts the reads give: once the book is over, what the turns have written out, taken
-- together, is the report of the book, whatever of it is unread (proofs/AllTurns.antt).
abbrev pub TurnsRight : Type 0
TurnsRight =
    (most : ℕ) (text room images octets letters : List ℕ) (h : Held) (text' room' images' octets' letters' : List ℕ)
    (parts : List (List ℕ)) (out unread : List ℕ)
    → length images ≡ images_room → longest_body ≤ length octets → are_letters letters ≡ true
    → Chain most first text room images octets letters h text' room' images' octets' letters' parts out
    → h.why ≡ OVER → (h.whole ≡ true → unread ≡ []) → out ≡ report (joined parts ++ unread)

-- so that this is what a run has written out
abbrev pub RunRight : Type 0
RunRight =
    (most : ℕ) (room room' unread : List ℕ) (r : DrivesIn most room room')
    → r.drives.held.why ≡ OVER → (r.drives.held.whole ≡ true → unread ≡ [])
    → r.drives.out ≡ report (joined r.drives.parts ++ unread)

-- ---- The count is not used up. Where the room holds the notes of a period, there is at most one
-- turn more than there are octets read and written (proofs/Ending.antt),
abbrev pub FewTurns : Type 0
FewTurns =
    (most : ℕ) (text room images octets letters : List ℕ) (h : Held) (text' room' images' octets' letters' : List ℕ)
    (parts : List (List ℕ)) (out : List ℕ)
    → period_room ≤ length room
    → Chain most first text room images octets letters h text' room' images' octets' letters' parts out
    → length parts ≤ 1 + length (joined parts) + length out

-- so that a run goes on until the book is over or a write has failed, unless it reads and writes as
-- many octets as no run does.
abbrev pub RunEnds : Type 0
RunEnds =
    (most : ℕ) (room room' : List ℕ) (r : DrivesIn most room room') → period_room ≤ length room
    → 1 + length (joined r.drives.parts) + length r.drives.out < most_turns → Due r.drives.held → ⊥
