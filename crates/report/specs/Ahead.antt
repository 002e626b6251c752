-- Calls: a book that comes in parts, with lent room for its report: how far it has come, what is
-- still ahead, and what one call may do.
-- Interface: `BookState`, `fresh`, `calls_ahead`, `text_ahead`, `TEXT`, `ROOM`, `OVER`, `Stopped`,
-- `Driven`, `DrivenRight`, `ReadyState`. Assumes nothing.
use Rattle.std.specs.Prelude.{Bool, true, false, cond, List, [], ◌∷◌, ◌++◌, ◌≡◌, ℕ, ◌+◌, ◌≤◌, ◌<◌, length, take, drop}
use Rattle.hdlc.specs.Image.{longest_body}
use Rattle.bus_rules.specs.Calls.{Call}
use Rattle.bus_event.specs.Event.{images_room, are_letters}
use Rattle.bus_call_specs.specs.Kept.{Kept}
use Rattle.bus_call_specs.specs.Lists.{fresh_found}
use Rattle.book_line.specs.Line.{longest_line}
use Rattle.book_reader.specs.Book.{Answer}
use Rattle.book_reader.specs.Step.{before_first_line, step_at}
use Rattle.book_reader.specs.Parts.{to_come, joined}
use Rattle.book_reader.specs.declared.step.Step.{Step}
use Rattle.note_text.specs.NoteText.{heading, notes_text}
use Rattle.period_text.specs.PeriodText.{period_room}
use Rattle.report.specs.Report.{calls_of_answers, stop_of, report, book_calls}
use Rattle.report.specs.Told.{Ready, done_all, all_book_told}

-- How far a book has come. The last line's period is the number of periods run: the periods before
-- a line's own are run before its event is given. In a book from its beginning no period has been
-- run while its first line is still to come; in a state where some have, the book's lines come
-- after them.
pub record BookState : Type 0 where
  pub kept : Kept
  -- the stage of the book's reader (crate `book_reader`, specs/Step.antt)
  pub stage : ℕ
  -- whether the report's first line is written, and whether all is
  pub begun : Bool
  pub over : Bool

abbrev pub fresh : List ℕ → List ℕ → List ℕ → BookState
fresh images octets letters = record { kept = fresh_found images octets letters; stage = before_first_line; begun = false; over = false }

-- ---- What is ahead, where these octets of the book are left.
unfoldable pub answers_ahead : BookState → List ℕ → List Answer
answers_ahead s left = to_come (record { stage = s.stage; last = s.kept.bus.periods.0 }) left

-- the calls
unfoldable pub calls_ahead : BookState → List ℕ → List Call
calls_ahead s left = cond s.over [] (calls_of_answers s.kept.bus.periods.0 (answers_ahead s left))

-- the report's octets
unfoldable pub text_ahead : BookState → List ℕ → List ℕ
text_ahead s left =
    cond s.over []
    (cond s.begun [] heading
    ++ (notes_text (all_book_told s.kept (calls_of_answers s.kept.bus.periods.0 (answers_ahead s left)))
    ++ stop_of (answers_ahead s left)))

-- ---- One call with lent text and room. Why it stopped: 0 where it goes on.
abbrev pub TEXT : ℕ
TEXT = 1

abbrev pub ROOM : ℕ
ROOM = 2

abbrev pub OVER : ℕ
OVER = 3

-- The call has taken `taken` octets of the text and written `wrote` octets into the room. `whole`
-- says that no octets come later.
pub record Advanced (s : BookState) (text room : List ℕ) (whole : Bool) (s' : BookState) (taken wrote why : ℕ)
    (room' : List ℕ) : Type 0 where
  -- the calls that it has made on the bus are the next ones, and it has left what they left
  pub made : List Call
  pub left : s'.kept ≡ done_all s.kept made
  pub calls : (later : List ℕ) → (whole ≡ true → later ≡ [])
      → calls_ahead s (text ++ later) ≡ made ++ calls_ahead s' (drop taken text ++ later)
  -- what it has written is what was to be written next, no octet more or less; the octets behind it
  -- are as they were
  pub written : (later : List ℕ) → (whole ≡ true → later ≡ [])
      → text_ahead s (text ++ later) ≡ take wrote room' ++ text_ahead s' (drop taken text ++ later)
  pub behind : drop wrote room' ≡ drop wrote room
  pub long : length room' ≡ length room
  pub fits : wrote ≤ length room
  pub within : taken ≤ length text
  -- it stops for text: the report has its first line, the book is not over, the text left holds no
  -- whole line and nothing that decides the book, and more may come
  pub for_text : why ≡ TEXT
      → (whole ≡ false) × (s'.over ≡ false) × (s'.begun ≡ true)
      × (step_at text taken s'.stage s'.kept.bus.periods.0 false ≡ Step.More)
  -- it stops for room: less is left than the notes of a period may take
  pub for_room : why ≡ ROOM → length room < wrote + period_room
  -- it says that it is finished exactly where it is
  pub finished : why ≡ OVER → s'.over ≡ true
  pub over_said : s'.over ≡ true → why ≡ OVER

-- A call that has not gone on has stopped for one of these.
pub record Stopped (s : BookState) (text room : List ℕ) (whole : Bool) (s' : BookState) (taken wrote why : ℕ)
    (room' : List ℕ) : Type 0 where
  pub went : Advanced s text room whole s' taken wrote why room'
  pub goes_not_on : why ≡ 0 → ⊥
  pub listed : why ≤ OVER

-- Where it stops for text less than a line is left: a buffer that holds a longest line has room for
-- more (proofs/Driving.antt).
abbrev pub TextFew : Type 0
TextFew =
    (s s' : BookState) (text room room' : List ℕ) (whole : Bool) (taken wrote why : ℕ)
    → Advanced s text room whole s' taken wrote why room' → why ≡ TEXT → length (drop taken text) < longest_line

-- ---- A driver: it lends what it holds and some room, takes away what was written, and adds a part
-- of the book where text is needed; where no part is left it says that the text is whole. The
-- octets written and the calls made, taken together. A driver that learns of the book's end by
-- reading nothing has an empty last part.
pub data Driven : BookState → List ℕ → Bool → List (List ℕ) → List ℕ → List Call → Type 0 where
  over : {s : BookState} {held : List ℕ} {whole : Bool} {parts : List (List ℕ)} (room room' : List ℕ) (s' : BookState) (taken wrote : ℕ)
      → (g : Stopped s held room whole s' taken wrote OVER room') → Driven s held whole parts (take wrote room') g.went.made
  emptied : {s : BookState} {held : List ℕ} {whole : Bool} {parts : List (List ℕ)} {w : List ℕ} {calls : List Call}
      (room room' : List ℕ) (s' : BookState) (taken wrote : ℕ)
      → (g : Stopped s held room whole s' taken wrote ROOM room') → Driven s' (drop taken held) whole parts w calls
      → Driven s held whole parts (take wrote room' ++ w) (g.went.made ++ calls)
  filled : {s : BookState} {held part : List ℕ} {parts : List (List ℕ)} {w : List ℕ} {calls : List Call}
      (room room' : List ℕ) (s' : BookState) (taken wrote : ℕ)
      → (g : Stopped s held room false s' taken wrote TEXT room') → Driven s' (drop taken held ++ part) false parts w calls
      → Driven s held false (part ∷ parts) (take wrote room' ++ w) (g.went.made ++ calls)
  told : {s : BookState} {held : List ℕ} {w : List ℕ} {calls : List Call} → Driven s held true [] w calls → Driven s held false [] w calls

-- However the book is cut into parts and whatever room is lent each time: what is written is the
-- report of the book, and the calls made are the book's (proofs/Driving.antt).
pub record DrivenRight (parts : List (List ℕ)) (w : List ℕ) (calls : List Call) : Type 0 where
  pub report_is : w ≡ report (joined parts)
  pub calls_are : calls ≡ book_calls (joined parts)

abbrev pub WrittenRight : Type 0
WrittenRight =
    (images octets letters : List ℕ) (parts : List (List ℕ)) (w : List ℕ) (calls : List Call)
    → length images ≡ images_room → longest_body ≤ length octets → are_letters letters ≡ true
    → Driven (fresh images octets letters) [] false parts w calls → DrivenRight parts w calls

-- ---- No driver goes on for ever from here: whatever parts come and whatever it lends, as long as
-- the room holds the notes of a period each time, and whatever the calls do, as long as each does
-- what `Stopped` says.
pub data Ending : BookState → List ℕ → Bool → List (List ℕ) → Type 0 where
  ending : {s : BookState} {held : List ℕ} {whole : Bool} {parts : List (List ℕ)}
      → (emptied : (room room' : List ℕ) (s' : BookState) (taken wrote : ℕ) → period_room ≤ length room
      → Stopped s held room whole s' taken wrote ROOM room' → Ending s' (drop taken held) whole parts)
      → (filled : (room room' : List ℕ) (s' : BookState) (taken wrote : ℕ) (part : List ℕ) (rest : List (List ℕ)) → parts ≡ part ∷ rest
      → Stopped s held room whole s' taken wrote TEXT room' → Ending s' (drop taken held ++ part) whole rest)
      → (told : whole ≡ false → parts ≡ [] → Ending s held true [])
      → Ending s held whole parts

-- (proofs/Driving.antt)
abbrev pub NoneGoesOn : Type 0
NoneGoesOn = (s : BookState) (held : List ℕ) (parts : List (List ℕ)) → Ending s held false parts

-- ---- No call of a driver is refused: at first everything is in order, and so it is after each
-- call (proofs/Driving.antt).
abbrev pub ReadyState : BookState → Type 0
ReadyState s = Ready s.kept

abbrev pub FreshStateReady : Type 0
FreshStateReady =
    (images octets letters : List ℕ) → length images ≡ images_room → longest_body ≤ length octets → are_letters letters ≡ true
    → ReadyState (fresh images octets letters)

abbrev pub StateStaysReady : Type 0
StateStaysReady =
    (s s' : BookState) (text room room' : List ℕ) (whole : Bool) (taken wrote why : ℕ)
    → Stopped s text room whole s' taken wrote why room' → ReadyState s → ReadyState s'

-- A call for every argument that is not refused.
pub record OneCall (s : BookState) (text room : List ℕ) (whole : Bool) : Type 0 where
  pub after : BookState
  pub taken : ℕ
  pub wrote : ℕ
  pub why : ℕ
  pub room_after : List ℕ
  pub stopped : Stopped s text room whole after taken wrote why room_after

abbrev pub EveryCall : Type 0
EveryCall = (s : BookState) (text room : List ℕ) (whole : Bool) → ReadyState s → OneCall s text room whole

pub record Ends (s : BookState) (held : List ℕ) (whole : Bool) (parts : List (List ℕ)) : Type 0 where
  pub written : List ℕ
  pub made : List Call
  pub driven : Driven s held whole parts written made

-- So where there is such a call, a driver whose room holds the notes of a period comes to its end,
-- whatever the parts.
abbrev pub DriverEnds : Type 0
DriverEnds =
    EveryCall → (room : List ℕ) → period_room ≤ length room
    → (s : BookState) (held : List ℕ) (parts : List (List ℕ)) → ReadyState s → Ends s held false parts
