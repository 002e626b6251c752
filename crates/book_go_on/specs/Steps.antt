-- How the code goes: what steps do, from a place in the text and a number of octets written to
-- others: as `Advanced` of crate `report` (specs/Ahead.antt) says it of a call.
-- Interface: `IsRead`, `StepsBy`. Assumes nothing.
use Rattle.std.specs.Prelude.{Bool, true, false, cond, List, [], ◌++◌, ◌≡◌, ℕ, ◌+◌, ◌-◌, ◌≤◌, ◌<◌, length, drop}
use Rattle.bus_rules.specs.Calls.{Call}
use Rattle.book_reader.specs.Step.{step_at, value_at}
use Rattle.book_reader.specs.declared.step.Step.{Step}
use Rattle.note_text.specs.Room.{Put}
use Rattle.period_text.specs.PeriodText.{period_room}
use Rattle.report.specs.Told.{done_all}
use Rattle.report.specs.Ahead.{BookState, calls_ahead, text_ahead, TEXT, ROOM, OVER}

pub record Moves (text : List ℕ) (whole : Bool) (s : BookState) (at : ℕ) (room : List ℕ) (wrote : ℕ)
    (s' : BookState) (at' : ℕ) (room' : List ℕ) (wrote' : ℕ) : Type 0 where
  -- the calls made are the next ones, and they have left what is kept
  pub made : List Call
  pub left : s'.kept ≡ done_all s.kept made
  pub calls : (later : List ℕ) → (whole ≡ true → later ≡ [])
      → calls_ahead s (drop at text ++ later) ≡ made ++ calls_ahead s' (drop at' text ++ later)
  -- what is put into the room was to be written next, and it is all there
  pub new : List ℕ
  pub says : (later : List ℕ) → (whole ≡ true → later ≡ [])
      → text_ahead s (drop at text ++ later) ≡ new ++ text_ahead s' (drop at' text ++ later)
  pub put : Put room wrote new wrote' room'
  pub fits : wrote + length new ≤ length room
  pub within : at ≤ length text → at' ≤ length text

-- What is left to do falls with each step that goes on: text, or the report's first line.
unfoldable pub to_do : List ℕ → BookState → ℕ → ℕ
to_do text s at = length text - at + cond s.begun 0 1

pub record Steps (text : List ℕ) (whole : Bool) (s : BookState) (at : ℕ) (room : List ℕ) (wrote : ℕ)
    (s' : BookState) (at' : ℕ) (room' : List ℕ) (wrote' why : ℕ) : Type 0 where
  pub moves : Moves text whole s at room wrote s' at' room' wrote'
  pub on : why ≡ 0 → to_do text s' at' < to_do text s at
  pub for_text : why ≡ TEXT
      → (whole ≡ false) × (s'.over ≡ false) × (s'.begun ≡ true)
      × (step_at text at' s'.stage s'.kept.bus.periods.0 false ≡ Step.More)
  pub for_room : why ≡ ROOM → length room < wrote' + period_room
  pub finished : why ≡ OVER → s'.over ≡ true
  pub over_said : s'.over ≡ true → why ≡ OVER
  pub listed : why ≤ OVER

-- ---- A step is told what the book's reader has read, and the value of the line. It does with them
-- what `Steps` says, of every text and every place in it where a reader would read just that.
pub record Reads (text : List ℕ) (at : ℕ) (whole : Bool) (s : BookState) (said : Step) (value : List ℕ) : Type 0 where
  pub within : at ≤ length text
  pub says : step_at text at s.stage s.kept.bus.periods.0 whole ≡ said
  pub value_is : value_at text at said ≡ value

-- it was read from some text
pub record IsRead (s : BookState) (said : Step) (value : List ℕ) : Type 0 where
  pub text : List ℕ
  pub at : ℕ
  pub whole : Bool
  pub reads : Reads text at whole s said value

abbrev pub StepsBy : Step → List ℕ → BookState → List ℕ → ℕ → BookState → ℕ → List ℕ → ℕ → ℕ → Type 0
StepsBy said value s room wrote s' taken room' wrote' why =
    (text : List ℕ) (at : ℕ) (whole : Bool) → Reads text at whole s said value
    → Steps text whole s at room wrote s' (at + taken) room' wrote' why
